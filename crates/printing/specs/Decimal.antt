-- Numbers in decimal, as bytes.
-- Assumes nothing.
use Rattle.std.specs.Prelude.{ℕ, zero, suc, ◌+◌, ◌/◌, ◌%◌, Bool, true, false, List, [], ◌∷◌, ◌++◌, ltb}

abbrev pub pick_text : Bool → List ℕ → List ℕ → List ℕ
pick_text true a b = a
pick_text false a b = b

-- the decimal digits of a number of at most so many digits, without zeros in front
abbrev pub digits_by : ℕ → ℕ → List ℕ
digits_by zero n = []
digits_by (suc f) n = pick_text (ltb n 10) ((48 + n) ∷ []) (digits_by f (n / 10) ++ ((48 + n % 10) ∷ []))

-- a number below 10^20, as every 64-bit number is, in decimal
unfoldable pub decimal : ℕ → List ℕ
decimal n = digits_by 20 n
