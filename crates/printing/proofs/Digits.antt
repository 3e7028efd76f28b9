-- Decimal digits: how many there are, and the digits of a number from those of its tenth.
-- Assumes nothing.
use Prim.Native.Nat.{ℕ, zero, suc, ◌+◌, ◌*◌, ◌/◌, ◌%◌, ◌≤◌, ◌<◌}
use mathlib.Core.Path.{◌≡◌, refl, ◌∙◌, ap}
use mathlib.Core.Bool.{Bool, true, false}
use mathlib.Core.List.{List, [], ◌∷◌, ◌++◌}
use native.Mathlib.Omega.{arith}
use borrow.Author.Tests.{ltb-false, lt-ltb, le-ltb}
use lib.Dec.{ltb}
use lib.ListN.{length, length-append}
use Rattle.printing.specs.Decimal.{pick_text, digits_by, decimal}

-- 10 to the power d + 1: the numbers below have at most d + 1 digits
abbrev tens : ℕ → ℕ
tens zero = 10
tens (suc d) = 10 * tens d

-- by whether there is one digit, from the tenth's digits
length-tenth :
    (f n : ℕ) → ((d : ℕ) → n / 10 < tens d → length (digits_by f (n / 10)) ≤ suc d) → (b : Bool) → ltb n 10 ≡ b → (d : ℕ) → n < tens d
    → length (pick_text b ((48 + n) ∷ []) (digits_by f (n / 10) ++ ((48 + n % 10) ∷ []))) ≤ suc d
length-tenth f n tenth true q d h = omega arith
length-tenth f n tenth false q zero h = absurd (omega (arith, ltb-false n 10 q))
length-tenth f n tenth false q (suc d) h =
    let l : length (digits_by f (n / 10)) ≤ suc d = tenth d (omega arith) in
    omega (arith, length-append (digits_by f (n / 10)) ((48 + n % 10) ∷ []))

-- a number of at most d + 1 digits
length_digits : (f d n : ℕ) → n < tens d → length (digits_by f n) ≤ suc d
length_digits zero d n h = omega arith
length_digits (suc f) d n h = length-tenth f n (λ e g. length_digits f e (n / 10) g) (ltb n 10) refl d h

-- more places than digits change nothing
digits_more : (d n : ℕ) → n < tens d → digits_by (suc d) n ≡ digits_by (suc (suc d)) n
digits_more zero n h = rw (lt-ltb n 10 h)
digits_more (suc d) n h = ap (λ (s : List ℕ). pick_text (ltb n 10) ((48 + n) ∷ []) (s ++ ((48 + n % 10) ∷ []))) (digits_more d (n / 10) (omega arith))

pub decimal_digit : (n : ℕ) → n < 10 → decimal n ≡ (48 + n) ∷ []
unfolding decimal
decimal_digit n h = rw (lt-ltb n 10 h)

pub decimal-digits : (n : ℕ) → 10 ≤ n → n < 18446744073709551616 → decimal n ≡ decimal (n / 10) ++ ((48 + n % 10) ∷ [])
unfolding decimal
decimal-digits n h g = rw (le-ltb n 10 h) (ap (λ (s : List ℕ). s ++ ((48 + n % 10) ∷ [])) (digits_more 18 (n / 10) (omega arith)))

-- a 64-bit number and a byte
pub length-decimal : (n : ℕ) → n < 18446744073709551616 → length (decimal n) ≤ 20
unfolding decimal
length-decimal n h = length_digits 20 19 n (omega arith)

pub length-decimal-byte : (n : ℕ) → n < 256 → length (decimal n) ≤ 3
unfolding decimal
length-decimal-byte n h = length_digits 20 2 n (omega arith)

pub length-one : (n : ℕ) → n < 10 → length (decimal n) ≡ 1
length-one n h = ap length (decimal_digit n h)

pub length_more : (n : ℕ) → 10 ≤ n → n < 18446744073709551616 → length (decimal n) ≡ length (decimal (n / 10)) + 1
length_more n h g = ap length (decimal-digits n h g) ∙ length-append (decimal (n / 10)) ((48 + n % 10) ∷ [])
