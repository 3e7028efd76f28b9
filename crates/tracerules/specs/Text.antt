-- The text of an input, and how much of an input is read.
-- Assumes nothing.
use Rattle.std.specs.Prelude.{ℕ, ◌-◌, Bool, cond, List, eqb, length, take, get_or}

-- whether the last byte is 10; of no bytes it is not
abbrev pub ends_line : List ℕ → Bool
ends_line input = eqb (get_or input (length input - 1) 0) 10

-- the input without one final byte 10
unfoldable pub text_of : List ℕ → List ℕ
text_of input = cond (ends_line input) (take (length input - 1) input) input

-- what is read of an input at most: the 4,096 bytes of the longest text, its final byte 10, and one byte by which a longer input shows
abbrev pub input_length : ℕ
input_length = 4098
