-- What is written to standard error for a text that is refused: the refusal's number, and in words what is wrong.
-- Assumes nothing.
use Rattle.std.specs.Prelude.{ℕ, cond, List, [], ◌∷◌, ◌++◌, eqb, ltb, length}
use Rattle.notation.specs.Calls.{stops_at}
use Rattle.printing.specs.Decimal.{decimal}

-- "tracerules: refused "
abbrev pub refused_word : List ℕ
refused_word =
    0x74 ∷ 0x72 ∷ 0x61 ∷ 0x63 ∷ 0x65 ∷ 0x72 ∷ 0x75 ∷ 0x6c ∷ 0x65 ∷ 0x73 ∷ 0x3a ∷ 0x20 ∷ 0x72 ∷ 0x65 ∷ 0x66 ∷ 0x75 ∷ 0x73 ∷ 0x65 ∷ 0x64 ∷ 0x20 ∷ []

-- ": over 4096 bytes"
abbrev pub over_word : List ℕ
over_word = 0x3a ∷ 0x20 ∷ 0x6f ∷ 0x76 ∷ 0x65 ∷ 0x72 ∷ 0x20 ∷ 0x34 ∷ 0x30 ∷ 0x39 ∷ 0x36 ∷ 0x20 ∷ 0x62 ∷ 0x79 ∷ 0x74 ∷ 0x65 ∷ 0x73 ∷ []

-- ": outside the notation at offset "
abbrev pub outside_word : List ℕ
outside_word =
    0x3a ∷ 0x20 ∷ 0x6f ∷ 0x75 ∷ 0x74 ∷ 0x73 ∷ 0x69 ∷ 0x64 ∷ 0x65 ∷ 0x20 ∷ 0x74 ∷ 0x68 ∷ 0x65 ∷ 0x20 ∷ 0x6e ∷ 0x6f ∷ 0x74 ∷ 0x61 ∷ 0x74 ∷ 0x69 ∷ 0x6f ∷ 0x6e ∷ 0x20 ∷ 0x61 ∷ 0x74 ∷ 0x20 ∷ 0x6f ∷ 0x66 ∷ 0x66 ∷ 0x73 ∷ 0x65 ∷ 0x74 ∷ 0x20 ∷ []

-- ": more than 255 records"
abbrev pub records_word : List ℕ
records_word =
    0x3a ∷ 0x20 ∷ 0x6d ∷ 0x6f ∷ 0x72 ∷ 0x65 ∷ 0x20 ∷ 0x74 ∷ 0x68 ∷ 0x61 ∷ 0x6e ∷ 0x20 ∷ 0x32 ∷ 0x35 ∷ 0x35 ∷ 0x20 ∷ 0x72 ∷ 0x65 ∷ 0x63 ∷ 0x6f ∷ 0x72 ∷ 0x64 ∷ 0x73 ∷ []

-- what is wrong with a text that is refused by 15: its length, or the byte at which it stops being readable
abbrev pub fault_of : List ℕ → List ℕ
fault_of s = cond (ltb 4096 (length s)) over_word (outside_word ++ decimal (stops_at s))

-- why text s is refused by number n; of a number other than 15 and 16, which no text has (Outputs.refused-by), nothing is said
abbrev pub reason : List ℕ → ℕ → List ℕ
reason s n = cond (eqb n 15) (fault_of s) (cond (eqb n 16) records_word [])

-- the line for text s, refused by number n
abbrev pub refused_line : List ℕ → ℕ → List ℕ
refused_line s n = refused_word ++ (decimal n ++ (reason s n ++ (10 ∷ [])))
