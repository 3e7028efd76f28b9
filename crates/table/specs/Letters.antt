-- Letters, Range and Other: their kinds, and the set of bytes of one by the bytes of its record.
-- Assumes nothing.
use Rattle.std.specs.Prelude.{ℕ, ◌≡◌, ◌⊎◌, cond, List, eqb}
use Rattle.posix.specs.Expressions.{ByteSet, within, outside}
use Rattle.table.specs.Records.{kind_at, a_at, b_at}

-- the kinds of a letter
abbrev pub LetterKind : ℕ → Type 0
LetterKind kind = (kind ≡ 2) ⊎ (kind ≡ 6)

-- the bytes of a letter of a kind with the bounds a and b: those of an Other at 6, otherwise those of a Range
abbrev pub byte_set : ℕ → ℕ → ℕ → ByteSet
byte_set kind a b = cond (eqb kind 6) (outside a b) (within a b)

-- the bytes of the letter at record k
abbrev pub byte_set_at : List ℕ → ℕ → ByteSet
byte_set_at t k = byte_set (kind_at t k) (a_at t k) (b_at t k)
