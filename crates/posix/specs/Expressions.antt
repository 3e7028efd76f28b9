-- Regular expressions over bytes: 001's, with a set of bytes for a letter (document 01, "The rule table", the column 'meaning', and document
-- 02, request 1).
-- Assumes nothing.
use Rattle.std.specs.Prelude.{ℕ, Bool, ◌&&◌, ◌||◌, leb, ltb}

-- a letter, a set of bytes by its bounds lo and hi
pub data ByteSet : Type 0 where
  within : ℕ → ℕ → ByteSet
  outside : ℕ → ℕ → ByteSet

-- the bounds allow the number: "a ≤ c ≤ b" of document 01's Range, "c < a or c > b" of document 02's Other
abbrev pub allows : ByteSet → ℕ → Bool
allows (within lo hi) c = leb lo c && leb c hi
allows (outside lo hi) c = ltb c lo || ltb hi c

-- the letter holds the number: "one byte c with .."; a byte is a number below 256
abbrev pub holds : ByteSet → ℕ → Bool
holds b c = ltb c 256 && allows b c

-- Nothing, Empty, a letter (Range or Other), Or, Seq, Star of the documents: 001's 0, 1, c, r1 + r2, r1 · r2, r*
pub data Exp : Type 0 where
  nothing : Exp
  empty : Exp
  letter : ByteSet → Exp
  or : Exp → Exp → Exp
  seq : Exp → Exp → Exp
  star : Exp → Exp
