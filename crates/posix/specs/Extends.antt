-- Lines that can still become lines of an expression (document 02, request 7: "whether some bytes after it, none included and of any number,
-- would make it spell a line"), and the decision, which computes by recursion on the expression.
-- Assumes nothing.
use Rattle.std.specs.Prelude.{ℕ, Bool, true, false, ◌&&◌, ◌||◌, List, [], ◌∷◌, ◌++◌, leb, ltb}
use Rattle.posix.specs.Expressions.{ByteSet, within, outside, holds, Exp, nothing, empty, letter, or, seq, star}
use Rattle.posix.specs.Language.{Bytes, L}
use Rattle.posix.specs.Spells.{some_cut, spells}

-- some bytes behind the line make it one that the expression spells
pub record Extends (r : Exp) (s : List ℕ) : Type 0 where
  pub more : List ℕ
  pub bytes : Bytes more
  pub spelled : L r (s ++ more)

-- the letter holds some byte
abbrev pub holds_some : ByteSet → Bool
holds_some (within lo hi) = leb lo hi && ltb lo 256
holds_some (outside lo hi) = ltb 0 lo || ltb hi 255

-- the decision of Extends. On the empty line it says whether the expression spells some line at all.
abbrev pub extends : Exp → List ℕ → Bool
extends nothing s = false
extends empty [] = true
extends empty (c ∷ s) = false
extends (letter b) [] = holds_some b
extends (letter b) (c ∷ []) = holds b c
extends (letter b) (c ∷ (d ∷ s)) = false
extends (or r1 r2) s = extends r1 s || extends r2 s
extends (seq r1 r2) s = (extends r1 s && extends r2 []) || some_cut (spells r1) (extends r2) s
extends (star r) [] = true
extends (star r) (c ∷ s) = some_cut (spells (star r)) (extends r) (c ∷ s)
