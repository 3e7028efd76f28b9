-- The cases of extends follow from the definitions: one computation over the whole list, and what it means for each case.
-- Assumes nothing.
use Prim.Native.Nat.{ℕ}
use mathlib.Core.Path.{◌≡◌, refl, sym, ◌∙◌}
use mathlib.Core.Bool.{Bool, true, false, true≢false}
use mathlib.Core.List.{List, map, Memᴰ}
use Rattle.posix.specs.Expressions.{Exp}
use Rattle.posix.specs.Extends.{extends}
use Rattle.posix.specs.ExtendsCases.{ExtendsCase, extends_as, computed, stated, extends_cases, Meaning}
use Rattle.posix.proofs.Extends.{extends-sound, extends-complete}
use Rattle.posix.proofs.Cases.{map_same}

-- every case comes out as it is stated
pub extends-cases-hold : map computed extends_cases ≡ map stated extends_cases
extends-cases-hold = refl

answer-means : (r : Exp) (s : List ℕ) (b : Bool) → extends r s ≡ b → Meaning (extends_as r s b)
answer-means r s true e = extends-sound r s e
answer-means r s false e = λ x. true≢false (sym (extends-complete r s x) ∙ e)

case-means : (c : ExtendsCase) → computed c ≡ stated c → Meaning c
case-means (extends_as r s b) e = answer-means r s b e

-- each case says truly that the line can or cannot become one of the expression
pub extends-cases-mean : (c : ExtendsCase) → Memᴰ c extends_cases → Meaning c
extends-cases-mean c m = case-means c (map_same computed stated extends_cases extends-cases-hold c m)
