-- Whether two readings spell one line.
-- Assumes nothing.
use mathlib.Core.Path.{◌≡◌, refl, ap}
use mathlib.Core.Bool.{◌&&◌}
use mathlib.Core.List.{List, [], ◌∷◌, ◌++◌}
use Rattle.std.specs.Prelude.{ℕ}
use lib.Dec.{eqb}
use lib.ListN.{length, take}
use lib.Pointwise.{pointwise}
use Rattle.std.proofs.Math.Seq.{take-append_seam}
use Rattle.ranking.specs.Answers.{same_line}

-- what `==` says of two lines
pub pointwise-same : (s u : List ℕ) → pointwise eqb s u ≡ same_line s u
pointwise-same [] [] = refl
pointwise-same [] (d ∷ u) = refl
pointwise-same (c ∷ s) [] = refl
pointwise-same (c ∷ s) (d ∷ u) = ap (λ b. eqb c d && b) (pointwise-same s u)

-- the bytes in front of a buffer are the line that was put there
pub front : (s rest out : List ℕ) (n : ℕ) → n ≡ length s → out ≡ s ++ rest → take n out ≡ s
front s rest out n e f = rw (e, f) (take-append_seam s rest)
