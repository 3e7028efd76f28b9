-- parse finds exactly the POSIX reading, and nothing exactly outside L (document 01, "The relation").
-- Assumes nothing.
use Prim.Native.Nat.{ℕ}
use mathlib.Core.Path.{◌≡◌, refl, ap}
use mathlib.Core.List.{List}
use mathlib.Core.Logic.{◌↔◌}
use Rattle.posix.specs.Expressions.{Exp}
use Rattle.posix.specs.Values.{Val, flat, Reads}
use Rattle.posix.specs.Language.{L}
use Rattle.posix.specs.Relation.{Posix}
use Rattle.posix.specs.Decision.{Parsed, found, missing, parse}
use Rattle.posix.proofs.Parse.{View, is_found, is_missing, parse-view, parse-sound, parse-missing, posix-exists}
use Rattle.posix.proofs.Flats.{posix-flat, posix-reads, posix-spelled}
use Rattle.posix.proofs.Ahead.{posix-unique}

-- parse finds v just where v is the POSIX reading of the line
pub parse-found : (r : Exp) (s : List ℕ) (v : Val) → (parse r s ≡ found v) ↔ Posix s r v
parse-found r s v = (parse-sound r s v, λ p. go (parse-view r s) p)
  where
    go : {o : Parsed} → View r s o → Posix s r v → o ≡ found v
    go (is_found q) p = ap found (posix-unique q p)
    go (is_missing n) p = absurd (n (posix-spelled p))

-- parse finds nothing just where the expression does not spell the line
pub parse-none : (r : Exp) (s : List ℕ) → (parse r s ≡ missing) ↔ (¬ (L r s))
parse-none r s = (parse-missing r s, λ n. go (parse-view r s) n)
  where
    go : {o : Parsed} → View r s o → ¬ (L r s) → o ≡ missing
    go (is_found q) n = absurd (n (posix-spelled q))
    go (is_missing n) m = refl

-- every line of L is spelled by a reading: L is exactly the set of flats of readings
pub spelled-reads : (r : Exp) (s : List ℕ) → L r s → (v : Val) × Reads r v × (flat v ≡ s)
spelled-reads r s l =
    let e = posix-exists r s l in
    (e.0, posix-reads e.1, posix-flat e.1)
