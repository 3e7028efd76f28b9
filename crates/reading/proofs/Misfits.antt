-- 12 is said just of bytes that do not fit the start record (document 01, "Who is refused, and by which number").
-- Assumes nothing.
use Prim.Native.Nat.{ℕ, ◌<◌}
use mathlib.Core.Path.{◌≡◌, refl, sym, ◌∙◌}
use mathlib.Core.Bool.{Bool, true, false}
use mathlib.Core.List.{List}
use mathlib.Core.Logic.{◌↔◌}
use native.Mathlib.Omega.{arith}
use lib.Dec.{ltb}
use lib.ListN.{length}
use Rattle.posix.specs.Values.{Val, flat}
use Rattle.posix.specs.Decision.{Parsed, found, missing}
use Rattle.table.specs.Records.{count}
use Rattle.table.specs.Faults.{Passes}
use Rattle.table.specs.Answers.{gives, refuses}
use Rattle.table.specs.Checked.{or_else}
use Rattle.reading.specs.Fitting.{Fits, reading_of}
use Rattle.table.specs.Buffers.{if_room}
use Rattle.reading.specs.Calls.{if_start, if_fits, spell_says}
use Rattle.reading.proofs.Fitting.{found-fits, missing-unfit}
use Rattle.reading.proofs.Admission.{start_inside}

-- of bytes that fit, 11 or a result is said
not-12 : (b : Bool) (n m : ℕ) → or_else b (refuses 11 n) (gives m) ≡ refuses 12 0 → ⊥
not-12 true n m e = let z : ◌≡◌ {A = ℕ} 11 12 = cc in omega arith
not-12 false n m e = let z : ◌≡◌ {A = ℕ} 0 1 = cc in omega arith

-- the calls that write bytes of a reading: Spell and Tokens
pub writes-unfit :
    (t : List ℕ) (k : ℕ) (bs : List ℕ) (room : ℕ) (bytes : Val → List ℕ) (result : Val → ℕ) → Passes t → k < count t
    → (if_start t k (if_fits (reading_of t k bs) (λ v. if_room room (bytes v) (result v))) ≡ refuses 12 0) ↔ ¬ (Fits t k bs)
writes-unfit t k bs room bytes result p l = (
  (λ e. (go (reading_of t k bs) refl).0 (sym ((start_inside t k p l).said_on _) ∙ e)),
  λ n. (start_inside t k p l).said_on _ ∙ (go (reading_of t k bs) refl).1 n,
)
  where
    go : (x : Parsed) → reading_of t k bs ≡ x → (if_fits x (λ v. if_room room (bytes v) (result v)) ≡ refuses 12 0) ↔ ¬ (Fits t k bs)
    go missing e = ((λ _. missing-unfit t k bs e), λ _. refl)
    go (found v) e = (
      (λ f. absurd (not-12 (ltb room (length (bytes v))) (length (bytes v)) (result v) f)),
      λ n. absurd (n (found-fits t k bs v e).0),
    )

-- Spell
pub spell-misfits :
    (t : List ℕ) (k : ℕ) (bs : List ℕ) (room : ℕ) → Passes t → k < count t → (spell_says t k bs room ≡ refuses 12 0) ↔ ¬ (Fits t k bs)
unfolding spell_says
spell-misfits t k bs room = writes-unfit t k bs room (λ v. flat v) (λ v. length (flat v))
