-- Compare says 12 just of readings that do not fit: detail 0 of the first, 1 of the second where the first fits (document 01, "Who is
-- refused, and by which number").
-- Assumes nothing.
use Prim.Native.Nat.{ℕ, ◌<◌}
use mathlib.Core.Path.{◌≡◌, refl, sym, ◌∙◌}
use mathlib.Core.Bool.{Bool, true, false, not}
use mathlib.Core.List.{List}
use mathlib.Core.Logic.{◌↔◌}
use native.Mathlib.Omega.{arith}
use Rattle.posix.specs.Values.{Val, flat}
use Rattle.posix.specs.Decision.{Parsed, found, missing}
use Rattle.posix.specs.Ranking.{rank}
use Rattle.table.specs.Records.{count}
use Rattle.table.specs.Faults.{Passes}
use Rattle.table.specs.Answers.{gives, refuses}
use Rattle.table.specs.Checked.{or_else}
use Rattle.reading.specs.Fitting.{Fits, reading_of}
use Rattle.reading.proofs.Fitting.{found-fits, missing-unfit}
use Rattle.reading.proofs.Admission.{start_inside}
use Rattle.ranking.specs.Answers.{verdict_number, same_line, compare_values, compare_parsed, compare_says}

-- of two readings that fit, 14 or a result is said
not-12 : (c : Bool) (n d : ℕ) → or_else c (refuses 14 0) (gives n) ≡ refuses 12 d → ⊥
not-12 true n d e = let z : ◌≡◌ {A = ℕ} 14 12 = cc in omega arith
not-12 false n d e = let z : ◌≡◌ {A = ℕ} 0 1 = cc in omega arith

both-fitting : (v w : Val) (d : ℕ) → compare_values v w ≡ refuses 12 d → ⊥
both-fitting v w d = not-12 (not (same_line (flat v) (flat w))) (verdict_number (rank v w)) d

module _ (t : List ℕ) (k : ℕ) (bs cs : List ℕ) (p : Passes t) (l : k < count t) where
  said : compare_says t k bs cs ≡ compare_parsed (reading_of t k bs) (reading_of t k cs)
  unfolding compare_says
  said = (start_inside t k p l).said_on (compare_parsed (reading_of t k bs) (reading_of t k cs))

  -- what 12 with each detail says of the two
  first-parsed : (x y : Parsed) → reading_of t k bs ≡ x → (compare_parsed x y ≡ refuses 12 0) ↔ ¬ (Fits t k bs)
  first-parsed missing missing e = ((λ _. missing-unfit t k bs e), λ _. refl)
  first-parsed missing (found w) e = ((λ _. missing-unfit t k bs e), λ _. refl)
  first-parsed (found v) missing e = (
    (λ f. let z : ◌≡◌ {A = ℕ} 1 0 = cc in absurd (omega arith)),
    λ n. absurd (n (found-fits t k bs v e).0),
  )
  first-parsed (found v) (found w) e = ((λ f. absurd (both-fitting v w 0 f)), λ n. absurd (n (found-fits t k bs v e).0))

  second-parsed :
      (x y : Parsed) → reading_of t k bs ≡ x → reading_of t k cs ≡ y → (compare_parsed x y ≡ refuses 12 1) ↔ (Fits t k bs × ¬ (Fits t k cs))
  second-parsed missing missing e g = (
    (λ f. let z : ◌≡◌ {A = ℕ} 0 1 = cc in absurd (omega arith)),
    λ n. absurd (missing-unfit t k bs e n.0),
  )
  second-parsed missing (found w) e g = (
    (λ f. let z : ◌≡◌ {A = ℕ} 0 1 = cc in absurd (omega arith)),
    λ n. absurd (missing-unfit t k bs e n.0),
  )
  second-parsed (found v) missing e g = ((λ _. ((found-fits t k bs v e).0, missing-unfit t k cs g)), λ _. refl)
  second-parsed (found v) (found w) e g = ((λ f. absurd (both-fitting v w 1 f)), λ n. absurd (n.1 (found-fits t k cs w g).0))

  pub misfits-first : (compare_says t k bs cs ≡ refuses 12 0) ↔ ¬ (Fits t k bs)
  misfits-first = (
    (λ e. (first-parsed (reading_of t k bs) (reading_of t k cs) refl).0 (sym said ∙ e)),
    λ n. said ∙ (first-parsed (reading_of t k bs) (reading_of t k cs) refl).1 n,
  )

  pub misfits-second : (compare_says t k bs cs ≡ refuses 12 1) ↔ (Fits t k bs × ¬ (Fits t k cs))
  misfits-second = (
    (λ e. (second-parsed (reading_of t k bs) (reading_of t k cs) refl refl).0 (sym said ∙ e)),
    λ n. said ∙ (second-parsed (reading_of t k bs) (reading_of t k cs) refl refl).1 n,
  )
