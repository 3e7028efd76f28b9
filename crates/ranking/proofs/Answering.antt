-- The ways out of Compare and Earlier, each with what it says (document 01, "Precedence of readings", and the order of refusals).
-- Assumes nothing.
use Prim.Native.Nat.{ℕ, zero, suc, ◌≤◌, ◌<◌}
use mathlib.Core.Path.{◌≡◌, refl, sym, ◌∙◌, ap, ap₂}
use mathlib.Core.Bool.{Bool, true, false, not}
use mathlib.Core.List.{List}
use native.Mathlib.Omega.{arith}
use Rattle.posix.specs.Values.{flat}
use Rattle.posix.specs.Decision.{Parsed, found, missing}
use Rattle.posix.specs.Ranking.{rank}
use Rattle.table.specs.declared.Refusal.{Refusal}
use Rattle.std.specs.Prelude.{Result, Ok, Err}
use Rattle.table.specs.Records.{count}
use Rattle.table.specs.Answers.{Said, gives, refuses, refusal, says, rules_say}
use Rattle.table.specs.Checked.{or_else}
use Rattle.reading.specs.Codec.{records_of}
use Rattle.reading.specs.Fitting.{Fits, spelled, reading_of}
use Rattle.reading.specs.Calls.{if_start}
use Rattle.reading.proofs.Admission.{Admitted, not-admitted, refusal-numbers}
use Rattle.reading.proofs.Fitting.{fits-found}
use Rattle.reading.proofs.Lengths.{spelled-fits}
use Rattle.ranking.specs.Answers.{verdict_number, same_line, compare_values, compare_parsed, compare_says, the_first, the_second, neither, chosen}
use Rattle.ranking.specs.Records.{rank_records}
use Rattle.ranking.proofs.Records.{rank-fitting}

-- two readings that fit, by their lines
module _ {t : List ℕ} {k : ℕ} {bs cs : List ℕ} (f : Fits t k bs) (g : Fits t k cs) where
  by-line :
      (b : Bool) → b ≡ same_line (spelled bs) (spelled cs)
      → compare_values f.value g.value ≡ or_else (not b) (refuses 14 0) (gives (verdict_number (rank f.value g.value)))
  by-line b e =
      let e' : same_line (flat f.value) (flat g.value) ≡ b = ap₂ same_line (sym (spelled-fits f)) (sym (spelled-fits g)) ∙ sym e in rw e'

  pub lines-differ : false ≡ same_line (spelled bs) (spelled cs) → refuses 14 0 ≡ compare_values f.value g.value
  lines-differ e = sym (by-line false e)

  pub ranks :
      {n : ℕ} → true ≡ same_line (spelled bs) (spelled cs) → n ≡ verdict_number (rank_records (records_of bs) (records_of cs))
      → gives n ≡ compare_values f.value g.value
  ranks e h = ap gives (h ∙ ap verdict_number (rank-fitting f g)) ∙ sym (by-line true e)

-- 1 to 6 and 9
pub compare-table :
    (t : List ℕ) (k : ℕ) (bs cs : List ℕ) (r : Result (List ℕ) Refusal) (why : Refusal) → rules_say r ≡ if_start t k (gives (count t)) → r ≡ Err why
    → refusal why ≡ compare_says t k bs cs
unfolding compare_says
compare-table t k bs cs r why e f = not-admitted t k r why e f (compare_parsed (reading_of t k bs) (reading_of t k cs))

module _ (t : List ℕ) (k : ℕ) (bs cs : List ℕ) (a : Admitted t k) where
  -- 12
  pub misfit-first : reading_of t k bs ≡ missing → refuses 12 0 ≡ compare_says t k bs cs
  unfolding compare_says
  misfit-first e = sym (a.said_on (compare_parsed (reading_of t k bs) (reading_of t k cs)) ∙ ap (λ (z : Parsed). compare_parsed z (reading_of t k cs)) e ∙ go (reading_of t k cs))
    where
      go : (z : Parsed) → compare_parsed missing z ≡ refuses 12 0
      go missing = refl
      go (found w) = refl

  pub misfit-second : Fits t k bs → reading_of t k cs ≡ missing → refuses 12 1 ≡ compare_says t k bs cs
  unfolding compare_says
  misfit-second f e = sym (a.said_on (compare_parsed (reading_of t k bs) (reading_of t k cs)) ∙ ap₂ compare_parsed (fits-found f) e)

  -- the rest
  pub both-fit : (f : Fits t k bs) (g : Fits t k cs) (said : Said) → said ≡ compare_values f.value g.value → said ≡ compare_says t k bs cs
  unfolding compare_says
  both-fit f g said e =
      e ∙ sym (a.said_on (compare_parsed (reading_of t k bs) (reading_of t k cs)) ∙ ap₂ compare_parsed (fits-found f) (fits-found g))

-- what Earlier goes by
pub chosen-first : (r : Result ℕ Refusal) (said : Said) (n : ℕ) → says r ≡ said → r ≡ Ok n → n < 2 → chosen said ≡ the_first
chosen-first r said n e f h = ap chosen (sym e ∙ ap says f) ∙ go n h
  where
    go : (n : ℕ) → n < 2 → chosen (gives n) ≡ the_first
    go zero h = refl
    go (suc zero) h = refl
    go (suc (suc n)) h = absurd (omega arith)

pub chosen-second : (r : Result ℕ Refusal) (said : Said) (n : ℕ) → says r ≡ said → r ≡ Ok n → 2 ≤ n → chosen said ≡ the_second
chosen-second r said n e f h = ap chosen (sym e ∙ ap says f) ∙ go n h
  where
    go : (n : ℕ) → 2 ≤ n → chosen (gives n) ≡ the_second
    go zero h = absurd (omega arith)
    go (suc zero) h = absurd (omega arith)
    go (suc (suc n)) h = refl

pub chosen-neither : (r : Result ℕ Refusal) (said : Said) (why : Refusal) → says r ≡ said → r ≡ Err why → chosen said ≡ neither
chosen-neither r said why e f =
    let x : (n : ℕ) × (d : ℕ) × (refusal why ≡ refuses n d) = refusal-numbers why in
    ap chosen (sym e ∙ ap says f ∙ x.2)

-- the three are different
pub first-second : the_first ≡ the_second → ⊥
first-second e = let z : ◌≡◌ {A = ℕ} 0 1 = cc in omega arith

pub first-neither : the_first ≡ neither → ⊥
first-neither e = let z : ◌≡◌ {A = ℕ} 0 1 = cc in omega arith

pub second-neither : the_second ≡ neither → ⊥
second-neither e = let z : ◌≡◌ {A = ℕ} 0 1 = cc in omega arith
