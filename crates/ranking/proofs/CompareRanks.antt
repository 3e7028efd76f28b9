-- Compare's answer is document 01's precedence ("Precedence of readings").
-- Assumes nothing.
use Prim.Native.Nat.{ℕ}
use mathlib.Core.Path.{◌≡◌, refl, sym, ◌∙◌, ap, ap₂, subst}
use mathlib.Core.Bool.{true}
use mathlib.Core.List.{List, [], ◌∷◌}
use mathlib.Core.Logic.{◌↔◌}
use native.Mathlib.Omega.{arith}
use borrow.Author.Tests.{eq-eqb}
use Rattle.posix.specs.Values.{flat}
use Rattle.posix.specs.Decision.{found}
use Rattle.posix.specs.Ranking.{Verdict, same, first, second, rank}
use Rattle.posix.proofs.Ranks.{rank-first, rank-second, rank_same}
use Rattle.table.specs.Answers.{Said, gives}
use Rattle.reading.specs.Codec.{encode}
use Rattle.reading.specs.Fitting.{reading_of}
use Rattle.reading.proofs.Admission.{start_inside}
use Rattle.reading.proofs.Fitting.{fits-found}
use Rattle.reading.proofs.Lengths.{spelled-fits}
use Rattle.ranking.specs.Answers.{verdict_number, same_line, compare_parsed, compare_says}
use Rattle.ranking.specs.OneLine.{OneLine, AnswersPrecedence}

-- a line is the same as itself
pub same_line-refl : (s : List ℕ) → same_line s s ≡ true
same_line-refl [] = refl
same_line-refl (c ∷ s) = rw (eq-eqb c c refl, same_line-refl s)

-- two verdicts with one number are the same
number-inj : (c d : Verdict) → verdict_number c ≡ verdict_number d → c ≡ d
number-inj same same e = refl
number-inj same first e = absurd (omega arith)
number-inj same second e = absurd (omega arith)
number-inj first same e = absurd (omega arith)
number-inj first first e = refl
number-inj first second e = absurd (omega arith)
number-inj second same e = absurd (omega arith)
number-inj second first e = absurd (omega arith)
number-inj second second e = refl

module _ {t : List ℕ} {k : ℕ} {bs cs : List ℕ} (o : OneLine t k bs cs) where
  lines : flat o.first.value ≡ flat o.second.value
  lines = sym (spelled-fits o.first) ∙ o.same_line ∙ spelled-fits o.second

  -- on two readings of one line Compare says how they rank
  pub compare-ranks : compare_says t k bs cs ≡ gives (verdict_number (rank o.first.value o.second.value))
  unfolding compare_says
  compare-ranks =
      let e : same_line (flat o.first.value) (flat o.second.value) ≡ true =
      ap (same_line (flat o.first.value)) (sym lines) ∙ same_line-refl (flat o.first.value) in
      (start_inside t k o.passes o.inside).said_on (compare_parsed (reading_of t k bs) (reading_of t k cs))
      ∙ ap₂ compare_parsed (fits-found o.first) (fits-found o.second)
      ∙ rw e

  answered : (d : Verdict) → (compare_says t k bs cs ≡ gives (verdict_number d)) ↔ (rank o.first.value o.second.value ≡ d)
  answered d = (
    (λ e. let z : gives (verdict_number (rank o.first.value o.second.value)) ≡ gives (verdict_number d) = sym compare-ranks ∙ e in number-inj (rank o.first.value o.second.value) d (cc)),
    λ e. compare-ranks ∙ ap (λ (c : Verdict). gives (verdict_number c)) e,
  )

  -- the answer is the precedence: 1 just where the first ranks ahead, 2 just where the second does, 0 just where the bytes are the same
  pub compared : AnswersPrecedence (λ x. compare_says t k bs cs ≡ x) bs cs o.first.value o.second.value
  compared =
      record {
        first_ahead = (
          (λ e. (rank-first o.first.reads o.second.reads lines).0 ((answered first).0 e)),
          λ a. (answered first).1 ((rank-first o.first.reads o.second.reads lines).1 a),
        );
        second_ahead = (
          (λ e. (rank-second o.first.reads o.second.reads lines).0 ((answered second).0 e)),
          λ a. (answered second).1 ((rank-second o.first.reads o.second.reads lines).1 a),
        );
        same_bytes = (
          (λ e. o.first.encoded ∙ ap (encode t k) ((rank_same o.first.reads o.second.reads lines).0 ((answered same).0 e)) ∙ sym o.second.encoded),
          λ e. (answered same).1 ((rank_same o.first.reads o.second.reads lines).1 (values e)),
        );
      }
    where
      values : bs ≡ cs → o.first.value ≡ o.second.value
      values e =
          let z : found o.first.value ≡ found o.second.value = sym (fits-found o.first) ∙ ap (reading_of t k) e ∙ fits-found o.second in
          cc

-- both clauses of Compare's contract, from the first
pub with-precedence :
    (t : List ℕ) (k : ℕ) (bs cs : List ℕ) {said : Said} → said ≡ compare_says t k bs cs
    → (said ≡ compare_says t k bs cs)
    × ((o : OneLine t k bs cs) → AnswersPrecedence (λ x. said ≡ x) bs cs o.first.value o.second.value)
with-precedence t k bs cs e = (
  e,
  λ o. subst (λ (y : Said). AnswersPrecedence (λ x. y ≡ x) bs cs o.first.value o.second.value) (sym e) (compared o),
)
