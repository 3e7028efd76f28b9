-- The ways out of Apart: each answer is what `apart_says` says, and where it is 1 the alternatives share no line.
-- Assumes nothing.
use Prim.Native.Nat.{ℕ, ◌+◌, ◌*◌, ◌<◌}
use native.Mathlib.Omega.{arith}
use mathlib.Core.Path.{◌≡◌, refl, sym, ◌∙◌}
use mathlib.Core.Logic.{inl}
use mathlib.Core.Bool.{Bool, false, cond}
use mathlib.Core.List.{List}
use borrow.Author.Tests.{ne_eqb}
use lib.Dec.{eqb}
use lib.ListN.{length}
use Rattle.table.specs.declared.Refusal.{Refusal}
use Rattle.table.specs.declared.Kind.{Kind}
use Rattle.table.specs.declared.Kind.TheVariants.{Nothing, Empty, Range, Or, Seq, Star, Other}
use Rattle.table.specs.Kinds.{number_of}
use Rattle.std.specs.Prelude.{Result, Ok, Err}
use Rattle.table.specs.Records.{count, kind_at, a_at, b_at}
use Rattle.table.specs.Answers.{Said, gives, refusal, rules_say}
use Rattle.table.specs.Expression.{exp_of}
use Rattle.table.proofs.Passing.{count-bound, a-below, b-below}
use Rattle.reading.specs.Calls.{if_start}
use Rattle.reading.proofs.Admission.{Admitted, not-admitted}
use Rattle.reorder.specs.Exchanges.{Apart}
use Rattle.reorder.specs.Tests.{edges_apart, seen_apart}
use Rattle.apart.specs.Calls.{apart_says}
use Rattle.apart.specs.Shared.{shared_below, Told}
use Rattle.apart.proofs.Sharing.{told-all}
use Rattle.apart.proofs.Yes.{yes-apart}

-- the two clauses of the contract, of an answer
abbrev Right : List ℕ → ℕ → Said → Type 0
Right t k said = (said ≡ apart_says t k) × (said ≡ gives 1 → Apart t k)

right : (t : List ℕ) (k : ℕ) (said : Said) → said ≡ apart_says t k → Right t k said
right t k said e = (e, λ (y : said ≡ gives 1). yes-apart t k (sym e ∙ y))

pub outcome-refused :
    (t : List ℕ) (k : ℕ) (r : Result (List ℕ) Refusal) (why : Refusal) → rules_say r ≡ if_start t k (gives (count t)) → r ≡ Err why → Right t k (refusal why)
unfolding apart_says
outcome-refused t k r why e f = right t k (refusal why) (not-admitted t k r why e f (gives (cond (seen_apart t k) 1 0)))

-- a kind that is no Or has another number
pub other_number : (x : Kind) → (x ≡ Or → ⊥) → number_of x ≡ 3 → ⊥
other_number Nothing n e = omega (arith, e)
other_number Empty n e = omega (arith, e)
other_number Range n e = omega (arith, e)
other_number Or n e = n refl
other_number Seq n e = omega (arith, e)
other_number Star n e = omega (arith, e)
other_number Other n e = omega (arith, e)

module _ (t : List ℕ) (k : ℕ) (w : Admitted t k) where
  module _ (kind : ℕ) (e : kind ≡ kind_at t k) where
    -- record k is no Or
    pub outcome-other : ¬ (kind ≡ 3) → Right t k (gives 0)
    unfolding apart_says
    outcome-other h =
        let n : eqb (kind_at t k) 3 ≡ false = ne_eqb (kind_at t k) 3 (rw e at h) in
        right t k (gives 0) (sym (w.said_on (gives (cond (seen_apart t k) 1 0)) ∙ rw n))

    -- it is one
    module _ (o : kind ≡ 3) (a b : ℕ) (ea : a ≡ a_at t k) (eb : b ≡ b_at t k) where
      pub children-inside : (a < count t) × (b < count t)
      children-inside =
          let z : kind_at t k ≡ 3 = sym e ∙ o in
          (omega (arith, w.inside, a-below t w.passes k w.inside (inl z)), omega (arith, w.inside, b-below t w.passes k w.inside (inl z)))

      pub outcome-or :
          (s : ℕ) (r v : Bool) → s ≡ shared_below (exp_of t a) (exp_of t b) 256 → Told s r → r ≡ v → Right t k (gives (cond v 1 0))
      unfolding apart_says
      outcome-or s r v f h g =
          let z : kind_at t k ≡ 3 = sym e ∙ o in
          let y : edges_apart (exp_of t (a_at t k)) (exp_of t (b_at t k)) ≡ v =
          sym (told-all (exp_of t (a_at t k)) (exp_of t (b_at t k)) s r (rw (ea, eb) at f) h) ∙ g in
          right t k (gives (cond v 1 0)) (sym (w.said_on (gives (cond (seen_apart t k) 1 0)) ∙ rw (z, y)))
