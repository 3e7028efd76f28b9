-- `plans::Bounds::same_ranges` meets its contract. The tests compare the four columns of the ranges.
-- Assumes nothing.
use mathlib.Core.Path.{sym, ◌∙◌}
use mathlib.Core.Bool.{true≢false}
use borrow.Author.Tests.{eqb-true}
use Rattle.plans.proofs.Plain.{ranges-seen}
use Rattle.plans.proofs.Bounds.same_ranges.Goals as goal
use Rattle.plans.proofs.Bounds.same_ranges.Goals.{then-self-k, else-self-k, then-self-k-2, else-self-k-2}

pub returns-then-self-k-3 : goal.returns-then-self-k-3
returns-then-self-k-3 c =
    elim c.if-self-k-2.branch [
      | then-self-k-2 w ↦ elim c.if-self-k.branch [
        | then-self-k v ↦ ranges-seen c.args.self.now c.args.k c.args.j v.if-self-k.true (sym v.value-is ∙ w.if-self-k-2.true) (sym w.value-is ∙ c.if-self-k-3.true)
        | else-self-k v ↦ absurd (v.if-self-k.false (eqb-true _ _ (sym v.value-is ∙ w.if-self-k-2.true)))
      ]
      | else-self-k-2 w ↦ absurd (true≢false (sym c.if-self-k-3.true ∙ w.value-is ∙ w.if-self-k-2.false))
    ]
