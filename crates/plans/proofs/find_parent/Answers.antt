-- `plans::find_parent` meets its contract: one law of Finding for each way out. Assumes nothing.
use native.Mathlib.Omega.{arith}
use Prim.Native.Nat.{ℕ, ◌+◌}
use mathlib.Core.Path.{◌≡◌, refl}
use mathlib.Core.Logic.{inl, inr, ⊎_elim}
use Rattle.table.specs.Records.{kind_at}
use Rattle.plans.specs.Plans.{Parents}
use Rattle.table.proofs.Passing.{count-bound}
use Rattle.plans.proofs.Finding.{plain-parent, star-parent, both-parent, seq-parent, no-parent}
use Rattle.plans.proofs.find_parent.Goals as goal

pub bounds-bounds-k : goal.bounds-bounds-k
bounds-bounds-k c = omega (arith, count-bound c.args.table.now c.requires.passes)

pub returns-then-bounds-k : goal.returns-then-bounds-k
returns-then-bounds-k c = plain-parent c.args.table.now c.args.bounds.now c.requires.passes _ c.requires.inside _ c.requires.parents c.if-bounds-k.true

pub returns-in-Star : goal.returns-in-Star
returns-in-Star c = star-parent c.args.table.now c.args.bounds.now c.requires.passes _ c.requires.inside _ c.requires.parents _ _ _ c.in-Star.ensures.kind c.a_at-a.ensures c.b_at-b.ensures refl (omega arith)

pub returns-in-Or : goal.returns-in-Or
returns-in-Or c = both-parent c.args.table.now c.args.bounds.now c.requires.passes _ c.requires.inside _ c.requires.parents _ _ _ c.in-Or.ensures.kind c.a_at-a.ensures c.b_at-b.ensures (inl refl) (omega arith) (omega arith)

pub returns-then-work-a-ne0 : goal.returns-then-work-a-ne0
returns-then-work-a-ne0 c = both-parent c.args.table.now c.args.bounds.now c.requires.passes _ c.requires.inside _ c.requires.parents _ _ _ c.in-Seq.ensures.kind c.a_at-a.ensures c.b_at-b.ensures (inr refl) (omega arith) (omega arith)

pub returns-else-work-a-ne0 : goal.returns-else-work-a-ne0
returns-else-work-a-ne0 c = seq-parent c.args.table.now c.args.bounds.now c.requires.passes _ c.requires.inside _ c.requires.parents _ _ _ c.in-Seq.ensures.kind c.a_at-a.ensures c.b_at-b.ensures _ c.requires.empty_told refl c.if-work-a-ne0.false (omega arith)

pub returns-in-Nothing : goal.returns-in-Nothing
returns-in-Nothing c =
    let other : (n : ℕ) → n ≡ kind_at c.args.table.now c.args.k → ¬ (n ≡ 3) → ¬ (n ≡ 4) → ¬ (n ≡ 5) → Parents c.args.table.now c.args.bounds.now (c.args.k + 1) c.args.up.now =
    λ n e. no-parent c.args.table.now c.args.bounds.now c.requires.passes _ c.requires.inside _ c.requires.parents n _ _ e c.a_at-a.ensures c.b_at-b.ensures in
    ⊎_elim (λ e. other 0 (rw e at c.kind_at-kind.ensures.kind) (λ z. omega arith) (λ z. omega arith) (λ z. omega arith))
    (⊎_elim (λ e. other 1 (rw e at c.kind_at-kind.ensures.kind) (λ z. omega arith) (λ z. omega arith) (λ z. omega arith))
    (⊎_elim (λ e. other 2 (rw e at c.kind_at-kind.ensures.kind) (λ z. omega arith) (λ z. omega arith) (λ z. omega arith)) (λ e. other 6 (rw e at c.kind_at-kind.ensures.kind) (λ z. omega arith) (λ z. omega arith) (λ z. omega arith))))
    c.in-Nothing.is
