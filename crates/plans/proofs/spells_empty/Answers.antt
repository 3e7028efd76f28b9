-- `plans::spells_empty` meets its contract: one law of Finding for each kind. Assumes nothing.
use mathlib.Core.Path.{sym}
use mathlib.Core.Logic.{inl, inr, ⊎_elim}
use Rattle.plans.proofs.Finding.{empty-nothing, empty-empty, empty-letter, empty-star, or-by-first, or-by-second, seq-by-first, seq-by-second}
use Rattle.plans.proofs.spells_empty.Goals as goal

pub returns-in-Empty : goal.returns-in-Empty
returns-in-Empty c =
    ⊎_elim
    (λ e. empty-empty c.args.table.now c.kind_at-kind.ensures.passes c.args.k c.requires.inside (sym (rw e at c.kind_at-kind.ensures.kind)))
    (λ e. empty-star c.args.table.now c.kind_at-kind.ensures.passes c.args.k c.requires.inside (sym (rw e at c.kind_at-kind.ensures.kind)))
    c.in-Empty.is

pub returns-then-work-a-ne0 : goal.returns-then-work-a-ne0
returns-then-work-a-ne0 c = or-by-first c.args.table.now c.kind_at-kind.ensures.passes c.args.k c.requires.inside _ _ c.a_at-a.ensures c.b_at-b.ensures _ c.requires.empty_told (sym c.in-Or.ensures.kind) c.if-work-a-ne0.true

pub returns-else-work-a-ne0 : goal.returns-else-work-a-ne0
returns-else-work-a-ne0 c = or-by-second c.args.table.now c.kind_at-kind.ensures.passes c.args.k c.requires.inside _ _ c.a_at-a.ensures c.b_at-b.ensures _ c.requires.empty_told (sym c.in-Or.ensures.kind) c.if-work-a-ne0.false

pub returns-then-work-a-ne0-2 : goal.returns-then-work-a-ne0-2
returns-then-work-a-ne0-2 c = seq-by-second c.args.table.now c.kind_at-kind.ensures.passes c.args.k c.requires.inside _ _ c.a_at-a.ensures c.b_at-b.ensures _ c.requires.empty_told (sym c.in-Seq.ensures.kind) c.if-work-a-ne0-2.true

pub returns-else-work-a-ne0-2 : goal.returns-else-work-a-ne0-2
returns-else-work-a-ne0-2 c = seq-by-first c.args.table.now c.kind_at-kind.ensures.passes c.args.k c.requires.inside _ _ c.a_at-a.ensures c.b_at-b.ensures _ c.requires.empty_told (sym c.in-Seq.ensures.kind) c.if-work-a-ne0-2.false

pub returns-in-Nothing : goal.returns-in-Nothing
returns-in-Nothing c =
    ⊎_elim
    (λ e. empty-nothing c.args.table.now c.kind_at-kind.ensures.passes c.args.k c.requires.inside (sym (rw e at c.kind_at-kind.ensures.kind)))
    (⊎_elim
    (λ e. empty-letter c.args.table.now c.kind_at-kind.ensures.passes c.args.k c.requires.inside (inl (sym (rw e at c.kind_at-kind.ensures.kind))))
    (λ e. empty-letter c.args.table.now c.kind_at-kind.ensures.passes c.args.k c.requires.inside (inr (sym (rw e at c.kind_at-kind.ensures.kind)))))
    c.in-Nothing.is
