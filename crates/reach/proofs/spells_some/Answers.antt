-- `reach::spells_some` meets its contract: one law of Searching for each way out.
-- Assumes nothing.
use mathlib.Core.Path.{refl, sym, ◌∙◌}
use mathlib.Core.Logic.{inl, inr, ⊎_elim}
use Rattle.reach.proofs.Searching.{some-nothing, some-unit, some-letter, some-or-first, some-or-second, some-seq-first, some-seq-none}
use Rattle.reach.proofs.spells_some.Goals as goal

pub returns-in-Nothing-clause-value : goal.returns-in-Nothing-clause-value
returns-in-Nothing-clause-value c = some-nothing c.args.table.now c.kind_at-kind.ensures.passes c.args.k c.requires.inside c.in-Nothing.ensures.kind c.a_at-a.ensures c.b_at-b.ensures c.requires.found refl

pub returns-in-Empty-clause-value : goal.returns-in-Empty-clause-value
returns-in-Empty-clause-value c =
    ⊎_elim
    (λ x. some-unit c.args.table.now c.kind_at-kind.ensures.passes c.args.k c.requires.inside (rw x at c.kind_at-kind.ensures.kind) c.a_at-a.ensures c.b_at-b.ensures c.requires.found (inl refl))
    (λ x. some-unit c.args.table.now c.kind_at-kind.ensures.passes c.args.k c.requires.inside (rw x at c.kind_at-kind.ensures.kind) c.a_at-a.ensures c.b_at-b.ensures c.requires.found (inr refl))
    c.in-Empty.is

pub returns-in-Range-clause-value : goal.returns-in-Range-clause-value
returns-in-Range-clause-value c =
    c.letter_holds_some.ensures ∙ some-letter c.args.table.now c.kind_at-kind.ensures.passes c.args.k c.requires.inside (c.number.ensures ∙ c.kind_at-kind.ensures.kind) c.a_at-a.ensures c.b_at-b.ensures c.requires.found
    (⊎_elim (λ x. inl (rw x at c.number.ensures)) (λ x. inr (rw x at c.number.ensures)) c.in-Range.is)

pub returns-then-is_marked-clause-value : goal.returns-then-is_marked-clause-value
returns-then-is_marked-clause-value c =
    c.if-is_marked.true ∙ some-or-first c.args.table.now c.kind_at-kind.ensures.passes c.args.k c.requires.inside c.in-Or.ensures.kind c.a_at-a.ensures c.b_at-b.ensures c.requires.found refl (sym c.is_marked.ensures ∙ c.if-is_marked.true)

pub returns-else-is_marked-clause-value : goal.returns-else-is_marked-clause-value
returns-else-is_marked-clause-value c =
    c.is_marked-else-is_marked.ensures ∙ some-or-second c.args.table.now c.kind_at-kind.ensures.passes c.args.k c.requires.inside c.in-Or.ensures.kind c.a_at-a.ensures c.b_at-b.ensures c.requires.found refl (sym c.is_marked.ensures ∙ c.if-is_marked.false)

pub returns-then-is_marked-2-clause-value : goal.returns-then-is_marked-2-clause-value
returns-then-is_marked-2-clause-value c =
    c.is_marked-then-is_marked-2.ensures ∙ some-seq-first c.args.table.now c.kind_at-kind.ensures.passes c.args.k c.requires.inside c.in-Seq.ensures.kind c.a_at-a.ensures c.b_at-b.ensures c.requires.found refl (sym c.is_marked-in-Seq.ensures ∙ c.if-is_marked-2.true)

pub returns-else-is_marked-2-clause-value : goal.returns-else-is_marked-2-clause-value
returns-else-is_marked-2-clause-value c =
    c.if-is_marked-2.false ∙ some-seq-none c.args.table.now c.kind_at-kind.ensures.passes c.args.k c.requires.inside c.in-Seq.ensures.kind c.a_at-a.ensures c.b_at-b.ensures c.requires.found refl (sym c.is_marked-in-Seq.ensures ∙ c.if-is_marked-2.false)
