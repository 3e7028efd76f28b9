-- `plans::find_bounds_of` meets its contract: one law of Plain for each kind that is not left to another function. Assumes nothing.
use native.Mathlib.Omega.{arith}
use mathlib.Core.Path.{sym}
use mathlib.Core.Logic.{⊎_elim}
use Rattle.plans.proofs.Plain.{range-found, other-found, none-kind}
use Rattle.plans.proofs.find_bounds_of.Goals as goal

pub returns-in-Nothing : goal.returns-in-Nothing
returns-in-Nothing c =
    ⊎_elim
    (λ e. none-kind c.args.table.now c.kind_at-kind.ensures.passes c.args.k c.requires.inside c.requires.bounded 0 (sym (rw e at c.kind_at-kind.ensures.kind)) (λ z. omega arith) (λ z. omega arith) c.put_none.ensures)
    (λ e. none-kind c.args.table.now c.kind_at-kind.ensures.passes c.args.k c.requires.inside c.requires.bounded 1 (sym (rw e at c.kind_at-kind.ensures.kind)) (λ z. omega arith) (λ z. omega arith) c.put_none.ensures)
    c.in-Nothing.is

pub returns-in-Range : goal.returns-in-Range
returns-in-Range c = range-found c.args.table.now c.kind_at-kind.ensures.passes c.args.k c.requires.inside c.requires.bounded (sym c.in-Range.ensures.kind) c.a_at-a.ensures c.b_at-b.ensures c.put.ensures

pub returns-in-Other : goal.returns-in-Other
returns-in-Other c = other-found c.args.table.now c.kind_at-kind.ensures.passes c.args.k c.requires.inside c.requires.bounded (sym c.in-Other.ensures.kind) c.a_at-a.ensures c.b_at-b.ensures c.put_other.ensures
