-- `plans::find_seq` meets its contract. A single byte and then a run with the same test is a run; otherwise the record is not plain.
-- Assumes nothing.
use native.Mathlib.Omega.{arith}
use mathlib.Core.Path.{◌≡◌, sym, ◌∙◌}
use denote.Enum.Bare.{same_true}
use Rattle.std.proofs.Common.{rules}
use Rattle.table.specs.contracts.Kind.{the_type}
use Rattle.table.specs.declared.Kind.TheVariants.{Star}
use Rattle.plans.proofs.Plain.{none-kind, seq-found}
use Rattle.plans.proofs.find_seq.Goals as goal

pub returns-then-same_ranges : goal.returns-then-same_ranges
returns-then-same_ranges c =
    let star : c.kind_at.result ≡ Star = same_true the_type (search rules) _ _ (sym c.eq-star.ensures ∙ c.if-star.true) in
    let run = c.is_run.ensures c.if-is_run.true in
    seq-found c.args.table.now c.requires.passes c.args.k c.requires.inside c.requires.bounded c.requires.kind c.a_at-a.ensures c.b_at-b.ensures (c.is_unit.ensures c.if-is_unit.true) (sym (rw star at c.kind_at.ensures.kind)) run.0 run.1 (c.same_ranges.ensures c.if-same_ranges.true) c.put_repeated.ensures

pub returns-else-is_unit : goal.returns-else-is_unit
returns-else-is_unit c = none-kind c.args.table.now c.requires.passes c.args.k c.requires.inside c.requires.bounded 4 c.requires.kind (λ z. omega arith) (λ z. omega arith) c.put_none.ensures
