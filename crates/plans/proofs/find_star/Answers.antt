-- `plans::find_star` meets its contract. A Star of a record that spells single bytes spells runs of them; otherwise the record is not plain.
-- Assumes nothing.
use Prim.Native.Nat.{◌<◌}
use native.Mathlib.Omega.{arith}
use Rattle.table.specs.Records.{a_at}
use Rattle.table.proofs.Passing.{star-a-below}
use Rattle.plans.proofs.Plain.{record-small, none-kind, star-found}
use Rattle.plans.proofs.find_star.Goals as goal

pub put_repeated-requires : goal.put_repeated-requires
put_repeated-requires c =
    let z : a_at c.args.table.now c.args.k < c.args.k = star-a-below c.args.table.now c.requires.passes c.args.k c.requires.inside c.requires.kind in
    (omega (arith, c.a_at-a.ensures), record-small c.args.table.now c.requires.passes c.args.k c.requires.inside)

pub put_none-requires : goal.put_none-requires
put_none-requires c = record-small c.args.table.now c.requires.passes c.args.k c.requires.inside

pub returns-then-is_unit : goal.returns-then-is_unit
returns-then-is_unit c = star-found c.args.table.now c.requires.passes c.args.k c.requires.inside c.requires.bounded c.requires.kind c.a_at-a.ensures (c.is_unit.ensures c.if-is_unit.true) c.put_repeated.ensures

pub returns-else-is_unit : goal.returns-else-is_unit
returns-else-is_unit c = none-kind c.args.table.now c.requires.passes c.args.k c.requires.inside c.requires.bounded 5 c.requires.kind (λ z. omega arith) (λ z. omega arith) c.put_none.ensures
