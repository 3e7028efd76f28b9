-- `rows::Row::mark_lengths` meets its contract: the marks that are stored are those of the run below the whole block's length.
-- Assumes nothing.
use Prim.Native.Nat.{◌+◌}
use native.Mathlib.Omega.{arith}
use Rattle.rows.proofs.Growing.{row-there, row-bound, marked-put}
use Rattle.rows.proofs.Row.mark_lengths.Goals as goal

pub overflow_add-to : goal.overflow_add-to
overflow_add-to c = omega (arith, row-bound c.requires.inside)

pub put-requires : goal.put-requires
put-requires c = omega (arith, row-there c.requires.inside)

pub returns-then-low-end : goal.returns-then-low-end
returns-then-low-end c =
    marked-put c.args.self.now.m c.args.self.now.d c.args.self.now.k c.args.low c.args.high _ c.requires.le_low
    (c.start.result + c.args.low) c.min-end.result _ (omega arith) c.min-end.ensures c.if-low-end.true
    c.put.ensures
