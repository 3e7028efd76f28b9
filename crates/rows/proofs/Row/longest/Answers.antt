-- `rows::Row::longest` meets its contract: the header stands inside the area.
-- Assumes nothing.
use Prim.Native.Nat.{◌<◌}
use native.Mathlib.Omega.{arith}
use Rattle.rows.proofs.Growing.{head-there, longest-read}
use Rattle.rows.proofs.Row.longest.Goals as goal

pub bounds-work-head : goal.bounds-work-head
bounds-work-head c = omega (arith, head-there c.requires)

pub returns : goal.returns
returns c =
    let b : c.from.result < 256 = omega (arith, c.type_inv.work c.head.result) in
    longest-read _ _ _ _ _ _ b c.from.ensures c.head.ensures
