-- `rows::Row::lowest` meets its contract: byte 0 of the row is looked at where the header is above 1.
-- Assumes nothing.
use Prim.Native.Nat.{◌<◌}
use native.Mathlib.Omega.{arith}
use mathlib.Core.Path.{sym}
use Rattle.rows.proofs.Growing.{row-there, lowest-one, lowest-none, lowest-some}
use Rattle.rows.proofs.Row.lowest.Goals as goal

pub returns-then-h-le1 : goal.returns-then-h-le1
returns-then-h-le1 c = record { lowest = sym (lowest-one _ _ _ _ (omega arith)); positive = omega arith; byte = omega arith }

pub bounds-work-start : goal.bounds-work-start
bounds-work-start c = omega (arith, row-there c.requires.inside)

pub returns-then-low-eq0 : goal.returns-then-low-eq0
returns-then-low-eq0 c =
    let b : c.from-low.result < 256 = omega (arith, c.type_inv.work c.start.result) in
    lowest-none _ _ _ _ _ _ b c.from-low.ensures c.start.ensures (omega arith) c.if-low-eq0.true

pub returns : goal.returns
returns c =
    let b : c.from-low.result < 256 = omega (arith, c.type_inv.work c.start.result) in
    lowest-some _ _ _ _ _ _ b c.from-low.ensures c.start.ensures (omega arith) c.if-low-eq0.false
