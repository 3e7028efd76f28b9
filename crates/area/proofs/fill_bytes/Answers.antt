-- `area::fill_bytes` meets its contract.
-- Assumes nothing.
use native.Mathlib.Omega.{arith}
use mathlib.Core.Path.{refl}
use Rattle.area.proofs.Filling.{line-start, rest-sized, rest-filled, line-end}
use Rattle.area.proofs.fill_bytes.Goals as goal

pub loop-i-init : goal.loop-i-init
loop-i-init c = record { size = refl; filled = line-start _ _ _ _ c.requires.sized c.requires.empty_told }

pub fill_byte-requires-clause-sized : goal.fill_byte-requires-clause-sized
fill_byte-requires-clause-sized c = rest-sized c.args.table.now c.args.plan.now.bounds c.args.line.now _ c.requires.sized c.loop-i.work c.loop-i.invariant.size _ c.loop-i-test.true (omega arith)

pub fill_byte-requires-clause-filled : goal.fill_byte-requires-clause-filled
fill_byte-requires-clause-filled c = rest-filled c.args.table.now c.args.plan.now.bounds c.args.line.now _ c.requires.sized c.loop-i.work c.loop-i.invariant.size _ c.loop-i-test.true (omega arith) c.loop-i.invariant.filled

pub returns-clause-told : goal.returns-clause-told
returns-clause-told c = line-end _ _ _ _ c.requires.sized _ _ c.loop-i-test.false c.loop-i.invariant.filled
