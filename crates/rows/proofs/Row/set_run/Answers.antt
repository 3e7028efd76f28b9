-- `rows::Row::set_run` meets its contract: the header and byte 0 of the row make the run.
-- Assumes nothing.
use native.Mathlib.Omega.{arith}
use lib.ListN.{length-set}
use Rattle.rows.proofs.Growing.{head-there, row-there, run-set}
use Rattle.rows.proofs.Row.set_run.Goals as goal

pub bounds-work-head : goal.bounds-work-head
bounds-work-head c = omega (arith, head-there c.requires.inside)

pub bounds-work-at : goal.bounds-work-at
bounds-work-at c = simp length-set (omega (arith, row-there c.requires.inside))

pub returns : goal.returns
returns c = run-set c.requires.inside _ _ _ _ c.requires.le_low c.head-head.ensures c.start-at.ensures
