-- `rows::Row::close_row` meets its contract: marks for every length are a run.
-- Assumes nothing.
use native.Mathlib.Omega.{arith}
use Rattle.rows.proofs.Growing.{row-there, no-run-long, told-no_run}
use Rattle.rows.proofs.Joining.{closed_run}
use Rattle.rows.proofs.Row.close_row.Goals as goal

pub all_set-requires : goal.all_set-requires
all_set-requires c = omega (arith, c.start-at.ensures, c.min-end.ensures, row-there c.requires.inside)

pub set_run-requires-clause-le_low : goal.set_run-requires-clause-le_low
set_run-requires-clause-le_low c =
    let long = no-run-long c.args.work.now c.args.self.now.m c.args.self.now.d c.args.self.now.k (told-no_run _ _ _ _ _ c.lowest.ensures c.if-is_some.ensures) in
    (omega arith, omega (arith, c.longest-h.ensures.0), omega (arith, c.longest-h.ensures.0, c.requires.shape.small))

pub returns : goal.returns
returns c =
    closed_run _ _ _ _ c.requires _ _ _ c.longest-h.ensures.0 (told-no_run _ _ _ _ _ c.lowest.ensures c.if-is_some.ensures) c.start-at.ensures c.min-end.ensures
    (c.all_set.ensures c.if-not-all_set.false) _ c.set_run.ensures
