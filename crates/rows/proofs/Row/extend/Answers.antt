-- `rows::Row::extend` meets its contract.
-- Assumes nothing.
use Rattle.rows.proofs.Joining.{joining-none}
use Rattle.rows.proofs.Extending.{extended_run, extended_none}
use Rattle.rows.proofs.Row.extend.Goals as goal

pub returns-in_default-clause-grown : goal.returns-in_default-clause-grown
returns-in_default-clause-grown c =
    joining-none _ _ _ _ _ _ _ c.requires.cutting _ c.requires.le_c.0

pub returns-then-run-eq0-clause-grown : goal.returns-then-run-eq0-clause-grown
returns-then-run-eq0-clause-grown c =
    let r = c.reach-run.ensures in
    extended_none _ _ _ _ c.requires.cutting.growing _ _ c.longest-high.ensures.0 c.in-Some.ensures.lowest c.in-Some.ensures.positive
    _ _ _ _ _ _ _ r c.run_end-end.ensures.run c.if-run-eq0.true

pub returns-clause-grown : goal.returns-clause-grown
returns-clause-grown c =
    let r = c.reach-run.ensures in
    extended_run _ _ _ _ c.requires.cutting.growing _ _ c.longest-high.ensures.0 c.in-Some.ensures.lowest c.in-Some.ensures.positive
    _ _ _ _ _ _ _ r c.run_end-end.ensures.run _ c.set_run.ensures
