-- `rows::Row::add_run` meets its contract: runs that touch make one run, and other rows are written out.
-- Assumes nothing.
use mathlib.Core.Logic.{inr}
use Rattle.rows.proofs.Growing.{no-run-long, run-first, run-joined}
use Rattle.rows.proofs.Row.add_run.Goals as goal

pub returns-then-h-eq0 : goal.returns-then-h-eq0
returns-then-h-eq0 c =
    run-first _ _ _ c.longest-h.ensures.0 c.if-h-eq0.true c.set_run.ensures

pub mark_run-requires-clause-long : goal.mark_run-requires-clause-long
mark_run-requires-clause-long c =
    inr (no-run-long _ _ _ _ c.in_default.ensures)

pub returns : goal.returns
returns c =
    run-joined _ _ _ c.longest-h.ensures.0 _ _ _ c.in-Some.ensures.lowest c.in-Some.ensures.positive c.if-h-low.false
    c.if-high-l.false c.requires.growing.shape
    c.if-h-eq0.false c.requires.le_low.1
    c.min.ensures c.max.ensures c.set_run-2.ensures
