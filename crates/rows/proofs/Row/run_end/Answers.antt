-- `rows::Row::run_end` meets its contract: a run ends at its longest length.
-- Assumes nothing.
use Rattle.rows.proofs.Reaching.{end-run}
use Rattle.rows.proofs.Row.run_end.Goals as goal

pub returns-in-Some-clause-run : goal.returns-in-Some-clause-run
returns-in-Some-clause-run c =
    let h = c.longest-h.ensures.0 in
    end-run _ _ _ _ _ c.requires.held _ _ h c.in-Some.ensures.lowest c.in-Some.ensures.positive
