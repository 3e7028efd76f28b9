-- `rows::Row::without_run` meets its contract: a row that is no run stays, and a run is written out.
-- Assumes nothing.
use Rattle.rows.proofs.Growing.{without-none, without-some}
use Rattle.rows.proofs.Row.without_run.Goals as goal

pub returns-in-Some : goal.returns-in-Some
returns-in-Some c =
    without-some c.requires _ _ c.in-Some.ensures.lowest c.longest-h.ensures.0 c.in-Some.ensures.positive c.write_out.ensures

pub returns-in_default : goal.returns-in_default
returns-in_default c = without-none c.requires c.in_default.ensures
