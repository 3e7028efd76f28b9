-- `rows::Row::add_cuts` meets its contract.
-- Assumes nothing.
use Rattle.rows.proofs.Joining.{cuts-none, cuts-one}
use Rattle.rows.proofs.Row.add_cuts.Goals as goal

pub returns-then-h-eq0 : goal.returns-then-h-eq0
returns-then-h-eq0 c = cuts-none _ _ _ _ _ _ _ c.requires _ c.longest-h.ensures.0 c.if-h-eq0.true

pub returns-then-h-eq1 : goal.returns-then-h-eq1
returns-then-h-eq1 c = cuts-one _ _ _ _ _ _ _ c.requires _ c.longest-h.ensures.0 c.if-h-eq1.true _ c.add.ensures
