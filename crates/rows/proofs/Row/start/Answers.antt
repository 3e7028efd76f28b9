-- `rows::Row::start` meets its contract: the products fit, and the formula is `row_at`'s.
-- Assumes nothing.
use Rattle.rows.proofs.Places.{row-formula}
use Rattle.rows.proofs.Row.start.Goals as goal

pub returns : goal.returns
returns c = row-formula c.args.self.now.m c.args.self.now.d c.args.self.now.k
