-- `rows::Row::head` meets its contract: the products fit, and the formula is `head_at`'s.
-- Assumes nothing.
use Rattle.rows.proofs.Places.{head-formula}
use Rattle.rows.proofs.Row.head.Goals as goal

pub returns : goal.returns
returns c = head-formula c.args.self.now.m c.args.self.now.d c.args.self.now.k
