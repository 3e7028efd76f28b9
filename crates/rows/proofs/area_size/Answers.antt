-- `rows::area_size` meets its contract: the products fit, and the formula is document 01's.
-- Assumes nothing.
use mathlib.Core.Path.{sym}
use Rattle.rows.proofs.Places.{area_size-formula}
use Rattle.rows.proofs.area_size.Goals as goal

pub returns : goal.returns
returns c = sym (area_size-formula c.args.m c.args.n)
