-- `rows::Row::write_out` meets its contract: zeros, then the marks of the run.
-- Assumes nothing.
use native.Mathlib.Omega.{arith}
use Rattle.rows.proofs.Growing.{row-there, explicit-of}
use Rattle.rows.proofs.Row.write_out.Goals as goal

pub put-requires : goal.put-requires
put-requires c = omega (arith, row-there c.requires.inside)

pub returns : goal.returns
returns c =
    explicit-of _ _ _ _ _ _ _ _ _ c.requires.le_d c.start-at.ensures c.put.ensures c.mark_lengths.ensures
