-- `rows::Row::next_length` meets its contract.
-- Assumes nothing.
use native.Mathlib.Omega.{arith}
use Rattle.rows.proofs.Joining.{length_above}
use Rattle.rows.proofs.Row.next_length.Goals as goal

pub returns-then-h-from : goal.returns-then-h-from
returns-then-h-from c = length_above _ _ _ _ c.requires.growing _ _ c.longest-h.ensures.0 (omega arith) c.if-h-from.true
