-- `rows::join` meets its contract. The loop's invariant: the first `i` bytes are joined.
-- Assumes nothing.
use native.Mathlib.Omega.{arith}
use Rattle.rows.proofs.Bytes.{joined-more}
use Rattle.rows.proofs.join.Goals as goal

pub loop-i-preserved : goal.loop-i-preserved
loop-i-preserved c = joined-more _ _ _ _ _ c.loop-i.invariant (omega arith) (omega arith)
