-- `rows::all_set` meets its contract. The loop's invariant: the bytes up to `i` are set.
-- Assumes nothing.
use Rattle.rows.proofs.Bytes.{set_more}
use Rattle.rows.proofs.all_set.Goals as goal

pub loop-i-preserved : goal.loop-i-preserved
loop-i-preserved c = set_more _ _ _ _ c.loop-i.invariant c.if-work-start-eq0.false
