-- `marks::join_marks` meets its contract. The loop's invariant: the words up to `i` are joined.
-- Assumes nothing.
use native.Mathlib.Omega.{arith}
use Rattle.marks.proofs.Laws.{joined-none, joined-more, joined-all}
use Rattle.marks.proofs.join_marks.Goals as goal

pub loop-i-init : goal.loop-i-init
loop-i-init c = joined-none _ _ _

pub loop-i-preserved : goal.loop-i-preserved
loop-i-preserved c = joined-more _ _ _ _ _ c.loop-i.invariant (omega arith)

pub returns : goal.returns
returns c = joined-all _ _ _ _ _ (omega arith) c.loop-i.invariant
