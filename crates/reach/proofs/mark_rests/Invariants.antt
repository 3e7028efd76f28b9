-- The loop of `reach::mark_rests`: the rests behind parts of fewer than `e` bytes are marked.
-- Assumes nothing.
use Rattle.marks.specs.Marks.{MarkedAll}
use Rattle.reach.proofs.Marking.{RestBelow}
use Rattle.reach.proofs.mark_rests.Given as goal

abbrev pub invariant-loop-e : goal.invariant-loop-e
invariant-loop-e l = MarkedAll (RestBelow l.e l.m l.work l.of l.to l.d) l.initial.marks l.marks
