-- `matcher::count_iterations` meets its contract: what is counted and the iterations of what is left are those of the whole part.
-- Assumes nothing.
use Rattle.matcher.proofs.Iterating.{Counting}
use Rattle.matcher.proofs.count_iterations.Given as goal

abbrev pub invariant-loop-size : goal.invariant-loop-size
invariant-loop-size l = Counting l.area.table.now l.area.line.now l.area.work.now l.part.record l.part.left l.part.size l.left l.size l.times

abbrev pub decreases-loop-size : goal.decreases-loop-size
decreases-loop-size l = l.size
