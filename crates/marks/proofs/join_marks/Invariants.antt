-- `marks::join_marks` meets its contract. The loop's invariant: the words up to `i` are joined.
-- Assumes nothing.
use Rattle.marks.proofs.Laws.{JoinedTo}
use Rattle.marks.proofs.join_marks.Given as goal

abbrev pub invariant-loop-i : goal.invariant-loop-i
invariant-loop-i l = JoinedTo l.i l.at l.from l.initial.to l.to
