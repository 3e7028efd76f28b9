-- The record's number falls from a record to its child; at one record, `walk` calls the function of its kind, and a Star's calls the loop over its
-- iterations.
-- Assumes nothing.
use Rattle.std.proofs.Common.{◌+◌, ◌*◌}
use Rattle.matcher.proofs.Iterating.{Iterating}
use Rattle.matcher.proofs.+walking.Given as goal

abbrev pub decreases-walk : goal.decreases-walk
decreases-walk l = 4 * l.k + 3

abbrev pub decreases-walk_iterations : goal.decreases-walk_iterations
decreases-walk_iterations l = 4 * l.k + 1

abbrev pub decreases-walk_or : goal.decreases-walk_or
decreases-walk_or l = 4 * l.k + 2

abbrev pub decreases-walk_seq : goal.decreases-walk_seq
decreases-walk_seq l = 4 * l.k + 2

abbrev pub decreases-walk_star : goal.decreases-walk_star
decreases-walk_star l = 4 * l.k + 2

abbrev pub invariant-walk_iterations-loop-size : goal.invariant-walk_iterations-loop-size
invariant-walk_iterations-loop-size l = Iterating l.area.table.now l.area.line.now l.area.work.now l.k l.whole_left l.whole_size l.initial.out l.at l.writing l.left l.size l.out l.next

abbrev pub decreases-walk_iterations-loop-size : goal.decreases-walk_iterations-loop-size
decreases-walk_iterations-loop-size l = l.size
