-- `matcher::longest_first_part` meets its contract: the search goes downward, and no cut stands above the one it is at.
-- Assumes nothing.
use Rattle.matcher.proofs.Searching.{Searching}
use Rattle.matcher.proofs.longest_first_part.Given as goal

abbrev pub invariant-loop-cut : goal.invariant-loop-cut
invariant-loop-cut l = Searching l.m l.work l.a l.b l.left l.size l.lowest l.cut

abbrev pub decreases-loop-cut : goal.decreases-loop-cut
decreases-loop-cut l = l.cut
