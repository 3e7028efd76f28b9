-- The loop of `reach::find_some`: of the records below `k` those that spell some line are marked, and no other number is.
-- Assumes nothing.
use Rattle.reach.proofs.Searching.{SomeSoFar}
use Rattle.reach.proofs.find_some.Given as goal

abbrev pub invariant-loop-k : goal.invariant-loop-k
invariant-loop-k l = SomeSoFar l.table l.k l.some
