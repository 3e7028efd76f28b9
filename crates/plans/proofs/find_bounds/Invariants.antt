-- The loop of `plans::find_bounds`: the columns of the records below `k` are right.
-- Assumes nothing.
use Rattle.plans.specs.Plans.{Bounded}
use Rattle.plans.proofs.find_bounds.Given as goal

abbrev pub invariant-loop-k : goal.invariant-loop-k
invariant-loop-k l = Bounded l.table l.k l.bounds
