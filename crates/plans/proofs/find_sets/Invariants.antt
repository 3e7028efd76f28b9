-- The loop of `plans::find_sets`: the records that those below `k` may matter to are marked.
-- Assumes nothing.
use Rattle.plans.specs.Plans.{Waking}
use Rattle.plans.proofs.find_sets.Given as goal

abbrev pub invariant-loop-k : goal.invariant-loop-k
invariant-loop-k l = Waking l.bounds l.up l.k l.sets
