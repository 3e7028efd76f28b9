-- The loop of `plans::find_runs`: the records below `k` that repeat are listed.
-- Assumes nothing.
use Rattle.plans.specs.Plans.{Listed}
use Rattle.plans.proofs.find_runs.Given as goal

abbrev pub invariant-loop-k : goal.invariant-loop-k
invariant-loop-k l = Listed l.bounds l.k l.runs l.n
