-- The loop of `plans::find_parents`: the children of the records below `k` that are not plain are noted.
-- Assumes nothing.
use Rattle.plans.specs.Plans.{Parents}
use Rattle.plans.proofs.find_parents.Given as goal

abbrev pub invariant-loop-k : goal.invariant-loop-k
invariant-loop-k l = Parents l.table l.bounds l.k l.up
