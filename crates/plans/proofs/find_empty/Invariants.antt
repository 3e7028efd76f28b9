-- The loop of `plans::find_empty`: the marks are right for the records below `k`.
-- Assumes nothing.
use mathlib.Core.Path.{◌≡◌}
use lib.ListN.{length}
use Rattle.plans.specs.Plans.{EmptyTold}
use Rattle.plans.proofs.find_empty.Given as goal

abbrev pub invariant-loop-k : goal.invariant-loop-k
invariant-loop-k l = record { told : EmptyTold l.table l.k l.work; size : length l.work ≡ length l.initial.work }
