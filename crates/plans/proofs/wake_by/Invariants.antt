-- The loop of `plans::wake_by`: the record is marked in the sets of the bytes from `low` up to `c`.
-- Assumes nothing.
use Rattle.plans.specs.Plans.{MarkedIn}
use Rattle.plans.proofs.wake_by.Given as goal

abbrev pub invariant-loop-c : goal.invariant-loop-c
invariant-loop-c l = MarkedIn l.k l.low l.c l.initial.sets l.sets
