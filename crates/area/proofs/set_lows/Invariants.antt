-- The loop of `area::set_lows`: the rows of the list's records so far start with 1.
-- Assumes nothing.
use Rattle.area.specs.Filling.{LowsSet}
use Rattle.area.proofs.set_lows.Given as goal

abbrev pub invariant-loop-k : goal.invariant-loop-k
invariant-loop-k l = LowsSet l.m l.d l.runs l.k-index l.initial.work l.work
