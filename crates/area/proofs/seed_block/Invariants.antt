-- The loop of `area::seed_block`: the headers up to `k` are seeded.
-- Assumes nothing.
use Rattle.area.specs.Filling.{Seeded}
use Rattle.area.proofs.seed_block.Given as goal

abbrev pub invariant-loop-k : goal.invariant-loop-k
invariant-loop-k l = Seeded l.bounds l.c l.m l.d l.k l.initial.work l.work
