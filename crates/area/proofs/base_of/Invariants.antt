-- The loop of `area::base_of`: the Star spells the lines of a Star of record j.
-- Assumes nothing.
use Rattle.area.specs.Filling.{Base}
use Rattle.area.proofs.base_of.Given as goal

abbrev pub invariant-loop-j : goal.invariant-loop-j
invariant-loop-j l = Base l.table l.k l.j

abbrev pub decreases-loop-j : goal.decreases-loop-j
decreases-loop-j l = l.j
