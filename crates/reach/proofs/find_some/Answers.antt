-- `reach::find_some` meets its contract.
-- Assumes nothing.
use native.Mathlib.Omega.{arith}
use Rattle.table.proofs.Passing.{count-bound}
use Rattle.reach.proofs.Searching.{some-none, some_more}
use Rattle.reach.proofs.find_some.Goals as goal

pub loop-k-init : goal.loop-k-init
loop-k-init c = some-none _

pub mark_if-requires : goal.mark_if-requires
mark_if-requires c = omega (arith, count-bound _ c.spells_some-spells.ensures.passes)

pub loop-k-preserved : goal.loop-k-preserved
loop-k-preserved c = some_more _ _ _ _ c.loop-k.invariant c.spells_some-spells.ensures.value c.mark_if.ensures
