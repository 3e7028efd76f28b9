-- `reach::mark_rests` meets its contract.
-- Assumes nothing.
use native.Mathlib.Omega.{arith}
use mathlib.Core.Path.{sym, ◌∙◌}
use Rattle.reach.proofs.Marking.{marked-if, marked-if-not, rests-none, rests-more, rests-all}
use Rattle.reach.proofs.mark_rests.Goals as goal

pub loop-e-init : goal.loop-e-init
loop-e-init c = rests-none (omega arith)

pub loop-e-preserved : goal.loop-e-preserved
loop-e-preserved c = rests-more _ (omega arith) c.loop-e.invariant c.tell-told.ensures c.mark_if.ensures

pub returns-then-is_marked-2 : goal.returns-then-is_marked-2
returns-then-is_marked-2 c =
    marked-if (sym c.is_marked.ensures ∙ c.if-is_marked.true)
    (rests-all _ (omega arith) (rests-more _ (omega arith) c.loop-e.invariant c.tell-told.ensures c.mark_if.ensures))

pub returns-else-is_marked : goal.returns-else-is_marked
returns-else-is_marked c = marked-if-not (sym c.is_marked.ensures ∙ c.if-is_marked.false)
