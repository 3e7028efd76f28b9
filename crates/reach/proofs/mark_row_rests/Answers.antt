-- `reach::mark_row_rests` meets its contract.
-- Assumes nothing.
use native.Mathlib.Omega.{arith}
use Rattle.reach.proofs.Marking.{row-none, row_more, row-all}
use Rattle.rows.proofs.Places.{row-held}
use Rattle.reach.proofs.mark_row_rests.Goals as goal

pub loop-d-init : goal.loop-d-init
loop-d-init c = record { inside = c.next_marked-d.ensures.not_behind; marked = row-none c.next_marked-d.ensures }

pub mark_rests-requires-clause-inside : goal.mark_rests-requires-clause-inside
mark_rests-requires-clause-inside c =
    row-held c.requires.inside.few (omega (arith, c.requires.inside.short)) c.requires.inside.known (omega arith) c.requires.inside.room

pub loop-d-preserved : goal.loop-d-preserved
loop-d-preserved c =
    record {
      inside = c.next_marked-d-in-loop-d.ensures.not_behind;
      marked = row_more _ (omega arith) c.loop-d.invariant.marked c.mark_rests.ensures c.next_marked-d-in-loop-d.ensures;
    }

pub returns : goal.returns
returns c = row-all _ (omega arith) c.loop-d.invariant.marked
