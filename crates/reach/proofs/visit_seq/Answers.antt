-- `reach::visit_seq` meets its contract: the law of Seq, for a second child that spells some line and for one that spells none.
-- Assumes nothing.
use native.Mathlib.Omega.{arith}
use mathlib.Core.Path.{sym, ◌∙◌}
use Rattle.reach.proofs.Visits.{visiting-row, seq-first, seq-second, seq-visited, seq-visited-some}
use Rattle.reach.proofs.visit_seq.Goals as goal

pub mark_row_rests-requires-clause-inside : goal.mark_row_rests-requires-clause-inside
mark_row_rests-requires-clause-inside c =
    rw c.count-m.ensures.count
    (visiting-row c.requires.visiting
    (omega (arith, c.requires.visiting.inside, seq-first c.requires.visiting c.requires.kind c.a_at-a.ensures)))

pub returns-then-is_marked : goal.returns-then-is_marked
returns-then-is_marked c =
    let second = sym (c.requires.found.found _ (seq-second c.requires.visiting c.requires.kind c.b_at-b.ensures)) ∙ sym c.is_marked.ensures in
    seq-visited-some c.requires.visiting c.requires.kind c.a_at-a.ensures c.b_at-b.ensures (second ∙ c.if-is_marked.true) (rw c.count-m.ensures.count at c.mark_row_rests.ensures) c.join_marks.ensures

pub returns-else-is_marked : goal.returns-else-is_marked
returns-else-is_marked c =
    let second = sym (c.requires.found.found _ (seq-second c.requires.visiting c.requires.kind c.b_at-b.ensures)) ∙ sym c.is_marked.ensures in
    seq-visited c.requires.visiting c.requires.kind c.a_at-a.ensures c.b_at-b.ensures (second ∙ c.if-is_marked.false) (rw c.count-m.ensures.count at c.mark_row_rests.ensures)
