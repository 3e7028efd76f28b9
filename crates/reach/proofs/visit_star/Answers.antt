-- `reach::visit_star` meets its contract: a law of Star for each way out.
-- Assumes nothing.
use mathlib.Core.Path.{sym, ◌∙◌}
use Rattle.reach.proofs.Visits.{visiting-row, star-found, star-visited}
use Rattle.reach.proofs.visit_star.Goals as goal

pub returns-then-is_marked : goal.returns-then-is_marked
returns-then-is_marked c = star-found c.requires.visiting c.requires.kind (sym c.is_marked.ensures ∙ c.if-is_marked.true)

pub mark_row_rests-requires-clause-inside : goal.mark_row_rests-requires-clause-inside
mark_row_rests-requires-clause-inside c = rw c.count-m.ensures.count (visiting-row c.requires.visiting c.requires.visiting.inside)

pub returns : goal.returns
returns c =
    star-visited c.requires.visiting c.requires.kind c.a_at-a.ensures (sym c.is_marked.ensures ∙ c.if-is_marked.false)
    (rw c.count-m.ensures.count at c.mark_row_rests.ensures)
