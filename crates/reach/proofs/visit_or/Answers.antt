-- `reach::visit_or` meets its contract, by the law of Or.
-- Assumes nothing.
use Rattle.reach.proofs.Visits.{or-visited}
use Rattle.reach.proofs.visit_or.Goals as goal

pub returns : goal.returns
returns c = or-visited c.requires.visiting c.requires.kind c.a_at-a.ensures c.b_at-b.ensures c.join_marks.ensures c.join_marks-2.ensures
