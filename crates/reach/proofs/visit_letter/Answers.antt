-- `reach::visit_letter` meets its contract: a law of Visits for each way out.
-- Assumes nothing.
use native.Mathlib.Omega.{arith}
use mathlib.Core.Path.{◌∙◌}
use Rattle.reach.proofs.Visits.{letter-visited, found-no-line, found-line}
use Rattle.reach.proofs.visit_letter.Goals as goal

pub returns-then-n-eq0 : goal.returns-then-n-eq0
returns-then-n-eq0 c =
    letter-visited c.requires.visiting c.requires.letter _
    (found-no-line c.args.area.now.table.now c.args.area.now.line.now c.args.k c.args.row.now (c.number-kind.ensures ∙ c.kind_at.ensures.kind) c.a_at-a.ensures c.b_at-b.ensures c.is_marked.ensures c.letter_holds_some.ensures (omega (arith, c.if-n-eq0.true)))

pub returns : goal.returns
returns c =
    letter-visited c.requires.visiting c.requires.letter _
    (found-line c.args.area.now.table.now c.args.area.now.line.now c.args.k c.args.row.now (c.number-kind.ensures ∙ c.kind_at.ensures.kind) c.a_at-a.ensures c.b_at-b.ensures c.is_marked.ensures c.letter_holds_some.ensures (omega arith) c.is_marked-2.ensures c.letter_holds.ensures)
