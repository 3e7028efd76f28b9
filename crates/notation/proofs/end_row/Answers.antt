-- `notation::end_row` meets its contract. Assumes nothing.
use Rattle.notation.proofs.Showing.{row-joins}
use Rattle.notation.proofs.end_row.Goals as goal

pub returns-clause-shown : goal.returns-clause-shown
returns-clause-shown c =
    λ fs l m t stack entry s. rw (c.join.ensures.count, c.join.ensures.buffer, c.join-row.ensures.count, c.join-row.ensures.buffer) (row-joins s)
