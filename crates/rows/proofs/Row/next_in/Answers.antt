-- `rows::Row::next_in` meets its contract.
-- Assumes nothing.
use native.Mathlib.Omega.{arith}
use Rattle.rows.proofs.Places.{row_inside}
use Rattle.rows.proofs.Growing.{told-none, told-some}
use Rattle.rows.proofs.Joining.{length_above, length_run, length-mark, length-end, length_none}
use Rattle.rows.proofs.Row.next_in.Goals as goal
use Rattle.rows.proofs.Row.next_in.Goals.{then-from-end+in_default-next_set, else-from-end}

pub returns-then-h-from : goal.returns-then-h-from
returns-then-h-from c = length_above _ _ _ _ c.requires.growing _ _ c.requires.longest c.requires.le_from.1 c.if-h-from.true

pub returns-in-Some : goal.returns-in-Some
returns-in-Some c =
    let run = told-some _ _ _ _ _ c.requires.run _ c.in-Some.is in
    (omega arith, length_run _ _ _ _ c.requires.growing _ _ c.requires.longest _ run.lowest c.requires.le_from.0 c.if-h-from.false run.positive _ c.max.ensures)

pub next_set-requires-clause-end_in_bounds : goal.next_set-requires-clause-end_in_bounds
next_set-requires-clause-end_in_bounds c =
    omega (arith, c.requires.growing.inside.room, c.requires.growing.inside.short, c.requires.longest, row_inside c.args.self.now.m c.args.self.now.d c.args.self.now.k c.requires.growing.inside.known)

pub returns-in-Some-next_set : goal.returns-in-Some-next_set
returns-in-Some-next_set c =
    let n = c.in-Some-next_set.ensures in
    (omega arith, length-mark _ _ _ _ c.requires.growing _ _ c.requires.longest (told-none _ _ _ _ _ c.requires.run c.in_default.is) _ _ c.min-end.ensures c.start-at.ensures _ n.1 n.0)

pub returns-then-h-self : goal.returns-then-h-self
returns-then-h-self c = (
  omega arith,
  length-end _ _ _ _ c.requires.growing _ _ c.requires.longest (told-none _ _ _ _ _ c.requires.run c.in_default.is) _ _ c.min-end.ensures c.start-at.ensures c.if-h-from.false c.if-h-self.true (λ e l h.
      elim c.if-from-end.branch [
        | then-from-end+in_default-next_set w ↦ w.in_default-next_set.ensures.passed e l h
        | else-from-end w ↦ absurd (omega arith)
      ]),
)

pub returns : goal.returns
returns c =
    length_none _ _ _ _ c.requires.growing _ _ c.requires.longest (told-none _ _ _ _ _ c.requires.run c.in_default.is) _ _ c.min-end.ensures c.start-at.ensures c.if-h-self.false c.requires.le_from.1 (λ e l h.
    elim c.if-from-end.branch [
      | then-from-end+in_default-next_set w ↦ w.in_default-next_set.ensures.passed e l h
      | else-from-end w ↦ absurd (omega arith)
    ])
