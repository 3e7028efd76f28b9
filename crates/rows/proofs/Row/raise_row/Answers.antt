-- `rows::Row::raise_row` meets its contract: the marks of the other row are joined into this one's, and its header is raised.
-- Assumes nothing.
use Prim.Native.Nat.{◌+◌, ◌-◌}
use native.Mathlib.Omega.{arith}
use Rattle.rows.proofs.Growing.{head-there, row-there, row-bound, earlier-inside, earlier-row, marks-joined}
use Rattle.rows.proofs.Row.raise_row.Goals as goal

pub overflow_add-to : goal.overflow_add-to
overflow_add-to c = omega (arith, row-bound c.requires.is_open.inside)

pub overflow_add-to-2 : goal.overflow_add-to-2
overflow_add-to-2 c = omega (arith, row-bound c.requires.is_open.inside)

pub overflow_add-from : goal.overflow_add-from
overflow_add-from c =
    omega (arith, row-bound (earlier-inside c.requires.is_open.inside c.requires.earlier))

pub join-requires : goal.join-requires
join-requires c =
    record { room = omega (arith, row-there c.requires.is_open.inside); apart = omega (arith, earlier-row c.requires.is_open.inside c.requires.earlier) }

pub bounds-work-at : goal.bounds-work-at
bounds-work-at c =
    omega (arith, head-there c.requires.is_open.inside, c.join.ensures.size)

pub returns : goal.returns
returns c =
    let to = c.start.result + (c.args.self.now.d - c.args.p) + 1 in
    let from = c.start-from.result + 1 in
    let x = marks-joined c.requires.is_open c.requires.earlier c.requires.le_p c.requires.no_run _ to from _ _ c.requires.other_longest (omega arith) (omega arith)
    c.join.ensures c.head-at.ensures c.max-top.ensures in record { grown = x.0; written_out = x.1 }
