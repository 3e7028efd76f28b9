-- `rows::Row::raise_run` meets its contract: the marks grow, and the header is raised.
-- Assumes nothing.
use native.Mathlib.Omega.{arith}
use Rattle.rows.proofs.Growing.{head-there, marks-added}
use Rattle.rows.proofs.Row.raise_run.Goals as goal

pub bounds-work-at : goal.bounds-work-at
bounds-work-at c =
    omega (arith, head-there c.requires.is_open.inside, c.mark_lengths.ensures.size)

pub returns : goal.returns
returns c =
    let x = marks-added c.requires.is_open _ _ _ _ c.mark_lengths.ensures c.requires.le_low c.requires.long c.head-at.ensures
    c.max-top.ensures in record { grown = x.0; written_out = x.1 }
