-- `rows::Row::add_marks` meets its contract: the row is written out and raised.
-- Assumes nothing.
use mathlib.Core.Path.{refl}
use Rattle.rows.proofs.Marking.{explicit-open, explicit-grown}
use Rattle.rows.proofs.Row.add_marks.Goals as goal

pub raise_run-requires-clause-is_open : goal.raise_run-requires-clause-is_open
raise_run-requires-clause-is_open c =
    let long = c.longest-h.ensures.0 in
    explicit-open c.requires.growing c.without_run.ensures _ long

pub returns : goal.returns
returns c =
    let long = c.longest-h.ensures.0 in
    explicit-grown c.requires.growing c.without_run.ensures _ long _ _ (λ e b. refl)
    c.raise_run.ensures.grown
