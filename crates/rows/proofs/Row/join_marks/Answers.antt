-- `rows::Row::join_marks` meets its contract: the row is written out and raised by the other one.
-- Assumes nothing.
use Rattle.rows.proofs.Growing.{earlier-inside}
use Rattle.rows.proofs.Marking.{explicit-open, explicit-grown, there-kept, there-longest, there-no-run, there-rest}
use Rattle.rows.proofs.Row.join_marks.Goals as goal

pub longest-high-requires : goal.longest-high-requires
longest-high-requires c =
    earlier-inside c.requires.growing.inside c.requires.earlier

pub raise_row-requires-clause-is_open : goal.raise_row-requires-clause-is_open
raise_row-requires-clause-is_open c =
    let q = c.without_run.ensures in
    let open_row = explicit-open c.requires.growing q _ c.longest-h.ensures.0 in
    open_row

pub raise_row-requires-clause-earlier : goal.raise_row-requires-clause-earlier
raise_row-requires-clause-earlier c =
    let i = c.requires.growing.inside in
    let q = c.without_run.ensures in
    there-kept i q c.requires.earlier

pub raise_row-requires-clause-other_longest : goal.raise_row-requires-clause-other_longest
raise_row-requires-clause-other_longest c =
    let i = c.requires.growing.inside in
    let q = c.without_run.ensures in
    let long = there-longest i q c.requires.earlier _ c.longest-high.ensures.0 in
    long

pub raise_row-requires-clause-no_run : goal.raise_row-requires-clause-no_run
raise_row-requires-clause-no_run c =
    let i = c.requires.growing.inside in
    let q = c.without_run.ensures in
    there-no-run i q c.requires.earlier c.requires.le_p c.requires.no_run

pub returns : goal.returns
returns c =
    let q = c.without_run.ensures in
    let long = c.longest-h.ensures.0 in
    explicit-grown c.requires.growing q _ long _ _ (there-rest c.requires.growing.inside q c.requires.earlier) c.raise_row.ensures.grown
