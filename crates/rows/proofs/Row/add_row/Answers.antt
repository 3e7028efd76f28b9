-- `rows::Row::add_row` meets its contract.
-- Assumes nothing.
use mathlib.Core.Path.{◌≡◌}
use Rattle.rows.specs.Layout.{lowest_at}
use Rattle.rows.proofs.Bytes.{clear-byte}
use Rattle.rows.proofs.Growing.{earlier-inside}
use Rattle.rows.proofs.Joining.{add-no-row, add-run-rest}
use Rattle.rows.proofs.Row.add_row.Goals as goal

pub longest-h-requires : goal.longest-h-requires
longest-h-requires c = earlier-inside c.requires.growing.inside c.requires.earlier

pub returns-then-h-eq0 : goal.returns-then-h-eq0
returns-then-h-eq0 c = add-no-row _ _ _ _ _ _ c.requires.growing _ c.longest-h.ensures.0 c.if-h-eq0.true

pub lowest-requires-clause-inside : goal.lowest-requires-clause-inside
lowest-requires-clause-inside c =
    earlier-inside c.requires.growing.inside c.requires.earlier

pub mark_row-requires-clause-no_run : goal.mark_row-requires-clause-no_run
mark_row-requires-clause-no_run c =
    let a = c.args in
    let low : lowest_at a.work.now a.self.now.m a.p a.s ≡ 0 = c.in_default.ensures in
    clear-byte (lowest_at a.work.now a.self.now.m a.p a.s) low

pub returns : goal.returns
returns c =
    let long = c.longest-h.ensures.0 in
    let lower = c.in-Some.ensures.lowest in
    add-run-rest _ _ _ _ _ _ _ _ _ long lower c.in-Some.ensures.positive c.add_run.ensures
