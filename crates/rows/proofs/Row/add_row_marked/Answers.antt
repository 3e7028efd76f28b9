-- `rows::Row::add_row_marked` meets its contract.
-- Assumes nothing.
use mathlib.Core.Path.{◌≡◌}
use mathlib.Core.Logic.{inr}
use Rattle.rows.specs.Layout.{lowest_at}
use Rattle.rows.proofs.Bytes.{clear-byte}
use Rattle.rows.proofs.Growing.{earlier-inside, written-open, written-long}
use Rattle.rows.proofs.Joining.{add-no-row, add-run-rest}
use Rattle.rows.proofs.Marking.{written-grown}
use Rattle.rows.proofs.Row.add_row_marked.Goals as goal

pub longest-high-requires : goal.longest-high-requires
longest-high-requires c = earlier-inside c.requires.growing.inside c.requires.earlier

pub returns-then-high-eq0-clause-grown : goal.returns-then-high-eq0-clause-grown
returns-then-high-eq0-clause-grown c =
    add-no-row _ _ _ _ _ _ c.requires.growing _ c.longest-high.ensures.0 c.if-high-eq0.true

pub lowest-requires-clause-inside : goal.lowest-requires-clause-inside
lowest-requires-clause-inside c =
    earlier-inside c.requires.growing.inside c.requires.earlier

pub raise_row-requires-clause-is_open : goal.raise_row-requires-clause-is_open
raise_row-requires-clause-is_open c =
    written-open c.requires.written_out c.requires.growing

pub raise_row-requires-clause-no_run : goal.raise_row-requires-clause-no_run
raise_row-requires-clause-no_run c =
    let a = c.args in
    let low : lowest_at a.work.now a.self.now.m a.p a.s ≡ 0 = c.in_default.ensures in
    clear-byte (lowest_at a.work.now a.self.now.m a.p a.s) low

pub returns-in_default-clause-grown : goal.returns-in_default-clause-grown
returns-in_default-clause-grown c =
    let e = c.raise_row.ensures in
    written-grown _ c.requires.written_out e.grown

pub raise_run-requires-clause-is_open : goal.raise_run-requires-clause-is_open
raise_run-requires-clause-is_open c =
    written-open c.requires.written_out c.requires.growing

pub raise_run-requires-clause-long : goal.raise_run-requires-clause-long
raise_run-requires-clause-long c =
    inr (written-long c.requires.written_out)

pub returns-clause-grown : goal.returns-clause-grown
returns-clause-grown c =
    let long = c.longest-high.ensures.0 in
    let lower = c.in-Some.ensures.lowest in
    let e = c.raise_run.ensures in
    add-run-rest _ _ _ _ _ _ _ _ _ long lower c.in-Some.ensures.positive (written-grown _ c.requires.written_out e.grown)
