-- `rows::Row::add_marked` meets its contract.
-- Assumes nothing.
use mathlib.Core.Path.{◌∙◌}
use mathlib.Core.Logic.{inr}
use Rattle.rows.proofs.Bytes.{set-byte}
use Rattle.rows.proofs.Growing.{earlier-inside, record-there, written-open, written-long}
use Rattle.rows.proofs.Joining.{tells-empty, add_nothing, add-no-empty, add-both, earlier-kept}
use Rattle.rows.proofs.Marking.{written-grown, add-at-end}
use Rattle.rows.proofs.Row.add_marked.Goals as goal

pub bounds-work-s : goal.bounds-work-s
bounds-work-s c = record-there (earlier-inside c.requires.growing.inside c.requires.earlier)

pub returns-then-p-eq0-clause-grown : goal.returns-then-p-eq0-clause-grown
returns-then-p-eq0-clause-grown c =
    add_nothing _ _ _ _ _ _ c.requires.growing c.if-p-eq0.true c.if-work-s-eq0.true

pub returns-then-work-s-eq0-clause-grown : goal.returns-then-work-s-eq0-clause-grown
returns-then-work-s-eq0-clause-grown c =
    let e = c.add_row_marked.ensures in
    add-no-empty _ _ _ _ _ _ _ c.if-work-s-eq0.true e.grown

pub raise_run-top-requires-clause-is_open : goal.raise_run-top-requires-clause-is_open
raise_run-top-requires-clause-is_open c =
    written-open c.requires.written_out c.requires.growing

pub raise_run-top-requires-clause-long : goal.raise_run-top-requires-clause-long
raise_run-top-requires-clause-long c =
    inr (written-long c.requires.written_out)

pub returns-then-p-eq0-2-clause-grown : goal.returns-then-p-eq0-2-clause-grown
returns-then-p-eq0-2-clause-grown c =
    let e = c.raise_run-top.ensures in
    add-at-end _ _ _ _ _ _ _ c.if-p-eq0-2.true c.if-work-s-eq0.false (written-grown _ c.requires.written_out e.grown)

pub add_row_marked-requires-2-clause-earlier : goal.add_row_marked-requires-2-clause-earlier
add_row_marked-requires-2-clause-earlier c =
    let e = c.raise_run-top.ensures in
    let earlier = earlier-kept _ _ _ _ _ _ e.grown c.requires.growing.inside.known _ _ c.requires.earlier in
    earlier

pub returns-clause-grown : goal.returns-clause-grown
returns-clause-grown c =
    let e = c.add_row_marked-2.ensures in
    let first = written-grown _ c.requires.written_out c.raise_run-top.ensures.grown in
    let spelled = tells-empty _ _ _ _ ∙ set-byte _ c.if-work-s-eq0.false in
    add-both _ _ _ _ _ _ _ _ c.requires.growing c.requires.earlier spelled first e.grown
