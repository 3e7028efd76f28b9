-- `rows::Row::add_row_and_empty` meets its contract. The empty part goes first where the row is no run from 1 on.
-- Assumes nothing.
use mathlib.Core.Path.{refl}
use Rattle.rows.proofs.Growing.{earlier-inside, told-same}
use Rattle.rows.proofs.Joining.{earlier-kept, add-run-all, add-both}
use Rattle.rows.proofs.Row.add_row_and_empty.Goals as goal

pub longest-h-requires : goal.longest-h-requires
longest-h-requires c = earlier-inside c.requires.growing.inside c.requires.earlier

pub lowest-requires-clause-inside : goal.lowest-requires-clause-inside
lowest-requires-clause-inside c =
    earlier-inside c.requires.growing.inside c.requires.earlier

pub returns-then-eq : goal.returns-then-eq
returns-then-eq c =
    let long = c.longest-h.ensures.0 in
    let run = told-same _ _ _ _ _ c.lowest.ensures 1 c.if-eq.ensures in
    add-run-all _ _ _ _ _ _ _ _ _ long run.lowest c.requires.spells_empty refl c.add_run.ensures

pub add_row-requires-clause-earlier : goal.add_row-requires-clause-earlier
add_row-requires-clause-earlier c =
    let g = c.add_run-2.ensures in
    earlier-kept _ _ _ _ _ _ g c.requires.growing.inside.known _ _ c.requires.earlier

pub returns : goal.returns
returns c =
    let first = c.add_run-2.ensures in
    add-both _ _ _ _ _ _ _ _ c.requires.growing c.requires.earlier c.requires.spells_empty first c.add_row.ensures
