-- `rows::Row::add_some_cuts` meets its contract: what each call joins follows on what the calls before it joined.
-- Assumes nothing.
use native.Mathlib.Omega.{arith}
use Rattle.rows.proofs.Joining.{grown-closed, second-earlier, joining-back, joining-none, joining-one, closed-one}
use Rattle.rows.proofs.Joining.{joining-more, closed-more, cutting-kept}
use Rattle.rows.proofs.Row.add_some_cuts.Goals as goal

pub add-requires-clause-earlier : goal.add-requires-clause-earlier
add-requires-clause-earlier c =
    let x = c.extend-r.ensures in
    let q = joining-back _ _ _ _ _ _ _ c.requires.cutting _ c.requires.le_c.0 _ _ x.grown x.lower_bound.0 c.if-c-r.false in
    second-earlier _ _ _ _ _ _ _ c.requires.cutting _ c.requires.le_c.0 _ _ q _ c.requires.le_c.0 c.requires.le_c.1

pub returns-then-is_some-clause-grown : goal.returns-then-is_some-clause-grown
returns-then-is_some-clause-grown c =
    let x = c.extend-r.ensures in
    let q = joining-back _ _ _ _ _ _ _ c.requires.cutting _ c.requires.le_c.0 _ _ x.grown x.lower_bound.0 c.if-c-r.false in
    joining-one _ _ _ _ _ _ _ c.requires.cutting _ c.requires.le_c.0 _ _ _ q (omega arith) c.requires.le_c.1 c.requires.held c.add.ensures

pub mark_cuts-requires-clause-cutting : goal.mark_cuts-requires-clause-cutting
mark_cuts-requires-clause-cutting c =
    let x = c.extend-r.ensures in
    let g = c.add.ensures in
    let q = joining-back _ _ _ _ _ _ _ c.requires.cutting _ c.requires.le_c.0 _ _ x.grown x.lower_bound.0 c.if-c-r.false in
    let more = joining-one _ _ _ _ _ _ _ c.requires.cutting _ c.requires.le_c.0 _ _ _ q (omega arith) c.requires.le_c.1 c.requires.held g in
    let first = closed-more _ _ _ _ _ _ _ c.requires.cutting _ c.requires.le_c.0 _ _ _ _ (joining-none _ _ _ _ _ _ _ c.requires.cutting _ c.requires.le_c.0) (omega arith) x.lower_bound.0 x.grown c.requires.cutting.closed in
    let closed = closed-one _ _ _ _ _ _ _ c.requires.cutting _ c.requires.le_c.0 _ _ _ q (omega arith) c.requires.le_c.1 c.requires.held g first in
    cutting-kept _ _ _ _ _ _ _ c.requires.cutting _ c.requires.le_c.0 _ _ more closed

pub returns-clause-grown : goal.returns-clause-grown
returns-clause-grown c =
    let x = c.extend-r.ensures in
    let q = joining-back _ _ _ _ _ _ _ c.requires.cutting _ c.requires.le_c.0 _ _ x.grown x.lower_bound.0 c.if-c-r.false in
    let more = joining-one _ _ _ _ _ _ _ c.requires.cutting _ c.requires.le_c.0 _ _ _ q (omega arith) c.requires.le_c.1 c.requires.held c.add.ensures in
    grown-closed
    (joining-more _ _ _ _ _ _ _ c.requires.cutting _ c.requires.le_c.0 _ _ _ _ more (omega arith) (omega (arith, c.requires.le_c.1)) c.mark_cuts.ensures)
    c.close_row.ensures
