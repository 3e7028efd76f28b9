-- `rows::Row::add_all_cuts` meets its contract. The loop's invariant: the row holds the cuts before `next`, and with `star` it is closed under second
-- sides.
-- Assumes nothing.
use native.Mathlib.Omega.{arith}
use mathlib.Core.Path.{◌∙◌}
use Rattle.rows.proofs.Joining.{first-growing, first-kept, joining-none, cut-next, cut-some}
use Rattle.rows.proofs.Joining.{joining-more, closed-more, cutting-kept, joining-skip}
use Rattle.rows.proofs.Row.add_all_cuts.Goals as goal

pub loop-next-init : goal.loop-next-init
loop-next-init c = record {
  at = cut-next _ _ _ _ _ _ _ c.requires 1 (omega arith) _ _ (joining-none _ _ _ _ _ _ _ c.requires 1 (omega arith)) (omega arith) _ c.next_length-next.ensures;
  closed = c.requires.closed;
}

pub add_some_cuts-r-requires-clause-cutting : goal.add_some_cuts-r-requires-clause-cutting
add_some_cuts-r-requires-clause-cutting c =
    let inv = c.loop-next.invariant in
    let at = cut-some _ _ _ _ _ _ _ _ _ inv.at _ c.in-Some.is in
    cutting-kept _ _ _ _ _ _ _ c.requires 1 (omega arith) _ _ at.1.joined inv.closed

pub add_some_cuts-r-requires-clause-held : goal.add_some_cuts-r-requires-clause-held
add_some_cuts-r-requires-clause-held c =
    let inv = c.loop-next.invariant in
    let at = cut-some _ _ _ _ _ _ _ _ _ inv.at _ c.in-Some.is in
    first-kept _ _ _ _ _ _ _ c.requires 1 (omega arith) _ _ at.1.joined _ at.1.not_before at.0 ∙ at.1.held at.0

pub next_length-next-requires-in-Some-clause-growing : goal.next_length-next-requires-in-Some-clause-growing
next_length-next-requires-in-Some-clause-growing c =
    let inv = c.loop-next.invariant in
    let at = cut-some _ _ _ _ _ _ _ _ _ inv.at _ c.in-Some.is in
    let a = c.add_some_cuts-r.ensures in
    first-growing _ _ _ _ _ _ _ c.requires 1 (omega arith) _ _
    (joining-more _ _ _ _ _ _ _ c.requires 1 (omega arith) _ _ _ _ at.1.joined at.1.not_before (omega (arith, a.lower_bound.0)) a.grown)

pub loop-next-preserved : goal.loop-next-preserved
loop-next-preserved c =
    let inv = c.loop-next.invariant in
    let at = cut-some _ _ _ _ _ _ _ _ _ inv.at _ c.in-Some.is in
    let a = c.add_some_cuts-r.ensures in
    let k = c.skip-open.ensures.skipped in
    let more = joining-more _ _ _ _ _ _ _ c.requires 1 (omega arith) _ _ _ _ at.1.joined at.1.not_before (omega (arith, a.lower_bound.0)) a.grown in
    let closed = closed-more _ _ _ _ _ _ _ c.requires 1 (omega arith) _ _ _ _ at.1.joined at.1.not_before (omega (arith, a.lower_bound.0)) a.grown inv.closed in
    let skipped = joining-skip _ _ _ _ _ _ _ c.requires 1 (omega arith) _ _ _ more closed k in record {
      at = cut-next _ _ _ _ _ _ _ c.requires 1 (omega arith) _ _ skipped (omega (arith, a.lower_bound.0, k.not_before)) _ c.next_length-next-in-Some.ensures;
      closed = closed;
    }
