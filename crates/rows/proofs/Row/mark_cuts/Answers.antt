-- `rows::Row::mark_cuts` meets its contract. The loop's invariant: the row holds the cuts from `c` on before `next`, with `star` it is closed under second
-- sides, it is written out with `h` as its longest length, and it has every length from `t` on.
-- Assumes nothing.
use native.Mathlib.Omega.{arith}
use mathlib.Core.Path.{sym, ◌∙◌}
use Rattle.rows.proofs.Growing.{told-kept}
use Rattle.rows.proofs.Joining.{first-growing, first-longest, first-lowest, second-earlier}
use Rattle.rows.proofs.Joining.{joining-none, cut-next, cut-some, joining-one, closed-one, joining-skip, joining-covered}
use Rattle.rows.proofs.Joining.{tail-covered}
use Rattle.rows.proofs.Row.mark_cuts.Goals as goal

pub loop-next-init : goal.loop-next-init
loop-next-init c = record {
  at = cut-next _ _ _ _ _ _ _ c.requires.cutting _ c.requires.le_c.0 _ _ (joining-none _ _ _ _ _ _ _ c.requires.cutting _ c.requires.le_c.0) (omega arith) _ c.next_in-next.ensures;
  closed = c.requires.cutting.closed;
  written_out = record { long = c.longest-h.ensures.0; no_run = c.requires.no_run };
  within = (omega arith, omega arith);
  tail = λ e a b. absurd (omega arith);
}

pub add_marked-h-requires-clause-earlier : goal.add_marked-h-requires-clause-earlier
add_marked-h-requires-clause-earlier c =
    let inv = c.loop-next.invariant in
    let at = cut-some _ _ _ _ _ _ _ _ _ inv.at _ c.in-Some.is in
    second-earlier _ _ _ _ _ _ _ c.requires.cutting _ c.requires.le_c.0 _ _ at.1.joined _ (omega (arith, c.requires.le_c.0, at.1.not_before)) at.0

pub returns-then-t-i : goal.returns-then-t-i
returns-then-t-i c =
    let inv = c.loop-next.invariant in
    let at = cut-some _ _ _ _ _ _ _ _ _ inv.at _ c.in-Some.is in
    let more = joining-one _ _ _ _ _ _ _ c.requires.cutting _ c.requires.le_c.0 _ _ _ at.1.joined at.1.not_before at.0 (at.1.held at.0) c.add_marked-h.ensures.grown in
    joining-covered _ _ _ _ _ _ _ c.requires.cutting _ c.requires.le_c.0 _ _ _ more (omega (arith, at.1.not_before))
    (tail-covered _ _ _ _ _ _ _ c.tail-t.ensures.still_tail c.if-t-i.true (omega (arith, at.0)))

pub next_in-next-requires-in-Some-clause-growing : goal.next_in-next-requires-in-Some-clause-growing
next_in-next-requires-in-Some-clause-growing c =
    let inv = c.loop-next.invariant in
    let at = cut-some _ _ _ _ _ _ _ _ _ inv.at _ c.in-Some.is in
    let more = joining-one _ _ _ _ _ _ _ c.requires.cutting _ c.requires.le_c.0 _ _ _ at.1.joined at.1.not_before at.0 (at.1.held at.0) c.add_marked-h.ensures.grown in
    first-growing _ _ _ _ _ _ _ c.requires.cutting _ c.requires.le_c.0 _ _ more

pub next_in-next-requires-in-Some-clause-longest : goal.next_in-next-requires-in-Some-clause-longest
next_in-next-requires-in-Some-clause-longest c =
    let inv = c.loop-next.invariant in
    let at = cut-some _ _ _ _ _ _ _ _ _ inv.at _ c.in-Some.is in
    let more = joining-one _ _ _ _ _ _ _ c.requires.cutting _ c.requires.le_c.0 _ _ _ at.1.joined at.1.not_before at.0 (at.1.held at.0) c.add_marked-h.ensures.grown in
    c.longest-high.ensures.0 ∙ sym (first-longest _ _ _ _ _ _ _ c.requires.cutting _ c.requires.le_c.0 _ _ more)

pub next_in-next-requires-in-Some-clause-run : goal.next_in-next-requires-in-Some-clause-run
next_in-next-requires-in-Some-clause-run c =
    let inv = c.loop-next.invariant in
    let at = cut-some _ _ _ _ _ _ _ _ _ inv.at _ c.in-Some.is in
    let more = joining-one _ _ _ _ _ _ _ c.requires.cutting _ c.requires.le_c.0 _ _ _ at.1.joined at.1.not_before at.0 (at.1.held at.0) c.add_marked-h.ensures.grown in
    told-kept _ _ _ _ _ c.lowest-low.ensures _ (first-lowest _ _ _ _ _ _ _ c.requires.cutting _ c.requires.le_c.0 _ _ more)

pub loop-next-preserved : goal.loop-next-preserved
loop-next-preserved c =
    let inv = c.loop-next.invariant in
    let at = cut-some _ _ _ _ _ _ _ _ _ inv.at _ c.in-Some.is in
    let a = c.add_marked-h.ensures in
    let more = joining-one _ _ _ _ _ _ _ c.requires.cutting _ c.requires.le_c.0 _ _ _ at.1.joined at.1.not_before at.0 (at.1.held at.0) a.grown in
    let closed = closed-one _ _ _ _ _ _ _ c.requires.cutting _ c.requires.le_c.0 _ _ _ at.1.joined at.1.not_before at.0 (at.1.held at.0) a.grown inv.closed in
    let k = c.skip_reached-open.ensures.skipped in
    let skipped = joining-skip _ _ _ _ _ _ _ c.requires.cutting _ c.requires.le_c.0 _ _ _ more closed k in record {
      at = cut-next _ _ _ _ _ _ _ c.requires.cutting _ c.requires.le_c.0 _ _ skipped (omega (arith, at.1.not_before, k.not_before)) _ c.next_in-next-in-Some.ensures;
      closed = closed;
      written_out = a.still_written_out;
      within = c.tail-t.ensures.lower_bound;
      tail = c.tail-t.ensures.still_tail;
    }
