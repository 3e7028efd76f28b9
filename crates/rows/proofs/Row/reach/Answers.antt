-- `rows::Row::reach` meets its contract. The loop's invariant: what the contract says, up to the cut `i`.
-- Assumes nothing.
use Prim.Native.Nat.{◌+◌, ◌≤◌}
use native.Mathlib.Omega.{arith}
use mathlib.Core.Path.{◌∙◌}
use Rattle.rows.proofs.Bytes.{set-byte}
use Rattle.rows.proofs.Growing.{record-there}
use Rattle.rows.proofs.Joining.{tells-empty, block_inside}
use Rattle.rows.proofs.Reaching.{high_small, reached-pass, reached-more, reached-full}
use Rattle.rows.proofs.Row.reach.Goals as goal
use Rattle.rows.proofs.Row.reach.Goals.{else-h-eq0-via-then-h-eq0+else-work-self-eq0, else-h-eq0-via-else-h-eq0}

pub high_behind-h-requires : goal.high_behind-h-requires
high_behind-h-requires c = block_inside _ _ _ _ _ c.requires.inside c.requires.inside.known _ (omega arith)

pub bounds-work-self : goal.bounds-work-self
bounds-work-self c = record-there c.requires.inside

pub loop-i-preserved-then-work-self-eq0 : goal.loop-i-preserved-then-work-self-eq0
loop-i-preserved-then-work-self-eq0 c =
    let q = c.loop-i.invariant.reached in record {
      reached = reached-pass _ _ _ _ _ _ _ _ _ _ _ q (omega (arith, q.not_before)) _ c.high_behind-h.ensures.0 c.if-h-eq0.true c.if-work-self-eq0.true;
      within = omega arith;
    }

pub low_behind-requires-clause-inside : goal.low_behind-requires-clause-inside
low_behind-requires-clause-inside c =
    block_inside _ _ _ _ _ c.requires.inside c.requires.inside.known _ (omega arith)

pub low_behind-requires-clause-spells_empty : goal.low_behind-requires-clause-spells_empty
low_behind-requires-clause-spells_empty c =
    λ z.
    elim c.else-h-eq0.branch [
      | else-h-eq0-via-then-h-eq0+else-work-self-eq0 w ↦ tells-empty _ _ _ _ ∙ set-byte _ w.if-work-self-eq0.false
      | else-h-eq0-via-else-h-eq0 w ↦ absurd (w.if-h-eq0.false z)
    ]

pub returns-then-bottom-i : goal.returns-then-bottom-i
returns-then-bottom-i c =
    let q = c.loop-i.invariant.reached in
    let b : c.loop-i.i + c.high_behind-h.result ≤ c.args.self.now.d =
    omega (arith, high_small _ _ _ _ _ c.high_behind-h.ensures.0 (λ x. c.requires.second_shape _ x (omega (arith, q.not_before)))) in
    reached-full _ _ _ _ _ _ _ _ _ _ _ (reached-more _ _ _ _ _ _ _ _ _ _ _ q c.loop-i-test.true c.requires.le_c.2 _ _ b
    c.in-Some.ensures _ c.in-Some-join_low.ensures _ c.max-top.ensures) c.if-top-self.true c.if-bottom-i.true

pub loop-i-preserved : goal.loop-i-preserved
loop-i-preserved c =
    let q = c.loop-i.invariant.reached in
    let b : c.loop-i.i + c.high_behind-h.result ≤ c.args.self.now.d =
    omega (arith, high_small _ _ _ _ _ c.high_behind-h.ensures.0 (λ x. c.requires.second_shape _ x (omega (arith, q.not_before)))) in record {
      reached = reached-more _ _ _ _ _ _ _ _ _ _ _ q c.loop-i-test.true c.requires.le_c.2 _ _ b
          c.in-Some.ensures _ c.in-Some-join_low.ensures _ c.max-top.ensures;
      within = omega arith;
    }
