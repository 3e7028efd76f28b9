-- `ranking::rank_records` meets its contract. Assumes nothing.
use mathlib.Core.Path.{◌≡◌, sym, ◌∙◌}
use native.Mathlib.Omega.{arith}
use Prim.Native.Nat.{◌+◌, ◌*◌}
use Rattle.reading.specs.Codec.{record_size}
use Rattle.ranking.proofs.Verdicts.{agree-start, agree-ends, agree-next, agree-over, not-equal, equal, shorter-over}
use Rattle.ranking.proofs.rank_records.Goals as goal

pub loop-i-init : goal.loop-i-init
loop-i-init c = agree-start _ _

pub rank_record-order-requires : goal.rank_record-order-requires
rank_record-order-requires c =
    record { inside_first = omega (arith, c.min-n.ensures, c.loop-i-test.true); inside_second = omega (arith, c.min-n.ensures, c.loop-i-test.true) }

pub returns-then-ne : goal.returns-then-ne
returns-then-ne c =
    agree-ends _ _ _ c.loop-i.invariant (omega (arith, c.min-n.ensures, c.loop-i-test.true)) (omega (arith, c.min-n.ensures, c.loop-i-test.true))
    c.rank_record-order.ensures (not-equal _ (sym c.ne.ensures ∙ c.if-ne.true))

pub loop-i-preserved : goal.loop-i-preserved
loop-i-preserved c =
    let next : record_size * (c.loop-i.i + 1) ≡ record_size * c.loop-i.i + record_size = omega arith in
    rw next
    (agree-next _ _ _ c.loop-i.invariant (omega (arith, c.min-n.ensures, c.loop-i-test.true)) (omega (arith, c.min-n.ensures, c.loop-i-test.true))
    c.rank_record-order.ensures (equal _ (sym c.ne.ensures ∙ c.if-ne.false)))

pub returns : goal.returns
returns c = agree-over _ _ _ c.loop-i.invariant (shorter-over _ _ _ (omega (arith, c.min-n.ensures, c.loop-i-test.false)))
