-- `order::judge` meets its contract. The loop's invariant: the marks are the names before token i, and no token before it breaks a pair.
-- Assumes nothing.
use native.Mathlib.Omega.{arith}
use mathlib.Core.Path.{sym, ◌∙◌}
use Rattle.order.proofs.Breaking.{none-broken, one-broken}
use Rattle.order.proofs.Walking.{passed_none, passed-again, passed-more, breaks-as}
use Rattle.order.proofs.judge.Goals.{then-not-is_marked+else-lacks_first, else-not-is_marked}
use Rattle.order.proofs.judge.Goals as goal

pub loop-i-init : goal.loop-i-init
loop-i-init c = passed_none _ _

pub returns-then-lacks_first : goal.returns-then-lacks_first
returns-then-lacks_first c =
    let l = c.loop-i in
    sym
    (one-broken c.args.tokens.now c.args.pairs.now _ l.i (omega (arith, c.loop-i-test.true)) l.invariant.free
    (breaks-as _ _ l.seen _ l.invariant.seen c.lacks_first.ensures c.if-lacks_first.true))

pub loop-i-preserved : goal.loop-i-preserved
loop-i-preserved c =
    let l = c.loop-i in
    elim c.if-not-is_marked.branch [
      | then-not-is_marked+else-lacks_first w ↦
          rw w.seen-is
          (passed-more _ _ l.i l.seen _ l.invariant w.mark.ensures
          (breaks-as _ _ l.seen _ l.invariant.seen w.lacks_first.ensures w.if-lacks_first.false))
      | else-not-is_marked w ↦ rw w.seen-is (passed-again _ _ l.i l.seen l.invariant (sym c.is_marked.ensures ∙ w.if-not-is_marked.false))
    ]

pub returns : goal.returns
returns c = sym (none-broken c.args.tokens.now c.args.pairs.now _ (λ j h. c.loop-i.invariant.free j (omega arith)))
