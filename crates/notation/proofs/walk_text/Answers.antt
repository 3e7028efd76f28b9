-- `notation::walk_text` meets its contract. Assumes nothing.
use mathlib.Core.Path.{sym, refl, ◌∙◌}
use native.Mathlib.Omega.{arith}
use Rattle.notation.proofs.Walking.{reached-begin, reached-next, reached-end, word-given, word-inside}
use Rattle.notation.proofs.walk_text.Goals as goal

pub loop-at-init : goal.loop-at-init
loop-at-init c = reached-begin c.args.text.now c.args.out.now c.told-stack refl

pub take_word-requires-clause-word : goal.take_word-requires-clause-word
take_word-requires-clause-word c = word-given c.loop-at.invariant c.loop-at-test.true (sym c.in-Some.is ∙ c.word_at.ensures)

pub overflow_add-at : goal.overflow_add-at
overflow_add-at c =
    omega (arith, c.later_bytes.ensures, word-inside c.loop-at.invariant c.loop-at-test.true (sym c.in-Some.is ∙ c.word_at.ensures))

pub overflow_add-at-in-loop-at : goal.overflow_add-at-in-loop-at
overflow_add-at-in-loop-at c =
    omega (arith, c.later_bytes.ensures, word-inside c.loop-at.invariant c.loop-at-test.true (sym c.in-Some.is ∙ c.word_at.ensures))

pub loop-at-preserved : goal.loop-at-preserved
loop-at-preserved c =
    reached-next c.loop-at.invariant c.loop-at-test.true (sym c.in-Some.is ∙ c.word_at.ensures) c.in-Some-take_word.next c.take_word.new.stack
    c.take_word.new.out _ c.later_bytes.ensures (rw c.in-Some-take_word.is at c.take_word.ensures.fit)
    (rw c.in-Some-take_word.is at
    (c.take_word.ensures.took c.loop-at.invariant.frames c.loop-at.invariant.left c.loop-at.invariant.row c.loop-at.invariant.item
    c.args.out.now c.loop-at.invariant.shown))

pub returns : goal.returns
returns c =
    reached-end c.finish.result c.ok_or.result c.finish.new.out c.loop-at.invariant c.loop-at-test.false
    (c.finish.ensures c.loop-at.invariant.frames c.loop-at.invariant.left c.loop-at.invariant.row c.loop-at.invariant.item _ c.args.out.now
    c.loop-at.invariant.shown)
    c.ok_or.ensures.value
