-- `marks::next_marked` meets its contract. The loop's invariant: no number from `from` up to word `i` is marked.
-- Assumes nothing.
use Prim.Native.Nat.{◌/◌, ◌^◌, ◌<◌}
use native.Mathlib.Omega.{arith}
use lib.ListN.{get_or}
use Rattle.marks.proofs.Laws.{passed_on, rest-passed, lowest-passed, word-passed, word-lowest, next-lesser}
use Rattle.marks.proofs.next_marked.Goals as goal

pub returns-then-word-ne0 : goal.returns-then-word-ne0
returns-then-word-ne0 c =
    let fits : get_or c.args.words.now (c.args.from / 64) 0 < 2 ^ 64 =
    omega (arith, c.type_inv.words (c.args.from / 64)) in
    next-lesser c.args.words.now c.args.from c.args.end _ _ (omega arith) c.requires.from_le_end
    (lowest-passed c.args.words.now c.args.from fits c.if-word-ne0.true)
    c.min.ensures

pub loop-i-init : goal.loop-i-init
loop-i-init c = rest-passed c.args.words.now c.args.from c.if-word-ne0.false

pub returns-then-words-i-ne0 : goal.returns-then-words-i-ne0
returns-then-words-i-ne0 c =
    let fits : get_or c.args.words.now c.loop-i.i 0 < 2 ^ 64 = omega (arith, c.type_inv.words c.loop-i.i) in
    next-lesser c.args.words.now c.args.from c.args.end _ _ (omega arith) c.requires.from_le_end
    (passed_on c.args.words.now _ _ _ c.loop-i.invariant (word-lowest c.args.words.now c.loop-i.i fits c.if-words-i-ne0.true))
    c.min-then-words-i-ne0.ensures

pub loop-i-preserved : goal.loop-i-preserved
loop-i-preserved c =
    passed_on c.args.words.now _ _ _ c.loop-i.invariant (word-passed c.args.words.now c.loop-i.i c.if-words-i-ne0.false)
