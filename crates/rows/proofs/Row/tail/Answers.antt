-- `rows::Row::tail` meets its contract. The loop's invariant: the row has each length from `i` on.
-- Assumes nothing.
use native.Mathlib.Omega.{arith}
use Rattle.rows.proofs.Growing.{row-there, row-bound}
use Rattle.rows.proofs.Tails.{tail-whole, tail_more}
use Rattle.rows.proofs.Row.tail.Goals as goal

pub loop-i-init : goal.loop-i-init
loop-i-init c = record {
  tail = tail-whole _ _ _ _ c.requires.growing _ c.requires.written_out c.if-h-self.false _ _ c.requires.tail c.min-i.ensures;
  within = omega arith;
}

pub overflow_add-at : goal.overflow_add-at
overflow_add-at c = omega (arith, row-bound c.requires.growing.inside, c.requires.growing.inside.short)

pub bounds-work-at : goal.bounds-work-at
bounds-work-at c = omega (arith, row-there c.requires.growing.inside)

pub loop-i-preserved : goal.loop-i-preserved
loop-i-preserved c =
    let v = c.loop-i.invariant in record {
      tail = tail_more _ _ _ _ c.requires.growing _ c.requires.written_out c.if-h-self.false _ _ c.start-at.ensures c.loop-i-test.true v.within v.tail c.if-work-at-eq0.false;
      within = omega arith;
    }
