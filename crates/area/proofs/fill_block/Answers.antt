-- `area::fill_block` meets its contract.
-- Assumes nothing.
use Prim.Native.Nat.{◌<◌}
use Rattle.table.specs.Records.{count}
use native.Mathlib.Omega.{arith}
use mathlib.Core.Path.{refl, ◌∙◌}
use Rattle.area.proofs.Blocks.{progress-more, woken-more}
use Rattle.area.proofs.Filling.{passed-next}
use Rattle.area.proofs.fill_block.Goals as goal

pub loop-k-init : goal.loop-k-init
loop-k-init c =
    let inside = c.next_marked-k.ensures.not_behind in
    let m = c.count-m.ensures.count in
    let x = passed-next _ _ _ _ _ c.requires.planned.bounded _ _ _ c.requires.progress c.requires.woken c.next_marked-k.ensures (omega (arith, inside, m)) in
    record { inside = inside; size = refl; progress = x.0; woken = x.1 }

pub loop-k-preserved : goal.loop-k-preserved
loop-k-preserved c =
    let v = c.loop-k.invariant in
    let m = c.count-m.ensures.count in
    let inside = c.next_marked-k-in-loop-k.ensures.not_behind in
    let here : c.loop-k.k < count c.args.table.now = omega (arith, m, c.loop-k-test.true) in
    let progress = progress-more _ _ _ _ _ _ v.progress here c.visit.ensures in
    let woken = woken-more _ _ _ _ _ _ v.progress here c.visit.ensures _ _ _ c.requires.planned.parents v.woken (rw m at c.wake_parent.ensures) in
    let x = passed-next _ _ _ _ _ c.requires.planned.bounded _ _ _ progress woken c.next_marked-k-in-loop-k.ensures (omega (arith, inside, m)) in
    record { inside = inside; size = c.visit.ensures.made.size ∙ v.size; progress = x.0; woken = x.1 }
