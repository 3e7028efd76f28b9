-- `area::seed_block` meets its contract.
-- Assumes nothing.
use native.Mathlib.Omega.{arith}
use Rattle.area.proofs.Seeds.{seeded-more, header-small, header-right, head-room, behind-room}
use Rattle.area.proofs.seed_block.Goals as goal

pub overflow_add-before : goal.overflow_add-before
overflow_add-before c = omega (arith, c.head_at-before.ensures, behind-room c.args.m c.args.d c.loop-k.k _ c.loop-k-test.true c.requires.sizes.1 c.requires.room)

pub bounds-work-before : goal.bounds-work-before
bounds-work-before c = omega (arith, c.loop-k.invariant.size, c.head_at-before.ensures, behind-room c.args.m c.args.d c.loop-k.k _ c.loop-k-test.true c.requires.sizes.1 c.requires.room)

pub seed-requires : goal.seed-requires
seed-requires c =
    header-small c.args.bounds.now c.args.c c.args.m c.args.d c.loop-k.k c.args.work.now c.loop-k.work c.loop-k.invariant c.requires.sizes.1 c.loop-k-test.true c.head_at-before.ensures c.behind_mask-mask.ensures (c.requires.behind _ c.loop-k-test.true) _

pub overflow_add-work : goal.overflow_add-work
overflow_add-work c = omega (arith, c.head_at-at.ensures, head-room c.args.bounds.now c.args.c c.args.m c.args.d c.loop-k.k _ c.loop-k-test.true c.requires.room)

pub bounds-work-at : goal.bounds-work-at
bounds-work-at c = omega (arith, c.loop-k.invariant.size, c.head_at-at.ensures, head-room c.args.bounds.now c.args.c c.args.m c.args.d c.loop-k.k _ c.loop-k-test.true c.requires.room)

pub loop-k-preserved : goal.loop-k-preserved
loop-k-preserved c =
    let room = head-room c.args.bounds.now c.args.c c.args.m c.args.d c.loop-k.k _ c.loop-k-test.true c.requires.room in
    seeded-more _ _ _ _ _ _ _ _ _ c.loop-k.invariant c.head_at-at.ensures (omega (arith, c.head_at-at.ensures, room))
    (header-right c.args.bounds.now c.args.c c.args.m c.args.d c.loop-k.k c.args.work.now c.loop-k.work c.loop-k.invariant c.requires.sizes.1 c.loop-k-test.true c.head_at-before.ensures c.behind_mask-mask.ensures (c.requires.behind _ c.loop-k-test.true) c.seed.ensures)
