-- `area::set_lows` meets its contract.
-- Assumes nothing.
use native.Mathlib.Omega.{arith}
use Rattle.area.proofs.Seeds.{lows-more, row_room}
use Rattle.area.proofs.set_lows.Goals as goal

pub bounds-work-at : goal.bounds-work-at
bounds-work-at c =
    omega (arith, c.loop-k.invariant.size, c.row_at-at.ensures, row_room c.args.m c.args.d c.args.runs.now _ _ (c.requires.records _ c.loop-k-test.true) c.requires.sizes.1 c.requires.room)

pub loop-k-preserved : goal.loop-k-preserved
loop-k-preserved c =
    let room = row_room c.args.m c.args.d c.args.runs.now _ _ (c.requires.records _ c.loop-k-test.true) c.requires.sizes.1 c.requires.room in
    lows-more _ _ _ _ _ _ _ c.loop-k.invariant c.row_at-at.ensures (omega (arith, c.row_at-at.ensures, room))
