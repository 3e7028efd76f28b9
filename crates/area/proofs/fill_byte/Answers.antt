-- `area::fill_byte` meets its contract: the seeds start a block, and the block is filled to its end.
-- Assumes nothing.
use native.Mathlib.Omega.{arith}
use mathlib.Core.Path.{refl}
use lib.ListN.{length}
use Rattle.table.specs.Records.{count}
use Rattle.area.specs.Filling.{LowsSet}
use Rattle.table.proofs.Passing.{count-bound}
use Rattle.area.proofs.Seeds.{lows-front}
use Rattle.area.proofs.Filling.{behind-low, block_start, block-woken, block-end}
use Rattle.area.proofs.fill_byte.Goals as goal

pub seed_block-requires-clause-behind : goal.seed_block-requires-clause-behind
seed_block-requires-clause-behind c = rw c.count-m.ensures.count (behind-low _ _ _ _ c.requires.sized c.requires.some_byte c.requires.filled)

pub fill_block-requires-clause-progress : goal.fill_block-requires-clause-progress
fill_block-requires-clause-progress c =
    let m = c.count-m.ensures.count in
    let p = c.requires.planned in
    let lows : LowsSet (count c.args.table.now) (length c.args.rest.now) c.args.plan.now.runs c.args.plan.now.run_count c.seed_block.new.work c.set_lows.new.work =
    lows-front _ _ _ _ _ _ (omega (arith, p.listed.few, p.listed.size, count-bound _ c.requires.sized.passes)) (rw m at c.set_lows.ensures) in
    block_start _ _ _ _ _ _ _ _ c.requires.sized c.requires.some_byte (λ i l. omega (arith, c.type_inv.rest i)) c.requires.filled p.bounded p.listed (rw m at c.seed_block.ensures) lows

pub fill_block-requires-clause-woken : goal.fill_block-requires-clause-woken
fill_block-requires-clause-woken c =
    let m = c.count-m.ensures.count in
    let p = c.requires.planned in
    let lows : LowsSet (count c.args.table.now) (length c.args.rest.now) c.args.plan.now.runs c.args.plan.now.run_count c.seed_block.new.work c.set_lows.new.work =
    lows-front _ _ _ _ _ _ (omega (arith, p.listed.few, p.listed.size, count-bound _ c.requires.sized.passes)) (rw m at c.set_lows.ensures) in
    block-woken _ _ _ _ _ _ _ _ c.requires.sized c.requires.some_byte (λ i l. omega (arith, c.type_inv.rest i)) c.requires.filled p.bounded p.listed (rw m at c.seed_block.ensures) lows _ _ _ p.parents p.waking _ refl c.copy_marks.ensures

pub returns-clause-filled : goal.returns-clause-filled
returns-clause-filled c = block-end _ _ _ _ c.fill_block.ensures.progress
