-- `area::base_of` meets its contract.
-- Assumes nothing.
use Rattle.area.proofs.Records.{base-first, base-next, star-seen}
use Rattle.area.proofs.base_of.Goals as goal

pub loop-j-init : goal.loop-j-init
loop-j-init c = base-first _ c.requires.passes _ c.requires.inside c.requires.kind _ c.a_at-j.ensures

pub loop-j-preserved : goal.loop-j-preserved
loop-j-preserved c =
    base-next _ c.requires.passes _ _ c.requires.inside c.loop-j.invariant (star-seen c.args.table.now c.loop-j.j _ _ c.kind_at.ensures.kind c.eq.ensures c.loop-j-test.true) _ c.a_at-j-in-loop-j.ensures
