-- `plans::wake_parent_of` meets its contract: the bytes of both ranges are marked. Assumes nothing.
use mathlib.Core.Path.{refl}
use Rattle.plans.proofs.Finding.{ranges-wake}
use Rattle.plans.proofs.wake_parent_of.Goals as goal

pub returns : goal.returns
returns c = ranges-wake c.args.bounds.now c.args.up.now c.args.k _ _ _ _ _ refl refl refl refl refl _ _ _ c.requires.waking c.wake_by.ensures c.wake_by-2.ensures
