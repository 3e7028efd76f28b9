-- `area::seed` meets its contract: the test as a mask.
-- Assumes nothing.
use native.Mathlib.Omega.{arith}
use Rattle.plans.specs.Plans.{in_either}
use Rattle.area.proofs.Seeds.{seed-right}
use Rattle.area.proofs.seed.Goals as goal

pub returns : goal.returns
returns c = seed-right (in_either c.args.low c.args.high c.args.low2 c.args.high2 c.args.c) _ c.in_either.ensures (omega (arith, c.requires))
