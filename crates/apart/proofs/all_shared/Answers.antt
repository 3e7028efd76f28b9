-- `apart::all_shared` meets its contract. Assumes nothing.
use native.Mathlib.Omega.{arith}
use mathlib.Core.Path.{◌≡◌}
use Rattle.table.specs.Expression.{exp_of}
use Rattle.apart.proofs.Sharing.{shared-none, shared-next}
use Rattle.apart.proofs.all_shared.Goals as goal

pub loop-c-init : goal.loop-c-init
loop-c-init c = shared-none (exp_of c.args.table.now c.args.i) (exp_of c.args.table.now c.args.j)

pub loop-c-preserved : goal.loop-c-preserved
loop-c-preserved c = shared-next _ _ _ _ _ c.loop-c.invariant c.shared_bits-shared.ensures

pub returns : goal.returns
returns c = let e : c.loop-c.c ≡ 256 = omega (arith, c.loop-c.auto.c-end, c.loop-c-test.false) in rw e at c.loop-c.invariant
