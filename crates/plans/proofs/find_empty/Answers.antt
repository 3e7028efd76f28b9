-- `plans::find_empty` meets its contract. Assumes nothing.
use native.Mathlib.Omega.{arith}
use mathlib.Core.Path.{◌∙◌}
use lib.ListN.{length-set}
use Rattle.plans.proofs.Finding.{empty-more, set-test}
use Rattle.plans.proofs.find_empty.Goals as goal

pub loop-k-preserved : goal.loop-k-preserved
loop-k-preserved c =
    let v = c.loop-k.invariant in
    record {
      told = empty-more _ _ _ _ v.told (omega (arith, v.size)) (set-test c.spells_empty.result ∙ c.spells_empty.ensures);
      size = simp length-set v.size;
    }
