-- `notation::range_word` meets its contract. Assumes nothing.
use Prim.Native.Nat.{◌≤◌}
use native.Mathlib.Omega.{arith}
use lib.ListN.{get_or}
use Rattle.std.proofs.lemmas.Grind.{common_steps}
use Rattle.notation.proofs.range_word.Goals as goal

pub returns-in-45 : goal.returns-in-45
returns-in-45 c =
    let ordered : get_or c.args.rest.now 0 0 ≤ get_or c.args.rest.now 2 0 = omega arith in
    grind (arith, common_steps)
