-- `apart::all_shared` meets its contract. The loop's invariant: `shared` is what the bytes below `c` show. Assumes nothing.
use mathlib.Core.Path.{◌≡◌}
use Rattle.table.specs.Expression.{exp_of}
use Rattle.apart.specs.Shared.{shared_below}
use Rattle.apart.proofs.all_shared.Given as goal

abbrev pub invariant-loop-c : goal.invariant-loop-c
invariant-loop-c l = l.shared ≡ shared_below (exp_of l.table l.i) (exp_of l.table l.j) l.c
