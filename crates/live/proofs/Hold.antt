-- The cases follow from the definitions: one computation over the list.
-- Assumes nothing.
use mathlib.Core.Path.{◌≡◌, refl}
use mathlib.Core.List.{map}
use Rattle.table.specs.Expression.{below, exp_of}
use Rattle.live.specs.Calls.{new_says, new_leaves, add_says, add_leaves, take_back_says, take_back_leaves}
use Rattle.live.specs.Cases.{cases, computed, stated}

pub cases-hold : map computed cases ≡ map stated cases
unfolding below exp_of new_says new_leaves add_says add_leaves take_back_says take_back_leaves
cases-hold = refl
