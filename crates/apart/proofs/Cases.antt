-- The examples follow from the definition that the call's contract cites: one proof over the list.
-- Assumes nothing.
use mathlib.Core.Path.{◌≡◌, refl}
use mathlib.Core.List.{map}
use Rattle.table.specs.Expression.{below, exp_of}
use Rattle.apart.specs.Calls.{apart_says}
use Rattle.apart.specs.Cases.{stated, computed, cases}

-- every case comes out as it is stated
pub cases-hold : map computed cases ≡ map stated cases
unfolding computed apart_says below exp_of
cases-hold = refl
