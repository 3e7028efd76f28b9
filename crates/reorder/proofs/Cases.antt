-- The cases follow from the definitions, by one computation over each list.
-- Assumes nothing.
use mathlib.Core.Path.{◌≡◌, refl}
use mathlib.Core.List.{map}
use Rattle.table.specs.Expression.{below, exp_of}
use Rattle.reorder.specs.Cases.{Outcome, Stated, computed, cases, written, readings, readings_stated, tries, answered}

abbrev computed_of : Stated → Outcome
computed_of x = computed x.case

abbrev stated_of : Stated → Outcome
stated_of x = x.outcome

pub cases-hold : map computed_of cases ≡ map stated_of cases
unfolding below exp_of
cases-hold = refl

pub written-hold : map readings written ≡ map readings_stated written
unfolding below exp_of
written-hold = refl

pub tries-hold : map answered tries ≡ map (λ x. x.answer) tries
unfolding below exp_of
tries-hold = refl
