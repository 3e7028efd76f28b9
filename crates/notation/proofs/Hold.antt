-- The cases of the notation, trees and tables, follow from the definitions: one proof over each list.
-- Assumes nothing.
use mathlib.Core.Path.{◌≡◌, refl}
use mathlib.Core.List.{map}
use Rattle.notation.specs.Decision.{word_at, outcome}
use Rattle.notation.specs.Calls.{limited}
use Rattle.notation.specs.Cases.{stated, computed, cases, stated_bytes, computed_bytes, tables}

pub cases-hold : map computed cases ≡ map stated cases
unfolding computed outcome word_at
cases-hold = refl

pub tables-hold : map computed_bytes tables ≡ map stated_bytes tables
unfolding computed_bytes limited outcome word_at
tables-hold = refl
