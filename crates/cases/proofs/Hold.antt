-- Tables T1 to T4, the cases A to J and those of Other, of empty parts, of texts and of wrong lengths and record numbers follow from the definitions that the
-- calls' contracts cite: one proof over the list.
-- Assumes nothing.
use mathlib.Core.Path.{◌≡◌, refl}
use mathlib.Core.List.{map}
use Rattle.table.specs.Expression.{below, exp_of}
use Rattle.reading.specs.Fitting.{reading_of}
use Rattle.reading.specs.Calls.{spell_says, spell_leaves}
use Rattle.tokens.specs.Listed.{tokens_says, tokens_leaves}
use Rattle.ranking.specs.Answers.{compare_says}
use Rattle.matcher.specs.Calls.{read_says, read_leaves}
use Rattle.notation.specs.Decision.{word_at, outcome}
use Rattle.notation.specs.Calls.{limited, compile_says, compile_leaves}
use Rattle.cases.specs.Tables.{T1-written, T2-written}
use Rattle.cases.specs.Cases.{stated, computed_by, computed, cases}

-- every case comes out as it is stated
pub cases-hold : map computed cases ≡ map stated cases
unfolding computed computed_by below exp_of reading_of spell_says spell_leaves tokens_says tokens_leaves compare_says read_says read_leaves word_at outcome limited compile_says compile_leaves T1-written T2-written
cases-hold = refl
