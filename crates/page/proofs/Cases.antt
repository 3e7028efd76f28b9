-- The cases follow from the definitions: one computation over each list.
-- Assumes nothing.
use mathlib.Core.Path.{◌≡◌, refl}
use mathlib.Core.List.{map}
use Rattle.table.specs.Expression.{below, exp_of}
use Rattle.matcher.specs.Calls.{read_says}
use Rattle.lexer.specs.Lexing.{lex_says}
use Rattle.page.specs.Entries.{alike}
use Rattle.page.specs.Pages.{page_says, keeps_scratch}
use Rattle.page.specs.Cases.{cases, computed, stated, divisions, runs_computed, runs_stated}

pub cases-hold : map computed cases ≡ map stated cases
unfolding below exp_of read_says lex_says alike page_says keeps_scratch
cases-hold = refl

pub divisions-hold : map runs_computed divisions ≡ map runs_stated divisions
unfolding below exp_of alike
divisions-hold = refl
