-- What the calls by value leave.
-- Assumes nothing.
use Rattle.std.specs.Prelude.{ℕ, ◌≡◌, true, List, Result}
use Rattle.table.specs.declared.Refusal.{Refusal}
use Rattle.table.specs.Answers.{Said, is_refused}
use Rattle.live.specs.declared.LiveLine.{LiveLine}
use Rattle.live.specs.declared.Facts.{Facts}
use Rattle.live.specs.Calls.{heard_says, after_call}

-- what a call that is to say `said` answers, and leaves of the live line and of the work area: "A refused call changes neither line nor model nor
-- work area; after any other the work area's content is free."
pub record Answered (said : Said) (old new line : LiveLine) (answer : Result Facts Refusal) (work work' : List ℕ) : Type 0 where
  pub heard : heard_says answer ≡ said
  pub left : line ≡ after_call said new old
  pub kept : is_refused said ≡ true → work' ≡ work
