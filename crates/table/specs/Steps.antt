-- What the functions behind Check are said to do, in the terms of Faults and Checked.
-- Assumes nothing.
use Rattle.std.specs.Prelude.{ℕ, ◌<◌, ◌≡◌, Bool, not, List, eqb, length, get_or, Result, Ok, Err}
use Rattle.table.specs.declared.Refusal.{Refusal}
use Rattle.table.specs.Faults.{bad_kind, bad_unused, bad_bounds, bad_child, named_below}
use Rattle.table.specs.Answers.{Said, refuses, refusal}
use Rattle.table.specs.Checked.{or_else}

-- a test's refusal, or what is said after it
abbrev pub or_said : Result (Unit {0}) Refusal → Said → Said
or_said (Ok _) said = said
or_said (Err why) said = refusal why

-- record k's first fault of 2 to 5, which the record shows by itself, or what is said where it has none
abbrev pub own_fault_or : List ℕ → ℕ → Said → Said
own_fault_or t k said =
    or_else (bad_kind t k) (refuses 2 k)
    (or_else (bad_unused t k) (refuses 3 k) (or_else (bad_bounds t k) (refuses 4 k) (or_else (bad_child t k) (refuses 5 k) said)))

-- a mark is set where its byte is not 0
abbrev pub is_set : List ℕ → ℕ → Bool
is_set marks c = not (eqb (get_or marks c 0) 0)

-- 256 marks, of the records that some record below k names as a child
pub record Marks (t : List ℕ) (k : ℕ) (marks : List ℕ) : Type 0 where
  pub long : length marks ≡ 256
  pub right : (c : ℕ) → c < 256 → is_set marks c ≡ named_below t k c
