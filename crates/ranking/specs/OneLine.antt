-- Compare's answer on two readings of one line, in the words of the precedence (document 01, "Precedence of readings").
-- Assumes nothing.
use Rattle.std.specs.Prelude.{ℕ, ◌<◌, ◌≡◌, List, ◌↔◌}
use Rattle.posix.specs.Values.{Val}
use Rattle.posix.specs.Precedence.{Ahead}
use Rattle.table.specs.Records.{count}
use Rattle.table.specs.Faults.{Passes}
use Rattle.table.specs.Answers.{Said, gives}
use Rattle.reading.specs.Fitting.{Fits, spelled}

-- two byte sequences that fit the start record of a table that passes, and spell one line
pub record OneLine (t : List ℕ) (k : ℕ) (bs cs : List ℕ) : Type 0 where
  pub passes : Passes t
  pub inside : k < count t
  pub first : Fits t k bs
  pub second : Fits t k cs
  pub same_line : spelled bs ≡ spelled cs

-- "It returns 1 if the first ranks ahead, 2 if the second does, 0 if the bytes are the same." `answered x` says that the answer is x; v and w
-- are the readings that the bytes bs and cs encode.
pub record AnswersPrecedence (answered : Said → Type 0) (bs cs : List ℕ) (v w : Val) : Type 0 where
  pub first_ahead : answered (gives 1) ↔ Ahead v w
  pub second_ahead : answered (gives 2) ↔ Ahead w v
  pub same_bytes : answered (gives 0) ↔ (bs ≡ cs)
