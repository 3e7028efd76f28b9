-- The bytes that letters hold, as marks: byte c is number c.
-- Assumes nothing.
use Rattle.std.specs.Prelude.{ℕ, ◌/◌, ◌≤◌, ◌<◌, ◌≡◌, true, false, List, length, get_or}
use Rattle.posix.specs.Expressions.{holds}
use Rattle.table.specs.Records.{is_letter}
use Rattle.table.specs.Letters.{byte_set_at}
use Rattle.marks.specs.Marks.{marked}

-- the numbers from low on below high are marked too, and what was marked still is
pub record MarkedFrom (low high : ℕ) (ws ws' : List ℕ) : Type 0 where
  pub size : length ws' ≡ length ws
  pub kept : (j : ℕ) → marked ws j ≡ true → marked ws' j ≡ true
  pub new : (j : ℕ) → low ≤ j → j < high → marked ws' j ≡ true

-- the same for those of word w alone
pub record MarkedIn (w low high : ℕ) (ws ws' : List ℕ) : Type 0 where
  pub size : length ws' ≡ length ws
  pub kept : (j : ℕ) → marked ws j ≡ true → marked ws' j ≡ true
  pub new : (j : ℕ) → low ≤ j → j < high → j / 64 ≡ w → marked ws' j ≡ true

-- each byte that a letter below k holds is marked
pub record LettersMarked (t : List ℕ) (k : ℕ) (ws : List ℕ) : Type 0 where
  pub size : length ws ≡ 4
  pub right : (i c : ℕ) → i < k → is_letter t i ≡ true → holds (byte_set_at t i) c ≡ true → marked ws c ≡ true

-- some byte of the line is not marked
pub record Unmarked (s ws : List ℕ) : Type 0 where
  pub place : ℕ
  pub within : place < length s
  pub none : marked ws (get_or s place 0) ≡ false
