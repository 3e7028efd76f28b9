-- What a function that writes at a moving position leaves.
-- Assumes nothing.
use Rattle.std.specs.Prelude.{ℕ, ◌+◌, ◌≡◌, List, length}
use Rattle.std.proofs.lemmas.List.Edits.{sets}

-- the bytes stand in the buffer from a position on, the others are left, and next is the position after them
pub record Wrote (entry exit : List ℕ) (at next : ℕ) (bytes : List ℕ) : Type 0 where
  pub moved : next ≡ at + length bytes
  pub buffer : exit ≡ sets entry at bytes
