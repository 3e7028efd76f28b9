-- What the functions that find and keep lines are said to do.
-- Assumes nothing.
use Rattle.std.specs.Prelude.{ℕ, ◌≤◌, ◌<◌, ◌≡◌, List, ◌++◌, length, get_or, take}
use Rattle.lines.specs.Lines.{kept_of}

-- `end` is where the first byte 10 from `from` on stands, or the block's length where there is none
pub record NextEnd (block : List ℕ) (from end : ℕ) : Type 0 where
  pub behind : from ≤ end
  pub inside : end ≤ length block
  pub passed : (i : ℕ) → from ≤ i → i < end → get_or block i 0 ≡ 10 → ⊥
  pub found : end < length block → get_or block end 0 ≡ 10

-- bytes are taken into the line, of which the first `kept` bytes of a buffer are kept, and then `next` of them
pub record Kept (line : List ℕ) (kept : ℕ) (bytes line' : List ℕ) (next : ℕ) : Type 0 where
  pub few : next ≤ 256
  pub holds : take next line' ≡ kept_of (take kept line ++ bytes)
