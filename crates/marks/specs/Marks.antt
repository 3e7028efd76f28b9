-- Sets of numbers as bits in words of 64: number i is bit i % 64 of word i / 64.
-- Assumes nothing.
use Rattle.std.specs.Prelude.{ℕ, ◌+◌, ◌-◌, ◌*◌, ◌/◌, ◌%◌, ◌^◌, ◌≤◌, ◌<◌, ◌≡◌, ◌⊎◌, Bool, true, false, List, eqb, length, get_or}

unfoldable pub marked : List ℕ → ℕ → Bool
marked ws i = eqb (get_or ws (i / 64) 0 / 2 ^ (i % 64) % 2) 1

-- the numbers of P are marked too, what was marked still is, and nothing else
pub record MarkedAll (P : ℕ → Type 0) (ws ws' : List ℕ) : Type 0 where
  pub size : length ws' ≡ length ws
  pub kept : (j : ℕ) → marked ws j ≡ true → marked ws' j ≡ true
  pub new : (j : ℕ) → P j → marked ws' j ≡ true
  pub only : (j : ℕ) → marked ws' j ≡ true → P j ⊎ (marked ws j ≡ true)

-- number i is
abbrev pub MarkedToo : ℕ → List ℕ → List ℕ → Type 0
MarkedToo i = MarkedAll (λ j. j ≡ i)

-- number j is a marked number of ws, counted on from word `at`
abbrev pub FromWord : ℕ → List ℕ → ℕ → Type 0
FromWord at ws j = (64 * at ≤ j) × (marked ws (j - 64 * at) ≡ true)

-- r is not below `from`, and no number from there up to r is marked
pub record NextMarked (ws : List ℕ) (from end r : ℕ) : Type 0 where
  pub not_before : from ≤ r
  pub not_behind : r ≤ end
  pub passed : (i : ℕ) → from ≤ i → i < r → marked ws i ≡ false

-- the words of `from` from word `at` on were copied over those of `to`
pub record Copied (at : ℕ) (from to to' : List ℕ) : Type 0 where
  pub size : length to' ≡ length to
  pub same : (i : ℕ) → i < 64 * length to → marked to' i ≡ marked from (64 * at + i)
