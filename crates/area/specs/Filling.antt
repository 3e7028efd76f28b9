-- How far the work area is filled, for the bytes s from one of the line's bytes on: the block of all of them, record by record (document 02,
-- request 4: "from the line's last byte towards its first").
-- Assumes nothing.
use Rattle.std.specs.Prelude.{ℕ, ◌+◌, ◌-◌, ◌≤◌, ◌<◌, ◌≡◌, ◌⊎◌, Bool, true, false, cond, List, leb, length, get_or, drop}
use Rattle.std.specs.Int.Bits.{bit_and}
use Rattle.posix.specs.Expressions.{star}
use Rattle.posix.specs.Spells.{spells}
use Rattle.table.specs.Records.{count}
use Rattle.table.specs.Faults.{Passes}
use Rattle.table.specs.Expression.{exp_of}
use Rattle.marks.specs.Marks.{marked}
use Rattle.rows.specs.Layout.{area_size, head_at, row_at, longest_at, tells}
use Rattle.rows.specs.Rows.{Shaped, Grown}
use Rattle.area.specs.Area.{part}
use Rattle.plans.specs.declared.Bounds.{Bounds}
use Rattle.plans.specs.Plans.{lead, in_bounds, repeat_at, is_plain, wakes}

-- a table that passes, a line that is not too long and an area with room for both
pub record Sized (t s w : List ℕ) : Type 0 where
  pub passes : Passes t
  pub short : length s ≤ 255
  pub room : area_size (count t) (length s) ≤ length w

-- record k spells the first e of the last d bytes
abbrev pub truth : List ℕ → List ℕ → (k d e : ℕ) → Bool
truth t s k d e = spells (exp_of t k) (part s d e)

-- the row of record k in block d tells the truth
pub record RowTold (t s : List ℕ) (d k : ℕ) (w : List ℕ) : Type 0 where
  pub shape : 1 ≤ d → Shaped (count t) d k w
  pub fact : (e : ℕ) → e ≤ d → tells (count t) w k d e ≡ truth t s k d e

-- all blocks below d tell the truth
abbrev pub ToldBelow : List ℕ → List ℕ → ℕ → List ℕ → Type 0
ToldBelow t s d w = (j c : ℕ) → j < count t → c < d → RowTold t s c j w

-- the blocks of fewer bytes, and the records below k in the block of all of s, tell the truth
pub record Known (t s : List ℕ) (k : ℕ) (w : List ℕ) : Type 0 where
  pub sized : Sized t s w
  pub some_byte : 1 ≤ length s
  pub blocks : ToldBelow t s (length s) w
  pub records : (j : ℕ) → j < k → j < count t → RowTold t s (length s) j w

-- record k's row is the next to be made, and is empty
pub record Ready (t s : List ℕ) (k : ℕ) (w : List ℕ) : Type 0 where
  pub known : Known t s k w
  pub number : k < count t
  pub none : longest_at w (count t) (length s) k ≡ 0

-- record k's row was made
abbrev pub Made : List ℕ → List ℕ → ℕ → List ℕ → List ℕ → Type 0
Made t s k w w' = Grown (count t) (length s) k (truth t s k (length s)) w w'

-- record k spells the lines of a Star of the lower record j
pub record Base (t : List ℕ) (k j : ℕ) : Type 0 where
  pub lower : j < k
  pub same : (u : List ℕ) → spells (exp_of t k) u ≡ spells (star (exp_of t j)) u

-- the headers of plain records that repeat are the numbers of bytes from there on that are in their ranges
abbrev pub RunsTold : List ℕ → Bounds → List ℕ → ℕ → List ℕ → Type 0
RunsTold t bounds s d w =
    (j c : ℕ) → j < count t → 1 ≤ c → c ≤ d → is_plain bounds j ≡ true → repeat_at bounds j ≡ 255
    → longest_at w (count t) c j ≡ lead (in_bounds bounds j) (drop (length s - c) s)

-- how far the block of all of s is filled: the blocks of fewer bytes, the records below k and the plain records tell the truth; the others
-- have empty rows
pub record Progress (t : List ℕ) (bounds : Bounds) (s : List ℕ) (k : ℕ) (w : List ℕ) : Type 0 where
  pub known : Known t s k w
  pub plains : (j : ℕ) → j < count t → is_plain bounds j ≡ true → RowTold t s (length s) j w
  pub runs : RunsTold t bounds s (length s) w
  pub others : (j : ℕ) → k ≤ j → j < count t → is_plain bounds j ≡ false → longest_at w (count t) (length s) j ≡ 0

-- record k was looked at: its row tells the truth, and that of a plain record stayed
pub record Visited (t : List ℕ) (bounds : Bounds) (s : List ℕ) (k : ℕ) (w w' : List ℕ) : Type 0 where
  pub made : Made t s k w w'
  pub stayed : is_plain bounds k ≡ true → w' ≡ w

-- a record that is not plain is marked where a non-empty part of one of the records below k, or of a plain record, may matter to it
pub record Woken (t : List ℕ) (bounds : Bounds) (s : List ℕ) (k : ℕ) (w marks : List ℕ) : Type 0 where
  pub size : length marks ≡ 4
  pub right :
      (i j : ℕ) → i < count t → j < count t → is_plain bounds j ≡ false → wakes t i j ≡ true → (i < k) ⊎ (is_plain bounds i ≡ true)
      → ¬ (longest_at w (count t) (length s) i ≡ 0) → marked marks j ≡ true

-- i is marked too, unless n is 0; what was marked still is
pub record MarkedUnless (n i : ℕ) (marks marks' : List ℕ) : Type 0 where
  pub size : length marks' ≡ length marks
  pub kept : (j : ℕ) → marked marks j ≡ true → marked marks' j ≡ true
  pub new : ¬ (n ≡ 0) → marked marks' i ≡ true

-- all blocks up to that of s tell the truth
pub record FilledFor (t : List ℕ) (bounds : Bounds) (s w : List ℕ) : Type 0 where
  pub rows : (j c : ℕ) → j < count t → c ≤ length s → RowTold t s c j w
  pub runs : RunsTold t bounds s (length s) w

-- Seeds: what the line's byte c says of the block of d bytes.

-- the header of the same record in the block of one byte less
abbrev pub head_behind : List ℕ → (m d k : ℕ) → ℕ
head_behind w m d k = cond (leb d 1) 0 (longest_at w m (d - 1) k)

-- the first n headers of block d are 0 where c is not in the record's ranges, and otherwise 1, or for a record that repeats one more than
-- in the block of one byte less; all else is kept
pub record Seeded (bounds : Bounds) (c m d n : ℕ) (w w' : List ℕ) : Type 0 where
  pub size : length w' ≡ length w
  pub heads : (k : ℕ) → k < n → longest_at w' m d k ≡ cond (in_bounds bounds k c) (bit_and (head_behind w m d k) (repeat_at bounds k) + 1) 0
  pub kept : (i : ℕ) → (i < head_at m d 0) ⊎ (head_at m d n ≤ i) → get_or w' i 0 ≡ get_or w i 0

-- the rows of the first n records of a list start with 1; headers and the blocks of fewer bytes are kept
pub record LowsSet (m d : ℕ) (runs : List ℕ) (n : ℕ) (w w' : List ℕ) : Type 0 where
  pub size : length w' ≡ length w
  pub lows : (i : ℕ) → i < n → get_or w' (row_at m d (get_or runs i 0)) 0 ≡ 1
  pub kept : (i : ℕ) → i < row_at m d 0 → get_or w' i 0 ≡ get_or w i 0
