-- What the search whether a line can still become a line of a record is given and leaves. A mark (j, d) says that record j is to be looked at
-- from the last d bytes of the line on.
-- Assumes nothing.
use Rattle.std.specs.Prelude.{ℕ, ◌+◌, ◌-◌, ◌*◌, ◌≤◌, ◌<◌, ◌≡◌, Bool, true, ◌&&◌, ◌||◌, ◌⊎◌, List, [], leb, length, get_or}
use Rattle.posix.specs.Expressions.{holds}
use Rattle.posix.specs.Extends.{holds_some, extends}
use Rattle.table.specs.Records.{count}
use Rattle.table.specs.Faults.{Passes}
use Rattle.table.specs.Letters.{byte_set_at}
use Rattle.table.specs.Expression.{exp_of}
use Rattle.marks.specs.Marks.{marked}
use Rattle.rows.specs.Layout.{area_size, tells}
use Rattle.area.specs.Area.{part, Told}

-- the last d bytes of the line
abbrev pub rest : List ℕ → ℕ → List ℕ
rest s d = part s d d

-- some bytes behind the line make its last d bytes a line of record j
abbrev pub goes_on : List ℕ → List ℕ → ℕ → ℕ → Bool
goes_on t s j d = extends (exp_of t j) (rest s d)

-- the number of the mark (j, d)
abbrev pub place : ℕ → ℕ → ℕ
place j d = 256 * j + d

-- the numbers of P where the test is true, otherwise none
abbrev pub If : Bool → (ℕ → Type 0) → ℕ → Type 0
If b P i = (b ≡ true) × P i

-- the record spells some line at all
abbrev pub spells_some : List ℕ → ℕ → Bool
spells_some t j = extends (exp_of t j) []

-- of the records below k, those that spell some line are marked
pub record SomeFound (t : List ℕ) (k : ℕ) (some : List ℕ) : Type 0 where
  pub size : length some ≡ 4
  pub found : (j : ℕ) → j < k → marked some j ≡ spells_some t j

-- what the search is given: a table that passes, and a work area that tells the truth of a short line
pub record Known (t s w : List ℕ) : Type 0 where
  pub passes : Passes t
  pub short : length s ≤ 255
  pub told : Told t s w
  pub area : area_size (count t) (length s) ≤ length w

-- the marks of record k by themselves
pub record RowOf (k : ℕ) (ws row : List ℕ) : Type 0 where
  pub size : length row ≡ 4
  pub same : (d : ℕ) → d < 256 → marked row d ≡ marked ws (place k d)

-- the mark of record `to` at a rest behind the first e of the last d bytes, for an e that the area tells of record `of`
pub record RestOf (m : ℕ) (w : List ℕ) (of to d i : ℕ) : Type 0 where
  pub cut : ℕ
  pub inside : cut ≤ d
  pub told : tells m w of d cut ≡ true
  pub number : i ≡ place to (d - cut)

-- the same for some mark of the row, up to the line's n bytes
pub record RestOfRow (m : ℕ) (w row : List ℕ) (n of to i : ℕ) : Type 0 where
  pub left : ℕ
  pub within : left ≤ n
  pub there : marked row left ≡ true
  pub behind : RestOf m w of to left i

-- a mark of record j whose last d bytes can become a line of it
pub record Alive (t s ws : List ℕ) (j : ℕ) : Type 0 where
  pub left : ℕ
  pub within : left ≤ length s
  pub there : marked ws (place j left) ≡ true
  pub on : goes_on t s j left ≡ true

-- what a visit of record k is given: the marks, and those of the record by themselves
pub record Visiting (t s w : List ℕ) (k : ℕ) (ws row : List ℕ) : Type 0 where
  pub known : Known t s w
  pub inside : k < count t
  pub size : length ws ≡ 1024
  pub own : RowOf k ws row

-- what is found at a letter with the row's marks: no byte of the line is left and it holds some byte, or one is left and it holds that
abbrev pub letter_found : List ℕ → List ℕ → ℕ → List ℕ → Bool
letter_found t s k row =
    (marked row 0 && holds_some (byte_set_at t k))
    || (leb 1 (length s) && (marked row 1 && holds (byte_set_at t k) (get_or s (length s - 1) 0)))

-- what a visit of record k does: `found` says that bytes behind the line are found, or that none are needed; otherwise its marks are handed
-- on to lower records
pub record Visited (t s : List ℕ) (k : ℕ) (ws ws' : List ℕ) (found : Bool) : Type 0 where
  pub size : length ws' ≡ length ws
  pub kept : (i : ℕ) → marked ws i ≡ true → marked ws' i ≡ true
  pub right : found ≡ true → Alive t s ws k
  pub sound :
      (j d : ℕ) → d ≤ length s → marked ws' (place j d) ≡ true → goes_on t s j d ≡ true
      → (marked ws (place j d) ≡ true) ⊎ Alive t s ws k
  pub complete : Alive t s ws k → (found ≡ true) ⊎ ((j : ℕ) × (j < k) × Alive t s ws' j)

-- the search with the records from k on visited: the start record's line can be extended exactly where a mark of a lower record is alive
pub record Reaching (t s : List ℕ) (start k : ℕ) (ws : List ℕ) : Type 0 where
  pub size : length ws ≡ 1024
  pub sound : (j d : ℕ) → d ≤ length s → marked ws (place j d) ≡ true → goes_on t s j d ≡ true → extends (exp_of t start) s ≡ true
  pub complete : extends (exp_of t start) s ≡ true → (j : ℕ) × (j < k) × Alive t s ws j
