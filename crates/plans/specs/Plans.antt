-- What is found of a table before the work area is filled: the records whose rows follow from the line's bytes alone, for each record the one
-- that a part of it may matter to, and for each byte the records to look at first.
-- Assumes nothing.
use Rattle.std.specs.Prelude.{ℕ, suc, ◌+◌, ◌*◌, ◌≤◌, ◌<◌, ◌≡◌, ◌⊎◌, Bool, true, false, cond, ◌&&◌, ◌||◌, List, [], ◌∷◌, leb, ltb, eqb, length, get_or, set, take}
use Rattle.posix.specs.Expressions.{Exp}
use Rattle.posix.specs.Language.{Bytes}
use Rattle.posix.specs.Spells.{spells}
use Rattle.table.specs.Records.{count, a_at, b_at, is_or, is_seq, is_letter}
use Rattle.table.specs.Faults.{names_a}
use Rattle.table.specs.Expression.{exp_of}
use Rattle.marks.specs.Marks.{marked}
use Rattle.rows.specs.Layout.{is_set}
use Rattle.plans.specs.declared.Bounds.{Bounds}
use Rattle.plans.specs.declared.Plan.{Plan}

-- Plain records: letters, two ranges side by side, and what repeats one of these. The line's bytes alone say what they spell.

-- how many of the first bytes of u pass the test
unfoldable pub lead : (ℕ → Bool) → List ℕ → ℕ
lead C [] = 0
lead C (c ∷ u) = cond (C c) (suc (lead C u)) 0

-- the expression spells the lines of one byte that passes the test, and no other
pub record UnitRow (r : Exp) (C : ℕ → Bool) : Type 0 where
  pub not_empty : spells r [] ≡ false
  pub one : (u : List ℕ) → Bytes u → (e : ℕ) → 1 ≤ e → e ≤ length u → spells r (take e u) ≡ (eqb e 1 && C (get_or u 0 0))

-- of the lines of at least one byte the expression spells those whose bytes all pass the test
pub record RunRow (r : Exp) (C : ℕ → Bool) : Type 0 where
  pub all : (u : List ℕ) → Bytes u → (e : ℕ) → 1 ≤ e → e ≤ length u → spells r (take e u) ≡ leb e (lead C u)

-- c is within one of two ranges
abbrev pub in_either : (low high low2 high2 c : ℕ) → Bool
in_either low high low2 high2 c = (leb low c && leb c high) || (leb low2 c && leb c high2)

-- every column has a place for each record
pub record Columns (b : Bounds) : Type 0 where
  pub low_long : length b.low ≡ 256
  pub high_long : length b.high ≡ 256
  pub low2_long : length b.low2 ≡ 256
  pub high2_long : length b.high2 ≡ 256
  pub repeat_long : length b.repeat ≡ 256
  pub plain_long : length b.plain ≡ 256

-- what the columns say of record k
unfoldable pub in_bounds : Bounds → ℕ → ℕ → Bool
in_bounds b k c = in_either (get_or b.low k 0) (get_or b.high k 0) (get_or b.low2 k 0) (get_or b.high2 k 0) c

unfoldable pub repeat_at : Bounds → ℕ → ℕ
repeat_at b k = get_or b.repeat k 0

unfoldable pub is_plain : Bounds → ℕ → Bool
is_plain b k = get_or b.plain k false

-- record k's row follows from the line's bytes
abbrev pub Settled : List ℕ → Bounds → ℕ → Type 0
Settled t bounds k =
    ((repeat_at bounds k ≡ 0) × UnitRow (exp_of t k) (in_bounds bounds k)) ⊎ ((repeat_at bounds k ≡ 255) × RunRow (exp_of t k) (in_bounds bounds k))

-- the columns are right for the records below k; a record that is not plain is no letter and has no byte in its ranges
pub record Bounded (t : List ℕ) (k : ℕ) (bounds : Bounds) : Type 0 where
  pub size : Columns bounds
  pub plain : (j : ℕ) → j < k → is_plain bounds j ≡ true → Settled t bounds j
  pub others : (j : ℕ) → j < k → is_plain bounds j ≡ false → (is_letter t j ≡ false) × ((c : ℕ) → in_bounds bounds j c ≡ false)

-- the columns of record k were stored, and those of no other record changed
pub record Put (k low high low2 high2 repeat : ℕ) (plain : Bool) (bounds bounds' : Bounds) : Type 0 where
  pub low_set : bounds'.low ≡ set bounds.low k low
  pub high_set : bounds'.high ≡ set bounds.high k high
  pub low2_set : bounds'.low2 ≡ set bounds.low2 k low2
  pub high2_set : bounds'.high2 ≡ set bounds.high2 k high2
  pub repeat_set : bounds'.repeat ≡ set bounds.repeat k repeat
  pub plain_set : bounds'.plain ≡ set bounds.plain k plain

-- the columns of an Other, for the bytes below 256
pub record PutOther (k a b : ℕ) (bounds bounds' : Bounds) : Type 0 where
  pub low : ℕ
  pub high : ℕ
  pub low2 : ℕ
  pub high2 : ℕ
  pub put : Put k low high low2 high2 0 true bounds bounds'
  pub right : (c : ℕ) → c < 256 → in_either low high low2 high2 c ≡ (ltb c a || ltb b c)

-- record k has the ranges of record a, and repeats
abbrev pub Repeated : (k a : ℕ) → Bounds → Bounds → Type 0
Repeated k a bounds bounds' =
    Put k (get_or bounds.low a 0) (get_or bounds.high a 0) (get_or bounds.low2 a 0) (get_or bounds.high2 a 0) 255 true bounds bounds'

-- Parents.

-- a part of record i may matter to record j: i is a child of j; the second of a Seq only where the first spells the empty line
abbrev pub wakes : List ℕ → ℕ → ℕ → Bool
wakes t i j =
    (names_a t j && eqb (a_at t j) i) || ((is_or t j || (is_seq t j && spells (exp_of t (a_at t j)) [])) && eqb (b_at t j) i)

-- for the records below k that are not plain: the record that a part of i may matter to is at i
pub record Parents (t : List ℕ) (bounds : Bounds) (k : ℕ) (up : List ℕ) : Type 0 where
  pub size : length up ≡ 256
  pub right : (i j : ℕ) → j < k → is_plain bounds j ≡ false → wakes t i j ≡ true → get_or up i 0 ≡ j

-- The records to look at first.

-- record k is marked in the sets of the bytes from low up to high too
pub record MarkedIn (k low high : ℕ) (sets sets' : List ℕ) : Type 0 where
  pub size : length sets' ≡ length sets
  pub kept : (j : ℕ) → marked sets j ≡ true → marked sets' j ≡ true
  pub new : (c : ℕ) → low ≤ c → c < high → marked sets' (256 * c + k) ≡ true

-- for the records below k: the record that it may matter to is marked in the set of each byte of its ranges
pub record Waking (bounds : Bounds) (up : List ℕ) (k : ℕ) (sets : List ℕ) : Type 0 where
  pub size : length sets ≡ 1024
  pub right : (i c : ℕ) → i < k → c < 256 → in_bounds bounds i c ≡ true → marked sets (256 * c + get_or up i 0) ≡ true

-- the first n numbers of the list name every record below k that repeats, and only records below k
pub record Listed (bounds : Bounds) (k : ℕ) (runs : List ℕ) (n : ℕ) : Type 0 where
  pub size : length runs ≡ 256
  pub few : n ≤ k
  pub only : (i : ℕ) → i < n → get_or runs i 0 < k
  pub every : (j : ℕ) → j < k → repeat_at bounds j ≡ 255 → (i : ℕ) × (i < n) × (get_or runs i 0 ≡ j)

-- the records below k that spell the empty line are set
pub record EmptyTold (t : List ℕ) (k : ℕ) (w : List ℕ) : Type 0 where
  pub right : (j : ℕ) → j < k → is_set (get_or w j 0) ≡ spells (exp_of t j) []

-- all of it
pub record Planned (t : List ℕ) (plan : Plan) : Type 0 where
  pub bounded : Bounded t (count t) plan.bounds
  pub parents : Parents t plan.bounds (count t) plan.up
  pub waking : Waking plan.bounds plan.up (count t) plan.sets
  pub listed : Listed plan.bounds (count t) plan.runs plan.run_count
