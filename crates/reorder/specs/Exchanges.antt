-- Tables with alternatives exchanged (document 02, request 9).
-- Assumes nothing.
use Rattle.std.specs.Prelude.{ℕ, ◌+◌, ◌*◌, ◌≤◌, ◌<◌, ◌≡◌, Bool, true, false, not, cond, List, [], ◌∷◌, eqb, length, set}
use Rattle.posix.specs.Language.{L}
use Rattle.table.specs.Records.{count, a_at, b_at, is_or}
use Rattle.table.specs.Expression.{exp_of}

-- "exchanging that record's a and b": the table with the two fields of record k exchanged
abbrev pub swapped : List ℕ → ℕ → List ℕ
swapped t k = set (set t (4 * k + 1) (b_at t k)) (4 * k + 2) (a_at t k)

-- the same at each record of a list, one after the other
abbrev pub reordered : List ℕ → List ℕ → List ℕ
reordered t [] = t
reordered t (k ∷ ks) = reordered (swapped t k) ks

-- record j stands in the list an odd number of times, so that its fields are left exchanged
abbrev pub changed : List ℕ → ℕ → Bool
changed [] j = false
changed (k ∷ ks) j = cond (eqb j k) (not (changed ks j)) (changed ks j)

-- record k of the table is an Or
pub record OrRecord (t : List ℕ) (k : ℕ) : Type 0 where
  pub inside : k < count t
  pub of_kind_or : is_or t k ≡ true

-- "no line is spelled by both alternatives of an Or record"; a line has at most 255 bytes
pub record Apart (t : List ℕ) (k : ℕ) : Type 0 where
  pub or_record : OrRecord t k
  pub share_none : (s : List ℕ) → length s ≤ 255 → L (exp_of t (a_at t k)) s → L (exp_of t (b_at t k)) s → ⊥

-- a line that both alternatives of Or record k spell
pub record Shared (t : List ℕ) (k : ℕ) (s : List ℕ) : Type 0 where
  pub or_record : OrRecord t k
  pub short : length s ≤ 255
  pub first : L (exp_of t (a_at t k)) s
  pub second : L (exp_of t (b_at t k)) s

-- each number of a list has P
pub data Each (P : ℕ → Type 0) : List ℕ → Type 0 where
  each_none : Each P []
  each_more : {k : ℕ} {ks : List ℕ} → P k → Each P ks → Each P (k ∷ ks)
