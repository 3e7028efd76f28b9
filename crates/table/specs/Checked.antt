-- Check's answer (document 01, "The rule table"): "Check goes through records upward, testing refusals 2 to 6 in order at each; the first
-- fault found is the answer. A table that passes gives m."
-- Assumes nothing.
use Rattle.std.specs.Prelude.{ℕ, zero, suc, ◌<◌, ◌≡◌, Bool, true, false, List}
use Rattle.table.specs.Records.{count}
use Rattle.table.specs.Faults.{bad_size, bad_kind, bad_unused, bad_bounds, bad_child, bad_named, fault}
use Rattle.table.specs.Answers.{Said, gives, refuses}

-- the first answer where the test is true, otherwise the second
abbrev pub or_else : Bool → Said → Said → Said
or_else true a b = a
or_else false a b = b

-- record k's first fault, or what is said where it has none
abbrev pub fault_or : List ℕ → ℕ → Said → Said
fault_or t k said =
    or_else (bad_kind t k) (refuses 2 k)
    (or_else (bad_unused t k) (refuses 3 k)
    (or_else (bad_bounds t k) (refuses 4 k)
    (or_else (bad_child t k) (refuses 5 k)
    (or_else (bad_named t k) (refuses 6 k) said))))

-- the first fault of n records from record k upward, or m
abbrev pub fault_from : List ℕ → ℕ → ℕ → Said
fault_from t zero k = gives (count t)
fault_from t (suc n) k = fault_or t k (fault_from t n (suc k))

-- Check's answer
abbrev pub checked : List ℕ → Said
checked t = or_else (bad_size t) (refuses 1 0) (fault_from t (count t) zero)

-- record d is the first with a fault, and refusal n the first of its faults
pub record FirstFault (t : List ℕ) (n d : ℕ) : Type 0 where
  pub size_right : bad_size t ≡ false
  pub inside : d < count t
  pub found : fault n t d ≡ true
  pub lower_free : (j i : ℕ) → j < d → fault i t j ≡ false
  pub earlier_free : (i : ℕ) → i < n → fault i t d ≡ false

-- why a table is refused by number n with detail d
pub data RefusedFor (t : List ℕ) (n d : ℕ) : Type 0 where
  of_size : n ≡ 1 → d ≡ 0 → bad_size t ≡ true → RefusedFor t n d
  of_record : FirstFault t n d → RefusedFor t n d
