-- The loop of Check: what is known before record k, and what each way out of the loop says.
-- Assumes nothing.
use Prim.Native.Nat.{ℕ, suc, ◌+◌, ◌-◌, ◌%◌, ◌≤◌, ◌<◌}
use native.Mathlib.Omega.{arith}
use native.Mathlib.Numerals.{add-one}
use mathlib.Core.Path.{◌≡◌, sym, ap, ◌∙◌}
use mathlib.Core.Bool.{Bool, true, false, not}
use mathlib.Core.List.{List}
use lib.Dec.{ltb, eqb}
use lib.ListN.{length, replicate, length-replicate, get_or-replicate}
use borrow.Author.Tests.{lt-ltb, le-ltb, eq-eqb, ne_eqb}
use Rattle.table.specs.declared.Refusal.{Refusal}
use Rattle.std.specs.Prelude.{Result, Ok, Err}
use Rattle.table.specs.Records.{count}
use Rattle.table.specs.Faults.{bad_size, bad_named}
use Rattle.table.specs.Answers.{Said, gives, refuses, refusal}
use Rattle.table.specs.Checked.{or_else, fault_from, checked}
use Rattle.table.specs.Steps.{or_said, own_fault_or, Marks}
use Rattle.table.proofs.Passing.{or-true-left, or_true_right}

-- before record k: the records below it have no fault, and the marks are theirs
pub record Scanning (t : List ℕ) (k : ℕ) (marks : List ℕ) : Type 0 where
  pub within : k ≤ count t
  pub so_far : fault_from t (count t - k) k ≡ checked t
  pub marked : Marks t k marks

module _ (t : List ℕ) where
  size-refused : bad_size t ≡ true → refuses 1 0 ≡ checked t
  size-refused e = rw e

  -- the three ways of a wrong size
  pub none-refused : length t ≡ 0 → refuses 1 0 ≡ checked t
  none-refused e = size-refused (or-true-left (eqb (length t) 0) _ (eq-eqb (length t) 0 e))

  pub over-refused : 1020 < length t → refuses 1 0 ≡ checked t
  over-refused l = size-refused (or_true_right (eqb (length t) 0) _ (or-true-left (ltb 1020 (length t)) _ (lt-ltb 1020 (length t) l)))

  pub part-refused : (length t % 4 ≡ 0 → ⊥) → refuses 1 0 ≡ checked t
  part-refused n = size-refused (or_true_right (eqb (length t) 0) _ (or_true_right (ltb 1020 (length t)) _ (ap not (ne_eqb _ 0 n))))

  no-marks : Marks t 0 (replicate 256 0)
  no-marks = record { long = length-replicate {A = ℕ} 256 0; right = λ c l. rw (get_or-replicate {A = ℕ} 256 c 0 0 l) }

  pub scan-start : (length t ≡ 0 → ⊥) → length t ≤ 1020 → length t % 4 ≡ 0 → Scanning t 0 (replicate 256 0)
  scan-start some small whole =
      let e : bad_size t ≡ false = rw (ne_eqb (length t) 0 some, le-ltb 1020 (length t) small, whole) in
      let all : count t - 0 ≡ count t = omega arith in
      record { within = omega arith; so_far = rw (all, e); marked = no-marks }

  pub scan-end : (k : ℕ) (marks : List ℕ) → Scanning t k marks → count t ≤ k → gives (count t) ≡ checked t
  scan-end k marks s l = let none : count t - k ≡ 0 = omega arith in rw none at s.so_far

-- at record k, where refusals 2 to 5 were answered by r
pub record Tested (t : List ℕ) (k : ℕ) (r : Result (Unit {0}) Refusal) : Type 0 where
  pub inside : k < count t
  pub rest : or_said r (or_else (bad_named t k) (refuses 6 k) (fault_from t (count t - suc k) (suc k))) ≡ checked t

pub scan-own : (t : List ℕ) (k : ℕ) (marks : List ℕ) (r : Result (Unit {0}) Refusal) → Scanning t k marks → k < count t
    → ((said : Said) → or_said r said ≡ own_fault_or t k said) → Tested t k r
scan-own t k marks r s l own =
    let one : count t - k ≡ suc (count t - suc k) = omega arith in
    record { inside = l; rest = own _ ∙ rw one at s.so_far }

module _ {t : List ℕ} {k : ℕ} {r : Result (Unit {0}) Refusal} (h : Tested t k r) where
  pub own-refused : (why : Refusal) → r ≡ Err why → refusal why ≡ checked t
  own-refused why e = rw e at h.rest

  own-free : (n : Unit {0}) → r ≡ Ok n → or_else (bad_named t k) (refuses 6 k) (fault_from t (count t - suc k) (suc k)) ≡ checked t
  own-free n e = rw e at h.rest

  pub named-refused : (n : Unit {0}) → r ≡ Ok n → (again : Bool) → again ≡ bad_named t k → again ≡ true → refuses 6 k ≡ checked t
  named-refused n e again f g = rw (sym f ∙ g) at (own-free n e)

  pub scan-next : (n : Unit {0}) → r ≡ Ok n → (again : Bool) → again ≡ bad_named t k → again ≡ false → (after : List ℕ) → Marks t (suc k) after
      → Scanning t (k + 1) after
  scan-next n e again f g after m =
      rw add-one (record { within = h.inside; so_far = rw (sym f ∙ g) at (own-free n e); marked = m })
