-- Check gives m exactly where the table passes, and what it refuses by is the first fault.
-- Assumes nothing.
use Prim.Native.Nat.{ℕ, zero, suc, ◌+◌, ◌≤◌, ◌<◌}
use native.Mathlib.Omega.{arith}
use native.Mathlib.Nat.{eq-or-lt_of_le}
use mathlib.Core.Path.{◌≡◌, refl, sym, ◌∙◌}
use mathlib.Core.Logic.{⊎_elim}
use mathlib.Core.Bool.{Bool, true, false, true≢false}
use mathlib.Core.List.{List}
use Rattle.table.specs.Records.{count}
use Rattle.table.specs.Faults.{bad_size, fault, Passes}
use Rattle.table.specs.Answers.{Said, gives, refuses}
use Rattle.table.specs.Checked.{or_else, fault_or, fault_from, checked, RefusedFor, of_size, of_record}

-- what was said at record k, where s is said if it has no fault
data Picked (t : List ℕ) (k : ℕ) (s : Said) : Said → Type 0 where
  none : ((i : ℕ) → fault i t k ≡ false) → Picked t k s s
  one : (i : ℕ) → fault i t k ≡ true → ((j : ℕ) → j < i → fault j t k ≡ false) → Picked t k s (refuses i k)

module _ (t : List ℕ) (k : ℕ) where
  free-below-2 : (i : ℕ) → i < 2 → fault i t k ≡ false
  free-below-2 zero l = refl
  free-below-2 (suc zero) l = refl
  free-below-2 (suc (suc i)) l = absurd (omega arith)

  free_more : (n : ℕ) → ((i : ℕ) → i < n → fault i t k ≡ false) → fault n t k ≡ false → (i : ℕ) → i < suc n → fault i t k ≡ false
  free_more n f e i l =
      ⊎_elim
      (λ (q : suc i ≡ suc n). let r : i ≡ n = omega arith in rw r e)
      (λ (q : suc i < suc n). f i (omega arith))
      (eq-or-lt_of_le l)

  -- no number above 6 is a record's fault
  free_all : ((i : ℕ) → i < 7 → fault i t k ≡ false) → (i : ℕ) → fault i t k ≡ false
  free_all f zero = refl
  free_all f (suc zero) = refl
  free_all f (suc (suc zero)) = f 2 (omega arith)
  free_all f (suc (suc (suc zero))) = f 3 (omega arith)
  free_all f (suc (suc (suc (suc zero)))) = f 4 (omega arith)
  free_all f (suc (suc (suc (suc (suc zero))))) = f 5 (omega arith)
  free_all f (suc (suc (suc (suc (suc (suc zero)))))) = f 6 (omega arith)
  free_all f (suc (suc (suc (suc (suc (suc (suc i))))))) = refl

  -- one test more
  pick_next : (n : ℕ) (s rest : Said) → ((i : ℕ) → i < n → fault i t k ≡ false)
      → (((i : ℕ) → i < suc n → fault i t k ≡ false) → Picked t k s rest) → Picked t k s (or_else (fault n t k) (refuses n k) rest)
  pick_next n s rest f next = go (fault n t k) refl
    where
      go : (b : Bool) → fault n t k ≡ b → Picked t k s (or_else b (refuses n k) rest)
      go true e = one n e f
      go false e = next (free_more n f e)

  picked : (s : Said) → Picked t k s (fault_or t k s)
  picked s =
      pick_next 2 s _ free-below-2 λ f2.
      pick_next 3 s _ f2 λ f3.
      pick_next 4 s _ f3 λ f4.
      pick_next 5 s _ f4 λ f5.
      pick_next 6 s _ f5 λ f6.
      none (free_all f6)

-- what was said of n records from record k upward
data Scanned (t : List ℕ) (n k : ℕ) : Said → Type 0 where
  clean : ((j i : ℕ) → k ≤ j → j < k + n → fault i t j ≡ false) → Scanned t n k (gives (count t))
  stopped : (i d : ℕ) → k ≤ d → d < k + n → fault i t d ≡ true → ((j i' : ℕ) → k ≤ j → j < d → fault i' t j ≡ false)
      → ((i' : ℕ) → i' < i → fault i' t d ≡ false) → Scanned t n k (refuses i d)

-- record k's faults first, then those from suc k on
after_free : (t : List ℕ) (k e : ℕ) → ((i : ℕ) → fault i t k ≡ false) → ((j i : ℕ) → suc k ≤ j → j < e → fault i t j ≡ false)
    → (j i : ℕ) → k ≤ j → j < e → fault i t j ≡ false
after_free t k e f g j i l m =
    ⊎_elim
    (λ (q : k ≡ j). let r : j ≡ k = omega arith in rw r (f i))
    (λ (q : k < j). g j i q m)
    (eq-or-lt_of_le l)

scan-join : (t : List ℕ) (n k : ℕ) (s x : Said) → Scanned t n (suc k) s → Picked t k s x → Scanned t (suc n) k x
scan-join t n k s x h (one i e f) = stopped i k (omega arith) (omega arith) e (λ j i' l m. absurd (omega arith)) f
scan-join t n k s x h (none f) = go s h
  where
    go : (y : Said) → Scanned t n (suc k) y → Scanned t (suc n) k y
    go y (clean g) = clean (after_free t k (k + suc n) f λ j i l m. g j i l (omega arith))
    go y (stopped i d l m e g b) = stopped i d (omega arith) (omega arith) e (after_free t k d f g) b

scanned : (t : List ℕ) (n k : ℕ) → Scanned t n k (fault_from t n k)
scanned t zero k = clean λ j i l m. absurd (omega arith)
scanned t (suc n) k = scan-join t n k (fault_from t n (suc k)) _ (scanned t n (suc k)) (picked t k (fault_from t n (suc k)))

-- Check's answer, with what it says of the table
data Outcome (t : List ℕ) : Said → Type 0 where
  passed : Passes t → Outcome t (gives (count t))
  refused : (n d : ℕ) → RefusedFor t n d → Outcome t (refuses n d)

scan-outcome : (t : List ℕ) (x : Said) → bad_size t ≡ false → Scanned t (count t) zero x → Outcome t x
scan-outcome t x e (clean f) =
    passed
    (record {
      free_1 = e;
      free_2 = λ k l. f k 2 (omega arith) (omega arith);
      free_3 = λ k l. f k 3 (omega arith) (omega arith);
      free_4 = λ k l. f k 4 (omega arith) (omega arith);
      free_5 = λ k l. f k 5 (omega arith) (omega arith);
      free_6 = λ k l. f k 6 (omega arith) (omega arith);
    })
scan-outcome t x e (stopped i d l m h f g) =
    refused i d
    (of_record
    (record { size_right = e; inside = omega arith; found = h; lower_free = λ j i' q. f j i' (omega arith) q; earlier_free = g }))

outcome : (t : List ℕ) → Outcome t (checked t)
outcome t = go (bad_size t) refl
  where
    go : (b : Bool) → bad_size t ≡ b → Outcome t (or_else b (refuses 1 0) (fault_from t (count t) zero))
    go true e = refused 1 0 (of_size refl refl e)
    go false e = scan-outcome t _ e (scanned t (count t) zero)

-- a table that passes has no fault
passes-free : (t : List ℕ) → Passes t → (k : ℕ) → k < count t → (i : ℕ) → fault i t k ≡ false
passes-free t p k l =
    free_all t k
    (free_more t k 6
    (free_more t k 5
    (free_more t k 4 (free_more t k 3 (free_more t k 2 (free-below-2 t k) (p.free_2 k l)) (p.free_3 k l)) (p.free_4 k l))
    (p.free_5 k l))
    (p.free_6 k l))

not-refused : (t : List ℕ) (n d : ℕ) → Passes t → RefusedFor t n d → ⊥
not-refused t n d p (of_size e f g) = true≢false (sym g ∙ p.free_1)
not-refused t n d p (of_record f) = true≢false (sym f.found ∙ passes-free t p d f.inside n)

outcome-passes : (t : List ℕ) (x : Said) → Outcome t x → Passes t → x ≡ gives (count t)
outcome-passes t x (passed q) p = refl
outcome-passes t x (refused n d r) p = absurd (not-refused t n d p r)

outcome-gives : (t : List ℕ) (x : Said) (m : ℕ) → Outcome t x → x ≡ gives m → Passes t × (m ≡ count t)
outcome-gives t x m (passed q) e = (q, cc)
outcome-gives t x m (refused n d r) e = absurd (let z : ◌≡◌ {A = ℕ} 0 1 = cc in omega arith)

outcome-refuses : (t : List ℕ) (x : Said) (n d : ℕ) → Outcome t x → x ≡ refuses n d → RefusedFor t n d
outcome-refuses t x n d (passed q) e = absurd (let z : ◌≡◌ {A = ℕ} 0 1 = cc in omega arith)
outcome-refuses t x n d (refused i c r) e = let q : i ≡ n = cc in let s : c ≡ d = cc in rw (q, s) at r

pub check-passes : (t : List ℕ) → Passes t → checked t ≡ gives (count t)
check-passes t = outcome-passes t (checked t) (outcome t)

pub check-gives : (t : List ℕ) (m : ℕ) → checked t ≡ gives m → Passes t × (m ≡ count t)
check-gives t m = outcome-gives t (checked t) m (outcome t)

pub check-refuses : (t : List ℕ) (n d : ℕ) → checked t ≡ refuses n d → RefusedFor t n d
check-refuses t n d = outcome-refuses t (checked t) n d (outcome t)
