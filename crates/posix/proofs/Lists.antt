-- Laws on lines and on two cuts of one line, for the rules Seq and Star (document 01, "The relation").
-- Assumes nothing.
use Prim.Native.Nat.{ℕ, ◌≤◌, ◌<◌}
use native.Mathlib.Omega.{arith}
use mathlib.Core.Path.{◌≡◌, refl, sym, ap}
use mathlib.Core.List.{List, [], ◌∷◌, ◌++◌}
use lib.ListN.{length, length-append}

-- how the cut t1, t2 of a line stands to its cut s1, s2: its first part is shorter, the same, or longer by s3
pub data Split (s1 s2 t1 t2 : List ℕ) : Type 0 where
  shorter : length t1 < length s1 → Split s1 s2 t1 t2
  equal : t1 ≡ s1 → t2 ≡ s2 → Split s1 s2 t1 t2
  longer : (s3 : List ℕ) → ¬ (s3 ≡ []) → t1 ≡ s1 ++ s3 → s2 ≡ s3 ++ t2 → Split s1 s2 t1 t2

-- a line with a head is not empty
pub cons-not-nil : {c : ℕ} {s : List ℕ} → ¬ (c ∷ s ≡ [])
cons-not-nil e = let z : ◌≡◌ {A = ℕ} 0 1 = cc in omega arith

-- two cuts of one line stand to each other in one of the three ways
pub split-cases : (s1 s2 t1 t2 : List ℕ) → s1 ++ s2 ≡ t1 ++ t2 → Split s1 s2 t1 t2
split-cases [] s2 [] t2 e = equal refl (sym e)
split-cases [] s2 (d ∷ t1) t2 e = longer (d ∷ t1) cons-not-nil refl e
split-cases (c ∷ s1) s2 [] t2 e = shorter (omega arith)
split-cases (c ∷ s1) s2 (d ∷ t1) t2 e = behind (cc) (split-cases s1 s2 t1 t2 (cc))
  where
    behind : d ≡ c → Split s1 s2 t1 t2 → Split (c ∷ s1) s2 (d ∷ t1) t2
    behind h (shorter l) = shorter (omega arith)
    behind h (equal p q) = equal (cc) q
    behind h (longer s3 n p q) = longer s3 n (cc) q

-- a start of the empty line is empty
pub start-nil : (s t : List ℕ) → [] ≡ s ++ t → s ≡ []
start-nil [] t e = refl
start-nil (c ∷ s) t e = absurd (cons-not-nil (sym e))

-- the rest of a cut is no longer than the line
pub rest-length : (s t : List ℕ) {u : List ℕ} → u ≡ s ++ t → length t ≤ length u
rest-length s t e = omega (arith, simp length-append at (ap length e))

-- a line that is not empty has a byte
pub length-pos : (s : List ℕ) → ¬ (s ≡ []) → 1 ≤ length s
length-pos [] n = absurd (n refl)
length-pos (c ∷ s) n = omega arith
