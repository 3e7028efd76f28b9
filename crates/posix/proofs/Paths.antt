-- The order of paths is strict and total, and so ranking ahead is a strict order of values (document 01, "Precedence of readings").
-- Assumes nothing.
use Prim.Native.Nat.{ℕ, zero, suc, ◌<◌}
use mathlib.Core.Path.{◌≡◌, refl, sym, ◌∙◌}
use mathlib.Core.List.{List, [], ◌∷◌}
use native.Mathlib.Nat.{lt_trans, suc-le-suc_iff}
use native.Mathlib.Omega.{arith}
use Rattle.posix.specs.Values.{Val}
use Rattle.posix.specs.Precedence.{size_at, Before, before_extension, before_lower, before_later, Ahead}

-- how two numbers stand
pub data Numbers (a b : ℕ) : Type 0 where
  below : a < b → Numbers a b
  level : a ≡ b → Numbers a b
  above : b < a → Numbers a b

-- any two numbers stand in one of the three ways
pub numbers : (a b : ℕ) → Numbers a b
numbers zero zero = level refl
numbers zero (suc b) = below (omega arith)
numbers (suc a) zero = above (omega arith)
numbers (suc a) (suc b) = onward (numbers a b)
  where
    onward : Numbers a b → Numbers (suc a) (suc b)
    onward (below h) = below (omega arith)
    onward (level e) = level (cc)
    onward (above h) = above (omega arith)

-- the order of paths chains
pub before-transitive : {p q t : List ℕ} → Before p q → Before q t → Before p t
before-transitive before_extension (before_lower h) = before_extension
before-transitive before_extension (before_later e b) = before_extension
before-transitive (before_lower h) (before_lower k) = before_lower (lt_trans h k)
before-transitive (before_lower h) (before_later e b) = before_lower (rw e at h)
before-transitive (before_later e b) (before_lower h) = before_lower (rw (← e) at h)
before-transitive (before_later e b) (before_later f c) = before_later (e ∙ f) (before-transitive b c)

-- no path stands before itself
pub before-irreflexive : (p : List ℕ) → ¬ (Before p p)
before-irreflexive (i ∷ p) (before_lower h) = omega arith
before-irreflexive (i ∷ p) (before_later e b) = before-irreflexive p b
before-irreflexive [] x' = elim x' [ ]

-- no path stands before the root
pub before_root : (p : List ℕ) → ¬ (Before p [])
before_root [] b = before-irreflexive [] b
before_root (i ∷ p) b = before-irreflexive (i ∷ p) (before-transitive b before_extension)

-- the order of paths keeps when both first numbers fall by one
pub before-lowered : {i j : ℕ} {p q : List ℕ} → Before (suc i ∷ p) (suc j ∷ q) → Before (i ∷ p) (j ∷ q)
before-lowered (before_lower h) = before_lower (suc-le-suc_iff.0 h)
before-lowered {i} {j} (before_later e b) = before_later {i = i} {j = j} (cc) b

-- how two paths stand
pub data Paths (p q : List ℕ) : Type 0 where
  path_before : Before p q → Paths p q
  path_same : p ≡ q → Paths p q
  path_after : Before q p → Paths p q

-- any two paths stand in one of the three ways
pub paths : (p q : List ℕ) → Paths p q
paths [] [] = path_same refl
paths [] (j ∷ q) = path_before before_extension
paths (i ∷ p) [] = path_after before_extension
paths (i ∷ p) (j ∷ q) = heads (numbers i j) (paths p q)
  where
    tails : i ≡ j → Paths p q → Paths (i ∷ p) (j ∷ q)
    tails e (path_before b) = path_before (before_later e b)
    tails e (path_same f) = path_same (cc)
    tails e (path_after b) = path_after (before_later (sym e) b)

    heads : Numbers i j → Paths p q → Paths (i ∷ p) (j ∷ q)
    heads (below h) t = path_before (before_lower h)
    heads (level e) t = tails e t
    heads (above h) t = path_after (before_lower h)

-- no value ranks ahead of itself
pub ahead-irreflexive : (v : Val) → ¬ (Ahead v v)
ahead-irreflexive v a = let h : size_at v a.path < size_at v a.path = a.larger in omega arith

-- ranking ahead chains: at the earlier of the two paths
pub ahead-transitive : {v w u : Val} → Ahead v w → Ahead w u → Ahead v u
ahead-transitive {v} {w} {u} a b = meet (paths a.path b.path)
  where
    meet : Paths a.path b.path → Ahead v u
    meet (path_before h) =
        record {
          path = a.path;
          larger = rw (← b.same_before _ h) a.larger;
          same_before = λ q k. a.same_before q k ∙ b.same_before q (before-transitive k h);
        }
    meet (path_same e) =
        record {
          path = a.path;
          larger = lt_trans (rw e b.larger) a.larger;
          same_before = λ q k. a.same_before q k ∙ b.same_before q (rw e at k);
        }
    meet (path_after h) =
        record {
          path = b.path;
          larger = rw (a.same_before _ h) b.larger;
          same_before = λ q k. a.same_before q (before-transitive k h) ∙ b.same_before q k;
        }

-- two values do not rank ahead of one another
pub ahead-asymmetric : {v w : Val} → Ahead v w → ¬ (Ahead w v)
ahead-asymmetric {v} a b = ahead-irreflexive v (ahead-transitive a b)
