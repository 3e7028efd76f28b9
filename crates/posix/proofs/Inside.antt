-- Ranking ahead is put together from the parts of a value: by its length, or by one of its children (document 01, "Precedence of
-- readings").
-- Assumes nothing.
use Prim.Native.Nat.{ℕ, zero, suc, ◌<◌}
use mathlib.Core.Path.{◌≡◌, refl, sym, ◌∙◌, ap}
use mathlib.Core.List.{List, [], ◌∷◌, ◌++◌}
use native.Mathlib.Omega.{arith}
use lib.ListN.{length, length-append}
use Rattle.posix.specs.Values.{Val, void, byte, left, right, pair, none, more, flat}
use Rattle.posix.specs.Precedence.{size_at, Before, before_extension, before_lower, before_later, Ahead}
use Rattle.posix.proofs.Paths.{before_root, before-lowered}

-- the size at the root is the length of the line
pub root-size : (v : Val) → size_at v [] ≡ suc (length (flat v))
root-size void = refl
root-size (byte c) = refl
root-size (left v) = refl
root-size (right v) = refl
root-size (pair v w) = refl
root-size none = refl
root-size (more v w) = refl

-- the longer value ranks ahead
pub ahead-size : (v w : Val) → length (flat w) < length (flat v) → Ahead v w
ahead-size v w h =
    record { path = []; larger = rw (root-size v, root-size w) (omega arith); same_before = λ q b. absurd (before_root q b) }

-- values that agree at the root and before child i rank as their children i do
pub ahead-child :
    {x y v w : Val} (i : ℕ) → size_at x [] ≡ size_at y []
    → ((j : ℕ) (q : List ℕ) → j < i → size_at x (j ∷ q) ≡ size_at y (j ∷ q))
    → ((q : List ℕ) → size_at x (i ∷ q) ≡ size_at v q)
    → ((q : List ℕ) → size_at y (i ∷ q) ≡ size_at w q)
    → Ahead v w
    → Ahead x y
ahead-child {x} {y} i root lower f g a =
    record { path = i ∷ a.path; larger = rw (f, g) a.larger; same_before = earlier }
  where
    earlier : (q : List ℕ) → Before q (i ∷ a.path) → size_at x q ≡ size_at y q
    earlier [] before_extension = root
    earlier (j ∷ q) (before_lower h) = lower j q h
    earlier (j ∷ q) (before_later e b) = rw e (f q ∙ a.same_before q b ∙ sym (g q))

-- two values that agree at every path into child 0 agree at every path into a child below 1
child-zero :
    (x y : Val) → ((q : List ℕ) → size_at x (0 ∷ q) ≡ size_at y (0 ∷ q))
    → (j : ℕ) (q : List ℕ)
    → j < 1
    → size_at x (j ∷ q) ≡ size_at y (j ∷ q)
child-zero x y f zero q h = f q
child-zero x y f (suc j) q h = absurd (omega arith)

-- Left ranks as what it holds
pub ahead-left : {v w : Val} → length (flat v) ≡ length (flat w) → Ahead v w → Ahead (left v) (left w)
ahead-left e = ahead-child 0 (ap suc e) (λ j q h. absurd (omega arith)) (λ q. refl) (λ q. refl)

-- Right ranks as what it holds
pub ahead-right : {v w : Val} → length (flat v) ≡ length (flat w) → Ahead v w → Ahead (right v) (right w)
ahead-right {v} {w} e = ahead-child 1 (ap suc e) (child-zero (right v) (right w) (λ q. refl)) (λ q. refl) (λ q. refl)

-- Left ranks ahead of Right
pub ahead-left-right : {v w : Val} → length (flat v) ≡ length (flat w) → Ahead (left v) (right w)
ahead-left-right {v} {w} e = record { path = 0 ∷ []; larger = rw (root-size v) (omega arith); same_before = earlier }
  where
    earlier : (q : List ℕ) → Before q (0 ∷ []) → size_at (left v) q ≡ size_at (right w) q
    earlier [] before_extension = ap suc e
    earlier (j ∷ q) (before_lower h) = absurd (omega arith)
    earlier (j ∷ q) (before_later f b) = absurd (before_root q b)

-- Seq ranks as its first part
pub ahead-pair-first :
    {v1 v2 w1 w2 : Val} → length (flat (pair v1 v2)) ≡ length (flat (pair w1 w2)) → Ahead v1 w1 → Ahead (pair v1 v2) (pair w1 w2)
ahead-pair-first e = ahead-child 0 (ap suc e) (λ j q h. absurd (omega arith)) (λ q. refl) (λ q. refl)

-- Seq ranks as its second part where the first parts are the same
pub ahead-pair-second : {v v2 w2 : Val} → length (flat v2) ≡ length (flat w2) → Ahead v2 w2 → Ahead (pair v v2) (pair v w2)
ahead-pair-second {v} {v2} {w2} e =
    ahead-child 1 (simp length-append (omega arith)) (child-zero (pair v v2) (pair v w2) (λ q. refl)) (λ q. refl) (λ q. refl)

-- Stars ranks as its first iteration
pub ahead-more-first :
    {v1 v2 w1 w2 : Val} → length (flat (more v1 v2)) ≡ length (flat (more w1 w2)) → Ahead v1 w1 → Ahead (more v1 v2) (more w1 w2)
ahead-more-first e = ahead-child 0 (ap suc e) (λ j q h. absurd (omega arith)) (λ q. refl) (λ q. refl)

-- Stars ranks as its later iterations where the first iterations are the same
pub ahead-more-rest : {v w1 w2 : Val} → length (flat w1) ≡ length (flat w2) → Ahead w1 w2 → Ahead (more v w1) (more v w2)
ahead-more-rest {v} {w1} {w2} e a = shift a.path refl
  where
    shift : (p : List ℕ) → a.path ≡ p → Ahead (more v w1) (more v w2)
    shift [] f =
        let h : size_at w2 [] < size_at w1 [] = rw f at a.larger in
        absurd (omega (arith, root-size w1, root-size w2))
    shift (i ∷ p) f = record { path = suc i ∷ p; larger = rw f at a.larger; same_before = earlier }
      where
        earlier : (q : List ℕ) → Before q (suc i ∷ p) → size_at (more v w1) q ≡ size_at (more v w2) q
        earlier [] before_extension = simp length-append (omega arith)
        earlier (zero ∷ q) b = refl
        earlier (suc j ∷ q) b = a.same_before (j ∷ q) (rw f (before-lowered b))

-- what Seq and Stars share: a value of two parts ranks as its first part, and as its second where the first parts are the same
pub record TwoParts (f : Val → Val → Val) : Type 0 where
  pub by_first :
      {v1 v2 w1 w2 : Val} → length (flat v1 ++ flat v2) ≡ length (flat w1 ++ flat w2) → Ahead v1 w1 → Ahead (f v1 v2) (f w1 w2)
  pub by_second : {v v2 w2 : Val} → length (flat v2) ≡ length (flat w2) → Ahead v2 w2 → Ahead (f v v2) (f v w2)

-- Seq is a value of two parts
pub pair_parts : TwoParts pair
pair_parts = record { by_first = ahead-pair-first; by_second = ahead-pair-second }

-- Stars is a value of two parts, the first iteration and the later ones
pub more_parts : TwoParts more
more_parts = record { by_first = ahead-more-first; by_second = ahead-more-rest }
