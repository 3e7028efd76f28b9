-- The expression of record k of a table that passes has at most k + 1 nodes, because no record is a child twice.
-- Each record that no record below k names weighs as many nodes as its expression has, the others weigh nothing, and the records below k
-- weigh at most k together: record k weighs one more than its children, which it names.
-- Assumes nothing.
use Prim.Native.Nat.{ℕ, zero, suc, ◌+◌, ◌≤◌, ◌<◌}
use native.Mathlib.Omega.{arith}
use native.Mathlib.Nat.{eq-or-lt_of_le}
use mathlib.Core.Path.{◌≡◌, refl, ap}
use mathlib.Core.Logic.{◌⊎◌, ⊎_elim}
use mathlib.Core.Bool.{Bool, true, false, ◌&&◌, ◌||◌, cond}
use mathlib.Core.List.{List}
use lib.Dec.{eqb}
use borrow.Author.Tests.{eq-eqb}
use Rattle.posix.specs.Nodes.{nodes}
use Rattle.table.specs.Records.{count, kind_at, a_at, b_at}
use Rattle.table.specs.Faults.{names_a, names_b, names, named_below, Passes}
use Rattle.table.specs.Expression.{exp_of}
use Rattle.table.specs.Letters.{LetterKind}
use Rattle.table.proofs.Laws.{exp-nothing, exp-empty, exp-letter, exp-or, exp-seq, exp-star}
use Rattle.table.proofs.Passing.{kinds, letter_at, kind-small, a-below, b-below, star-a-below, children-differ, fresh, or-true-left, or_true_right, two-names, star-names}

-- f 0 + .. + f (n - 1)
sum : (ℕ → ℕ) → ℕ → ℕ
sum f zero = 0
sum f (suc n) = sum f n + f n

-- g is f made smaller; where g is 0 the sum falls by all of f
module _ (f g : ℕ → ℕ) (less : (j : ℕ) → g j ≤ f j) where
  sum-le : (n : ℕ) → sum g n ≤ sum f n
  unfolding sum
  sum-le zero = omega arith
  sum-le (suc n) = omega (arith, sum-le n, less n)

  sum_one : (a n : ℕ) → g a ≡ 0 → a < n → sum g n + f a ≤ sum f n
  unfolding sum
  sum_one a zero z l = absurd (omega arith)
  sum_one a (suc n) z l =
      ⊎_elim
      (λ (e : suc a ≡ suc n). let i : n ≡ a = omega arith in rw i (omega (arith, sum-le a)))
      (λ (m : suc a < suc n). omega (arith, sum_one a n z (omega arith), less n))
      (eq-or-lt_of_le l)

  -- the same at two places, of which the second is the last
  sum-last : (a b n : ℕ) → g a ≡ 0 → g b ≡ 0 → a < n → b ≡ n → sum g (suc n) + (f a + f b) ≤ sum f (suc n)
  unfolding sum
  sum-last a b n z w l e = omega (arith, sum_one a n z l, ap f e, ap g e)

  sum-two : (a b n : ℕ) → g a ≡ 0 → g b ≡ 0 → ¬ (a ≡ b) → a < n → b < n → sum g n + (f a + f b) ≤ sum f n
  unfolding sum
  sum-two a b zero z w d l m = absurd (omega arith)
  sum-two a b (suc n) z w d l m =
      ⊎_elim
      (λ (ea : suc a ≡ suc n). omega (arith, sum-last b a n w z (omega arith) (omega arith)))
      (λ (la : suc a < suc n).
      ⊎_elim
      (λ (eb : suc b ≡ suc n). sum-last a b n z w (omega arith) (omega arith))
      (λ (lb : suc b < suc n). omega (arith, sum-two a b n z w d (omega arith) (omega arith), less n))
      (eq-or-lt_of_le m))
      (eq-or-lt_of_le l)

-- what record j weighs where records below k name children
weight : List ℕ → ℕ → ℕ → ℕ
weight t k j = cond (named_below t k j) 0 (nodes (exp_of t j))

weight-fresh : (t : List ℕ) (k j : ℕ) → named_below t k j ≡ false → weight t k j ≡ nodes (exp_of t j)
unfolding weight
weight-fresh t k j e = rw e

weight-named : (t : List ℕ) (k j : ℕ) → named_below t k j ≡ true → weight t k j ≡ 0
unfolding weight
weight-named t k j e = rw e

cond-le : (x : Bool) (n : ℕ) → cond x 0 n ≤ n
cond-le true n = omega arith
cond-le false n = omega arith

weight-le : (t : List ℕ) (k j : ℕ) → weight t k j ≤ nodes (exp_of t j)
unfolding weight
weight-le t k j = cond-le (named_below t k j) _

cond-less : (x y : Bool) (n : ℕ) → cond (x || y) 0 n ≤ cond y 0 n
cond-less true y n = omega arith
cond-less false y n = omega arith

weight-less : (t : List ℕ) (k j : ℕ) → weight t (suc k) j ≤ weight t k j
unfolding weight
weight-less t k j = cond-less (names t k j) (named_below t k j) _

module _ (t : List ℕ) (p : Passes t) (k : ℕ) (l : k < count t) where
  names-a : names_a t k ≡ true → names t k (a_at t k) ≡ true
  names-a e = rw (e, eq-eqb (a_at t k) _ refl)

  names-b : names_b t k ≡ true → names t k (b_at t k) ≡ true
  names-b e = or_true_right (names_a t k && eqb (a_at t k) (b_at t k)) _ (rw (e, eq-eqb (b_at t k) _ refl))

  -- a child weighs its nodes before record k, and nothing after it
  child-before : (c : ℕ) → names t k c ≡ true → weight t k c ≡ nodes (exp_of t c)
  child-before c e = weight-fresh t k c (fresh t k c (p.free_6 k l) e)

  child-after : (c : ℕ) → names t k c ≡ true → weight t (suc k) c ≡ 0
  child-after c e = weight-named t (suc k) c (or-true-left (names t k c) _ e)

  -- record k's expression takes the place of its children's
  two-nodes : (kind_at t k ≡ 3) ⊎ (kind_at t k ≡ 4) → nodes (exp_of t k) ≡ suc (nodes (exp_of t (a_at t k)) + nodes (exp_of t (b_at t k)))
  two-nodes e =
      ⊎_elim
      (λ (i : kind_at t k ≡ 3). ap nodes (exp-or t k i (a-below t p k l e) (b-below t p k l e)))
      (λ (i : kind_at t k ≡ 4). ap nodes (exp-seq t k i (a-below t p k l e) (b-below t p k l e)))
      e

  step-two : (kind_at t k ≡ 3) ⊎ (kind_at t k ≡ 4) → nodes (exp_of t k) + sum (weight t (suc k)) k ≤ suc (sum (weight t k) k)
  step-two e =
      omega (
        arith,
        two-nodes e,
        child-before (a_at t k) a-named,
        child-before (b_at t k) b-named,
        sum-two (weight t k) (weight t (suc k)) (weight-less t k) (a_at t k) (b_at t k) k (child-after _ a-named) (child-after _ b-named)
            (children-differ t p k l e)
            (a-below t p k l e)
            (b-below t p k l e),
      )
    where
      a-named : names t k (a_at t k) ≡ true
      a-named = names-a (two-names t k e).0

      b-named : names t k (b_at t k) ≡ true
      b-named = names-b (two-names t k e).1

  step-star : kind_at t k ≡ 5 → nodes (exp_of t k) + sum (weight t (suc k)) k ≤ suc (sum (weight t k) k)
  step-star e =
      omega (
        arith,
        ap nodes (exp-star t k e (star-a-below t p k l e)),
        child-before (a_at t k) (names-a (star-names t k e).0),
        sum_one (weight t k) (weight t (suc k)) (weight-less t k) (a_at t k) k (child-after _ (names-a (star-names t k e).0)) (star-a-below t p k l e),
      )

  step-plain : nodes (exp_of t k) ≡ 1 → nodes (exp_of t k) + sum (weight t (suc k)) k ≤ suc (sum (weight t k) k)
  step-plain e = omega (arith, sum-le (weight t k) (weight t (suc k)) (weight-less t k) k)

  step : nodes (exp_of t k) + sum (weight t (suc k)) k ≤ suc (sum (weight t k) k)
  step =
      ⊎_elim
      (⊎_elim
      (λ (e : kind_at t k ≡ 0). step-plain (ap nodes (exp-nothing t k e)))
      (⊎_elim
      (λ (e : kind_at t k ≡ 1). step-plain (ap nodes (exp-empty t k e)))
      (λ (e : LetterKind (kind_at t k)). step-plain (ap nodes (exp-letter t k (letter_at t k refl e))))))
      (⊎_elim step-two step-star)
      (kinds (kind_at t k) (kind-small t p k l))

-- the records below k weigh at most k
weighs : (t : List ℕ) → Passes t → (k : ℕ) → k ≤ count t → sum (weight t k) k ≤ k
unfolding sum
weighs t p zero l = omega arith
weighs t p (suc k) l = omega (arith, step t p k l, weight-le t (suc k) k, weighs t p k (omega arith))

pub nodes-bound : (t : List ℕ) → Passes t → (k : ℕ) → k < count t → nodes (exp_of t k) ≤ k + 1
nodes-bound t p k l = omega (arith, step t p k l, weighs t p k (omega arith))
