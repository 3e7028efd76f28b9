-- Laws of the bytes of a row: the one law of bits, and what a store adds to what was written.
-- Assumes nothing.
use Prim.Native.Nat.{ℕ, ◌+◌, ◌≤◌, ◌<◌}
use native.Mathlib.Omega.{arith}
use mathlib.Core.Path.{◌≡◌, refl, ap, ◌∙◌}
use mathlib.Core.Logic.{⊎_elim}
use mathlib.Core.Bool.{Bool, true, false, not, ◌||◌}
use mathlib.Core.List.{List}
use lib.Dec.{eqb}
use lib.Bits.{bit_or, or_add_and, and_le_r, or_zero_l}
use lib.ListN.{length, get_or, set, length-set}
use lib.Seq.{get_or-set_same, get_or-set_other}
use borrow.Author.Tests.{eq-eqb, ne_eqb, eqb-true, eqb-false}
use Rattle.rows.specs.Layout.{is_set}
use Rattle.rows.specs.Rows.{row_set, Written, joined}
use Rattle.rows.proofs.Cuts.{below_or}

-- a byte is set where it is not 0
pub set-byte : (x : ℕ) → (x ≡ 0 → ⊥) → is_set x ≡ true
unfolding is_set
set-byte x n = rw (ne_eqb x 0 n)

pub clear-byte : (x : ℕ) → x ≡ 0 → is_set x ≡ false
unfolding is_set
clear-byte x e = rw (eq-eqb x 0 e)

-- the code's test of a byte
pub test-byte : (x : ℕ) → not (eqb x 0) ≡ is_set x
unfolding is_set
test-byte x = refl

-- `|` of two bytes is set where either is
pub set-or : (a b : ℕ) → is_set (bit_or a b) ≡ (is_set a || is_set b)
set-or a b = go (eqb a 0) refl
  where
    go : (z : Bool) → eqb a 0 ≡ z → is_set (bit_or a b) ≡ (is_set a || is_set b)
    go true h =
        let e : a ≡ 0 = eqb-true a 0 h in
        let l : is_set a ≡ false = clear-byte a e in
        let o : bit_or a b ≡ b = rw e (or_zero_l b) in
        rw (l, o)
    go false h =
        let n : a ≡ 0 → ⊥ = eqb-false a 0 h in
        let l : is_set a ≡ true = set-byte a n in
        let some-bit : bit_or a b ≡ 0 → ⊥ = λ (z : bit_or a b ≡ 0). n (omega (arith, or_add_and a b, and_le_r a b)) in
        rw l (set-byte (bit_or a b) some-bit)

module _ (f : ℕ → Bool) (to : ℕ) (w : List ℕ) where
  -- nothing is written yet
  pub written_none : Written f to 0 w w
  written_none = record { size = refl; before = λ i h. refl; inside = λ i h. absurd (omega arith); after = λ i h. refl }

  -- one byte more
  pub written-more : (i v : ℕ) (w' : List ℕ) → Written f to i w w' → to + i < length w → is_set v ≡ f i
      → Written f to (i + 1) w (set w' (to + i) v)
  written-more i v w' p l e =
      record {
        size = simp length-set p.size;
        before = λ j h. get_or-set_other w' (to + i) j v 0 (λ q. omega arith) ∙ p.before j h;
        inside = λ j h.
            ⊎_elim
            (λ (k : j < i). ap is_set (get_or-set_other w' (to + i) (to + j) v 0 (λ q. omega arith)) ∙ p.inside j k)
            (λ (k : i ≤ j).
            let same : j ≡ i = omega arith in
            rw same (ap is_set (get_or-set_same w' (to + i) v 0 (omega (arith, p.size))) ∙ e))
            (below_or j i);
        after = λ j h. get_or-set_other w' (to + i) j v 0 (λ q. omega arith) ∙ p.after j (omega arith);
      }

  -- one byte alone
  pub written_one : (n v : ℕ) → n ≡ 1 → to < length w → is_set v ≡ f 0 → Written f to n w (set w to v)
  written_one n v one l e =
      let z : to + 0 ≡ to = omega arith in
      rw one (rw z at (written-more 0 v w written_none (omega arith) e))

-- one byte more of a row that is joined into a later one
pub joined-more : (to from i : ℕ) (w w' : List ℕ) → Written (joined w to from) to i w w' → to + i < length w → from + i < to
    → Written (joined w to from) to (i + 1) w (set w' (to + i) (bit_or (get_or w' (to + i) 0) (get_or w' (from + i) 0)))
joined-more to from i w w' p l h =
    written-more (joined w to from) to w i (bit_or (get_or w' (to + i) 0) (get_or w' (from + i) 0)) w' p l
    (set-or (get_or w' (to + i) 0) (get_or w' (from + i) 0) ∙ rw (p.after (to + i) (omega arith), p.before (from + i) h))

-- one byte more that is not set
pub passed-more : (w : List ℕ) (start from i : ℕ) → ((j : ℕ) → from ≤ j → j < i → row_set w start j ≡ false) → get_or w (start + i) 0 ≡ 0
    → (j : ℕ) → from ≤ j → j < i + 1 → row_set w start j ≡ false
passed-more w start from i p e j l h =
    ⊎_elim
    (λ (k : j < i). p j l k)
    (λ (k : i ≤ j). let same : j ≡ i = omega arith in rw same (clear-byte (get_or w (start + i) 0) e))
    (below_or j i)

-- a row that is written twice holds what was written last
pub written_twice : {f g : ℕ → Bool} {to n : ℕ} {u v w : List ℕ} → Written f to n u v → Written g to n v w → Written g to n u w
written_twice p q =
    record {
      size = q.size ∙ p.size;
      before = λ i h. q.before i h ∙ p.before i h;
      inside = q.inside;
      after = λ i h. q.after i h ∙ p.after i h;
    }

-- a row that is said in another way
pub written_same : {f g : ℕ → Bool} {to n : ℕ} {u v : List ℕ} → Written f to n u v → ((i : ℕ) → i < n → f i ≡ g i) → Written g to n u v
written_same p h = record { size = p.size; before = p.before; inside = λ i l. p.inside i l ∙ h i l; after = p.after }

-- one byte more that is set
pub set_more : (w : List ℕ) (start from i : ℕ) → ((j : ℕ) → from ≤ j → j < i → row_set w start j ≡ true) → ¬ (get_or w (start + i) 0 ≡ 0)
    → (j : ℕ) → from ≤ j → j < i + 1 → row_set w start j ≡ true
set_more w start from i p n j l h =
    ⊎_elim
    (λ (k : j < i). p j l k)
    (λ (k : i ≤ j). let same : j ≡ i = omega arith in rw same (set-byte (get_or w (start + i) 0) n))
    (below_or j i)
