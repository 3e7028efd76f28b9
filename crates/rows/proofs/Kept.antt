-- What a row tells stays as it is where its header and its bytes stay.
-- Assumes nothing.
use Prim.Native.Nat.{ℕ, zero, suc, ◌+◌, ◌≤◌, ◌<◌}
use native.Mathlib.Nat.{eq-or-lt_of_le}
use native.Mathlib.Omega.{arith}
use mathlib.Core.Path.{◌≡◌, refl}
use mathlib.Core.Logic.{◌⊎◌, inl, inr}
use mathlib.Core.Bool.{Bool, true}
use mathlib.Core.List.{List}
use lib.Dec.{eqb}
use lib.ListN.{get_or}
use borrow.Author.Tests.{eq-eqb}
use Rattle.rows.specs.Layout.{head_at, row_at, longest_at, lowest_at, mark_at, in_row, has, tells}
use Rattle.rows.specs.Rows.{Own, Shaped, Grown}
use Rattle.rows.proofs.Places.{own-other, own-lower}

-- at the whole block's length the mark is not looked at
row-end : (d h l x y : ℕ) → in_row d h l x d ≡ in_row d h l y d
unfolding in_row
row-end d h l x y = let e : eqb d d ≡ true = eq-eqb d d refl in rw e

-- record k's bytes of block d are the same in w and w'
abbrev pub Same : (m d k : ℕ) (w w' : List ℕ) → Type 0
Same m d k w w' = (i : ℕ) → Own m d k i → get_or w' i 0 ≡ get_or w i 0

module _ (m d k : ℕ) (w w' : List ℕ) (p : Same m d k w w') where
  pub longest-kept : longest_at w' m d k ≡ longest_at w m d k
  unfolding longest_at
  longest-kept = p (head_at m d k) (inl refl)

  pub lowest-kept : 1 ≤ d → lowest_at w' m d k ≡ lowest_at w m d k
  unfolding lowest_at
  lowest-kept l = rw (longest-kept, p (row_at m d k) (inr (omega arith, omega arith)))

  pub mark-kept : (e : ℕ) → e < d → mark_at w' m d k e ≡ mark_at w m d k e
  unfolding mark_at
  mark-kept e l = p (row_at m d k + e) (inr (omega arith, omega arith))

  pub has_kept : (e : ℕ) → 1 ≤ e → e ≤ d → has m w' k d e ≡ has m w k d e
  unfolding has
  has_kept e l h = go (eq-or-lt_of_le h)
    where
      go : (e ≡ d) ⊎ (e < d) → has m w' k d e ≡ has m w k d e
      go (inl q) = rw (q, longest-kept, lowest-kept (omega arith)) (row-end d (longest_at w m d k) (lowest_at w m d k) _ _)
      go (inr q) = rw (longest-kept, lowest-kept (omega arith), mark-kept e q)

  pub shape-kept : 1 ≤ d → Shaped m d k w → Shaped m d k w'
  shape-kept l q =
      record {
        small = rw longest-kept q.small;
        ordered = rw (longest-kept, lowest-kept l) q.ordered;
        clean = λ z e x y. rw (mark-kept e y) (q.clean (rw (lowest-kept l) at z) e (rw longest-kept at x) y);
      }

  pub tells-kept : get_or w' (head_at m 0 k) 0 ≡ get_or w (head_at m 0 k) 0 → (e : ℕ) → e ≤ d → tells m w' k d e ≡ tells m w k d e
  unfolding tells
  tells-kept z zero l = rw z
  tells-kept z (suc e) l = has_kept (suc e) (omega arith) l

-- a row that grew leaves the others
module _ (m d k : ℕ) (f : ℕ → Bool) (w w' : List ℕ) (known : k < m) (g : Grown m d k f w w') where
  pub same-other : (j : ℕ) → j < m → ¬ (j ≡ k) → Same m d j w w'
  same-other j l n i o = g.kept i (own-other m d j k i l known n o)

  pub same-lower : (c j : ℕ) → c < d → j < m → Same m c j w w'
  same-lower c j l h i o = g.kept i (own-lower m c d j k i l h known o)

  -- among them the headers of block 0
  pub empty-kept : 1 ≤ d → (j : ℕ) → j < m → get_or w' (head_at m 0 j) 0 ≡ get_or w (head_at m 0 j) 0
  empty-kept l j h = same-lower 0 j (omega arith) h (head_at m 0 j) (inl refl)

  pub tells-lower : (c j : ℕ) → c < d → j < m → (e : ℕ) → e ≤ c → tells m w' j c e ≡ tells m w j c e
  tells-lower c j l h = tells-kept m c j w w' (same-lower c j l h) (empty-kept (omega arith) j h)

  pub tells-other : (j : ℕ) → 1 ≤ d → j < m → ¬ (j ≡ k) → (e : ℕ) → e ≤ d → tells m w' j d e ≡ tells m w j d e
  tells-other j l h n = tells-kept m d j w w' (same-other j h n) (empty-kept l j h)
