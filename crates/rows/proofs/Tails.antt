-- Laws of the lengths that a row which is written out has up to the last one.
-- Assumes nothing.
use Prim.Native.Nat.{ℕ, ◌+◌, ◌-◌, ◌≤◌, ◌<◌, min}
use native.Mathlib.Nat.{eq-or-lt_of_le}
use native.Mathlib.Omega.{arith}
use mathlib.Core.Path.{◌≡◌, ◌∙◌}
use mathlib.Core.Logic.{⊎_elim}
use mathlib.Core.Bool.{true, false}
use mathlib.Core.List.{List}
use lib.ListN.{get_or}
use borrow.Author.Tests.{le-leb}
use Rattle.rows.specs.Layout.{row_at, is_set, longest_at, lowest_at, mark_at, has}
use Rattle.rows.specs.Rows.{Growing, Tail, WrittenOut}
use Rattle.rows.proofs.Cuts.{below_or}
use Rattle.rows.proofs.Bytes.{set-byte, clear-byte}
use Rattle.rows.proofs.Growing.{has-whole, has-mark}

-- a row that is written out and has the whole block
module _ (m d k : ℕ) (w : List ℕ) (g : Growing m d k w) (h : ℕ) (o : WrittenOut m d k h w) (full : d ≤ h) where
  unset : is_set (lowest_at w m d k) ≡ false
  unset = clear-byte (lowest_at w m d k) o.no_run

  whole : has m w k d d ≡ true
  whole = has-whole w m d k unset ∙ le-leb d (longest_at w m d k) (omega (arith, o.long))

  -- it has each length from the lesser of t and d on
  pub tail-whole : (t r : ℕ) → Tail m w k d t → r ≡ min t d → Tail m w k d r
  tail-whole t r p q e a b =
      ⊎_elim
      (λ (x : e ≡ d). rw x whole)
      (λ (x : e < d). p e (omega arith) b)
      (eq-or-lt_of_le b)

  -- one length more, whose byte is set
  pub tail_more : (at r : ℕ) → at ≡ row_at m d k → 1 < r → r ≤ d → Tail m w k d r → ¬ (get_or w (at + (r - 1)) 0 ≡ 0) → Tail m w k d (r - 1)
  unfolding mark_at
  tail_more at r place l s p n e a b =
      ⊎_elim
      (λ (x : e < r).
      let same : e ≡ r - 1 = omega arith in
      let set : is_set (get_or w (at + (r - 1)) 0) ≡ true = set-byte (get_or w (at + (r - 1)) 0) n in
      let mark : is_set (get_or w (row_at m d k + (r - 1)) 0) ≡ true = rw place at set in
      rw same (has-mark w m d k (r - 1) unset (omega arith) (omega (arith, o.long)) ∙ mark))
      (λ (x : r ≤ e). p e x b)
      (below_or e r)
