-- Seeds of a block: the machine's arithmetic, the headers one by one, and the lows of a list of rows.
-- Assumes nothing.
use Prim.Native.Nat.{ℕ, ◌+◌, ◌-◌, ◌*◌, ◌%◌, ◌^◌, ◌≤◌, ◌<◌}
use native.Mathlib.Omega.{arith}
use mathlib.Core.Path.{◌≡◌, refl, ◌∙◌}
use mathlib.Core.Logic.{◌⊎◌, inl, inr, ⊎_elim}
use mathlib.Core.Bool.{Bool, true, false, cond}
use mathlib.Core.List.{List}
use lib.Bits.{bit_and, and_zero_l, and_zero_r, and_comm, and_mask, and_le_l}
use lib.Dec.{leb, eqb}
use lib.ListN.{length, get_or, take, set, length-set}
use lib.Seq.{get_or-take, length-take-le, get_or-set_same, get_or-set_other}
use borrow.Author.Tests.{le-leb, lt-leb, eqb-true, eqb-false}
use Rattle.rows.specs.Layout.{area_size, head_at, row_at, longest_at}
use Rattle.rows.proofs.Places.{next-head, lower-row, row_inside, head-inside, lower_block}
use Rattle.rows.proofs.Cuts.{below_or}
use Rattle.plans.specs.declared.Bounds.{Bounds}
use Rattle.plans.specs.Plans.{in_either, in_bounds, repeat_at}
use Rattle.area.specs.Filling.{head_behind, Seeded, LowsSet}

-- `&` with the two values of a mask
pub mask-whole : (x : ℕ) → x < 256 → bit_and x 255 ≡ x
mask-whole x l = and_mask x 8 ∙ small
  where
    small : x % 2 ^ 8 ≡ x
    small = omega arith

pub seed-right : (b : Bool) {inside : ℕ} (x : ℕ) → inside ≡ cond b 1 0 → x < 256 → bit_and (inside * 255) x ≡ cond b x 0
seed-right true x e l = rw e (and_comm 255 x ∙ mask-whole x l)
seed-right false x e l = rw e (and_zero_l x)

-- the header behind, as the code masks it
pub behind-masked : (m d k : ℕ) (w : List ℕ) {mask : ℕ} → mask ≡ cond (leb d 1) 0 255 → (1 < d → longest_at w m (d - 1) k ≤ 254)
    → bit_and (longest_at w m (d - 1) k) mask ≡ head_behind w m d k
behind-masked m d k w e h = rw e (go (below_or 1 d))
  where
    go : (1 < d) ⊎ (d ≤ 1) → bit_and (longest_at w m (d - 1) k) (cond (leb d 1) 0 255) ≡ head_behind w m d k
    go (inl l) = rw (lt-leb d 1 l) (mask-whole (longest_at w m (d - 1) k) (omega (arith, h l)))
    go (inr l) = rw (le-leb d 1 l) (and_zero_r (longest_at w m (d - 1) k))

pub behind-small : (m d k x : ℕ) (w : List ℕ) → (1 < d → longest_at w m (d - 1) k ≤ 254) → bit_and (head_behind w m d k) x ≤ 254
behind-small m d k x w h = go (below_or 1 d)
  where
    go : (1 < d) ⊎ (d ≤ 1) → bit_and (head_behind w m d k) x ≤ 254
    go (inl l) = rw (lt-leb d 1 l) (omega (arith, and_le_l (longest_at w m (d - 1) k) x, h l))
    go (inr l) = rw (le-leb d 1 l) (omega (arith, and_zero_l x))

-- the headers of a block, one by one
module _ (bounds : Bounds) (c m d : ℕ) where
  -- the blocks of fewer bytes stay
  pub seeded-behind : (n k at : ℕ) (w w' : List ℕ) → Seeded bounds c m d n w w' → 1 ≤ d → k < m → at ≡ head_at m (d - 1) 0
      → get_or w' (at + k) 0 ≡ longest_at w m (d - 1) k
  unfolding longest_at
  seeded-behind n k at w w' p one l e =
      let place : at + k ≡ head_at m (d - 1) k = omega (arith, next-head m (d - 1) k) in
      rw place (p.kept (head_at m (d - 1) k) (inl (omega (arith, head-inside m (d - 1) k l, lower_block m (d - 1) d 0 (omega arith)))))

  pub seeded-more : (n v at : ℕ) (w w' : List ℕ) → Seeded bounds c m d n w w' → at ≡ head_at m d 0 → at + n < length w
      → v ≡ cond (in_bounds bounds n c) (bit_and (head_behind w m d n) (repeat_at bounds n) + 1) 0
      → Seeded bounds c m d (n + 1) w (set w' (at + n) v)
  unfolding longest_at
  seeded-more n v at w w' p e l h =
      record {
        size = simp length-set p.size;
        heads = λ k x.
            ⊎_elim
            (λ (y : k < n).
            get_or-set_other w' (at + n) (head_at m d k) v 0 (λ q. omega (arith, next-head m d k)) ∙ p.heads k y)
            (λ (y : n ≤ k).
            let same : k ≡ n = omega arith in
            let place : head_at m d k ≡ at + n = omega (arith, next-head m d k) in
            rw (place, same) (get_or-set_same w' (at + n) v 0 (omega (arith, p.size)) ∙ h))
            (below_or k n);
        kept = λ i x. other i x;
      }
    where
      other : (i : ℕ) → (i < head_at m d 0) ⊎ (head_at m d (n + 1) ≤ i) → get_or (set w' (at + n) v) i 0 ≡ get_or w i 0
      other i (inl x) = get_or-set_other w' (at + n) i v 0 (λ q. omega arith) ∙ p.kept i (inl x)
      other i (inr x) =
          let y : head_at m d n ≤ i = omega (arith, next-head m d n, next-head m d (n + 1)) in
          get_or-set_other w' (at + n) i v 0 (λ q. omega (arith, next-head m d (n + 1))) ∙ p.kept i (inr y)

  pub head-room : (n l : ℕ) → n < m → area_size m d ≤ l → head_at m d 0 + n < l
  head-room n l x y = omega (arith, next-head m d n, head-inside m d n x)

-- the lows of a list of rows
module _ (m d : ℕ) (runs : List ℕ) where
  pub lows-more : (n at : ℕ) (w w' : List ℕ) → LowsSet m d runs n w w' → at ≡ row_at m d (get_or runs n 0) → at < length w
      → LowsSet m d runs (n + 1) w (set w' at 1)
  lows-more n at w w' p e l =
      record {
        size = simp length-set p.size;
        lows = λ i x.
            ⊎_elim
            (λ (y : i < n). again (row_at m d (get_or runs i 0)) (p.lows i y))
            (λ (y : n ≤ i). let same : i ≡ n = omega arith in rw (same, ← e) (get_or-set_same w' at 1 0 (omega (arith, p.size))))
            (below_or i n);
        kept = λ i x.
            get_or-set_other w' at i 1 0 (λ q. omega (arith, first-row)) ∙ p.kept i x;
      }
    where
      first-row : row_at m d 0 ≤ row_at m d (get_or runs n 0)
      first-row = go (below_or 0 (get_or runs n 0))
        where
          go : (0 < get_or runs n 0) ⊎ (get_or runs n 0 ≤ 0) → row_at m d 0 ≤ row_at m d (get_or runs n 0)
          go (inl x) = omega (arith, lower-row m d 0 (get_or runs n 0) x)
          go (inr x) = let z : get_or runs n 0 ≡ 0 = omega arith in rw z (omega arith)

      again : (i : ℕ) → get_or w' i 0 ≡ 1 → get_or (set w' at 1) i 0 ≡ 1
      again i x = go (eqb i at) refl
        where
          go : (b : Bool) → eqb i at ≡ b → get_or (set w' at 1) i 0 ≡ 1
          go true z = let same : i ≡ at = eqb-true i at z in rw same (get_or-set_same w' at 1 0 (omega (arith, p.size)))
          go false z = get_or-set_other w' at i 1 0 (eqb-false i at z) ∙ x

  pub row_room : (k l : ℕ) → k < m → 1 ≤ d → area_size m d ≤ l → row_at m d k < l
  row_room k l x one y = omega (arith, row_inside m d k x)

-- the front of a list, as the code lends it
pub lows-front : (m d : ℕ) (runs : List ℕ) (n : ℕ) (w w' : List ℕ) → n ≤ length runs
    → LowsSet m d (take n runs) (length (take n runs)) w w' → LowsSet m d runs n w w'
lows-front m d runs n w w' l p =
    record {
      size = p.size;
      lows = λ i x. rw (get_or-take n runs i 0 x) at (p.lows i (omega (arith, length-take-le n runs l)));
      kept = p.kept;
    }

-- a header as the loop computes it
module _ (bounds : Bounds) (c m d n : ℕ) (w w' : List ℕ) (p : Seeded bounds c m d n w w') (one : 1 ≤ d) (within : n < m)
    {before mask : ℕ} (at : before ≡ head_at m (d - 1) 0) (masked : mask ≡ cond (leb d 1) 0 255) (low : 1 < d → longest_at w m (d - 1) n ≤ 254) where
  header-masked : bit_and (get_or w' (before + n) 0) mask ≡ head_behind w m d n
  header-masked =
      let e : get_or w' (before + n) 0 ≡ longest_at w m (d - 1) n = seeded-behind bounds c m d n n before w w' p one within at in
      rw e (behind-masked m d n w masked low)

  pub header-small : (x : ℕ) → bit_and (bit_and (get_or w' (before + n) 0) mask) x ≤ 254
  header-small x = rw header-masked (behind-small m d n x w low)

  pub header-right : {v : ℕ}
      → v
      ≡ cond
      (in_either (get_or bounds.low n 0) (get_or bounds.high n 0) (get_or bounds.low2 n 0) (get_or bounds.high2 n 0) c)
      (bit_and (bit_and (get_or w' (before + n) 0) mask) (get_or bounds.repeat n 0) + 1)
      0
      → v ≡ cond (in_bounds bounds n c) (bit_and (head_behind w m d n) (repeat_at bounds n) + 1) 0
  unfolding in_bounds repeat_at
  header-right e = e ∙ rw header-masked

pub behind-room : (m d n l : ℕ) → n < m → 1 ≤ d → area_size m d ≤ l → head_at m (d - 1) 0 + n < l
behind-room m d n l x one y =
    omega (arith, next-head m (d - 1) n, head-inside m (d - 1) n x, lower_block m (d - 1) d 0 (omega arith), head-inside m d n x, next-head m d n)
