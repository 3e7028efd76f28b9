-- The layout of the work area: its size by document 01's formula, headers and rows that stand one behind the other, and bounds for the
-- machine. Above these laws `tri`, `head_at` and `row_at` stay shut and everything is linear.
-- Assumes nothing.
use Prim.Native.Nat.{ℕ, zero, suc, ◌+◌, ◌*◌, ◌/◌, ◌≤◌, ◌<◌}
use native.Mathlib.Nat.{mul-suc, suc-mul, mul_assoc, mul-add, mul-le-mul, mul-le-mul_left, mul-le-mul_right, le_refl, eq-or-lt_of_le}
use native.Mathlib.Numerals.{add-one}
use native.Mathlib.Decide.{le_ind}
use native.Mathlib.Omega.{arith}
use mathlib.Core.Path.{◌≡◌, refl, sym, ◌∙◌, ap}
use mathlib.Core.Logic.{◌⊎◌, inl, inr}
use mathlib.Core.List.{List}
use lib.ListN.{length}
use Rattle.rows.specs.Layout.{tri, area_size, head_at, row_at}
use Rattle.rows.specs.Rows.{Own, Inside}
use Rattle.rows.proofs.Cuts.{below_or}

tri-double : (d : ℕ) → tri d + tri d ≡ d * suc d
unfolding tri
tri-double zero = refl
tri-double (suc d) = omega (arith, tri-double d, suc-mul d (suc (suc d)), mul-suc d (suc d))

pub tri-formula : (d : ℕ) → tri d ≡ d * (d + 1) / 2
tri-formula d = rw add-one (omega (arith, tri-double d))

-- "m times (n+1) times (n+2) / 2"
pub area_size-formula : (m n : ℕ) → area_size m n ≡ m * (n + 1) * (n + 2) / 2
unfolding area_size
area_size-formula m n =
    let twice : m * (n + 1) * (n + 2) ≡ m * tri (suc n) + m * tri (suc n) =
    mul_assoc m (n + 1) (n + 2) ∙ ap (λ (x : ℕ). m * x) (product n) ∙ mul-add m (tri (suc n)) (tri (suc n)) in
    omega arith
  where
    product : (n : ℕ) → (n + 1) * (n + 2) ≡ tri (suc n) + tri (suc n)
    product n = let two : n + 2 ≡ suc (suc n) = omega arith in rw (add-one n, two) (sym (tri-double (suc n)))

tri-grows : (d n : ℕ) → d ≤ n → tri d ≤ tri n
unfolding tri
tri-grows d n l = le_ind (λ (x : ℕ). tri d ≤ tri x) (le_refl (tri d)) (λ m h i. omega arith) n l

-- the area of a shorter line is no larger
pub size-grows : (m d n : ℕ) → d ≤ n → area_size m d ≤ area_size m n
unfolding area_size
size-grows m d n l = mul-le-mul_left m (tri-grows (suc d) (suc n) (omega arith))

-- a row in the area of a line with at least as many bytes
pub row-held : {m d k n : ℕ} {w : List ℕ} → m ≤ 65535 → d ≤ 255 → k < m → d ≤ n → area_size m n ≤ length w → Inside m d k w
row-held {m} {d} {k} {n} few short l i held =
    record { few = few; short = short; known = l; room = omega (arith, size-grows m d n i) }

-- block 0 is its headers
pub first_head : (m k : ℕ) → head_at m 0 k ≡ k
unfolding head_at tri
first_head m k = omega arith

-- the headers of a block follow on one another
pub next-head : (m d k : ℕ) → head_at m d k ≡ head_at m d 0 + k
unfolding head_at
next-head m d k = omega arith

-- a header stands before the rows of its block
pub head-row : (m d j k : ℕ) → j < m → head_at m d j < row_at m d k
unfolding head_at row_at
head-row m d j k l = omega arith

-- a row ends before the rows of higher records in its block
pub lower-row : (m d j k : ℕ) → j < k → row_at m d j + d ≤ row_at m d k
unfolding row_at
lower-row m d j k l = let p : suc j * d ≤ k * d = mul-le-mul_right d l in omega (arith, suc-mul j d)

-- a row ends in the area of its block
pub row_inside : (m d k : ℕ) → k < m → row_at m d k + d ≤ area_size m d
unfolding row_at area_size tri
row_inside m d k l =
    let p : suc k * d ≤ m * d = mul-le-mul_right d l in
    omega (arith, suc-mul k d, mul-add m (tri d) (suc d), mul-suc m d)

-- the area of a block ends before a later one
pub lower_block : (m c d k : ℕ) → c < d → area_size m c ≤ head_at m d k
unfolding area_size head_at
lower_block m c d k l = let p : m * tri (suc c) ≤ m * tri d = mul-le-mul_left m (tri-grows (suc c) d l) in omega arith

pub head-inside : (m d k : ℕ) → k < m → head_at m d k < area_size m d
head-inside m d k l = omega (arith, head-row m d k k l, row_inside m d k l)

-- the bytes of a record in a block stand between its header and the end of its row
pub own-inside : (m d k i : ℕ) → k < m → Own m d k i → (head_at m d k ≤ i) × (i < area_size m d)
own-inside m d k i l (inl e) = omega (arith, head-inside m d k l)
own-inside m d k i l (inr p) = omega (arith, p.0, p.1, head-row m d k k l, row_inside m d k l)

-- those of another record, or in a lower block, are others
pub own-other : (m d j k i : ℕ) → j < m → k < m → ¬ (j ≡ k) → Own m d j i → ¬ (Own m d k i)
unfolding head_at
own-other m d j k i l h n (inl e) (inl f) = n (omega (arith, next-head m d j, next-head m d k))
own-other m d j k i l h n (inl e) (inr f) = omega (arith, f.0, head-row m d j k l)
own-other m d j k i l h n (inr e) (inl f) = omega (arith, e.0, head-row m d k j h)
own-other m d j k i l h n (inr e) (inr f) = go (below_or j k)
  where
    go : (j < k) ⊎ (k ≤ j) → ⊥
    go (inl x) = omega (arith, e.1, f.0, lower-row m d j k x)
    go (inr x) = n-lower (eq-or-lt_of_le x)
      where
        n-lower : (k ≡ j) ⊎ (k < j) → ⊥
        n-lower (inl y) = n (sym y)
        n-lower (inr y) = omega (arith, e.0, f.1, lower-row m d k j y)

pub own-lower : (m c d j k i : ℕ) → c < d → j < m → k < m → Own m c j i → ¬ (Own m d k i)
own-lower m c d j k i l h g o q =
    omega (arith, (own-inside m c j i h o).1, (own-inside m d k i g q).0, lower_block m c d k l)

-- the machine's numbers: nothing wraps up to 65,535 records and 255 bytes
product-bound : (a b x y : ℕ) → a ≤ x → b ≤ y → a * b ≤ x * y
product-bound a b x y l h = mul-le-mul l h

pub square-bound : (d : ℕ) → d ≤ 255 → d * (d + 1) ≤ 65280
square-bound d l = product-bound d (d + 1) 255 256 l (omega arith)

pub block-bound : (m d : ℕ) → m ≤ 65535 → d ≤ 255 → m * (d * (d + 1) / 2) ≤ 2139062400
block-bound m d l h = product-bound m (d * (d + 1) / 2) 65535 32640 l (omega (arith, square-bound d h))

pub offset-bound : (k d : ℕ) → k ≤ 65535 → d ≤ 255 → k * d ≤ 16711425
offset-bound k d l h = product-bound k d 65535 255 l h

pub size-bound : (m n : ℕ) → m ≤ 65535 → n ≤ 255 → m * (n + 1) * (n + 2) ≤ 4311678720
size-bound m n l h = product-bound (m * (n + 1)) (n + 2) 16776960 257 (product-bound m (n + 1) 65535 256 l (omega arith)) (omega arith)

pub head-formula : (m d k : ℕ) → m * (d * (d + 1) / 2) + k ≡ head_at m d k
unfolding head_at
head-formula m d k = rw (tri-formula d)

pub row-formula : (m d k : ℕ) → m * (d * (d + 1) / 2) + m + k * d ≡ row_at m d k
unfolding row_at
row-formula m d k = rw (tri-formula d)
