-- The first of two for an even number and the second for an odd one.
-- Assumes nothing.
use Prim.Native.Nat.{ℕ, suc, ◌%◌}
use native.Mathlib.Omega.{arith}
use mathlib.Core.Path.{◌≡◌, refl, sym, ◌∙◌}
use mathlib.Core.Bool.{Bool, true, false, cond}
use mathlib.Core.List.{List}
use borrow.Author.Tests.{eqb-true, eqb-false, eq-eqb, ne_eqb}
use lib.Dec.{eqb}
use lib.ListN.{length}
use Rattle.page.specs.Pages.{by_parity}

pub parity-even : {A : Type 0} (i : ℕ) (a b : A) → i % 2 ≡ 0 → by_parity i a b ≡ a
parity-even i a b e = rw (eq-eqb (i % 2) 0 e)

pub parity-odd : {A : Type 0} (i : ℕ) (a b : A) → (i % 2 ≡ 0 → ⊥) → by_parity i a b ≡ b
parity-odd i a b n = rw (ne_eqb (i % 2) 0 n)

-- the next number takes the other one
pub parity-next : {A : Type 0} (i : ℕ) (a b : A) → by_parity (suc i) a b ≡ by_parity i b a
parity-next i a b = go (eqb (i % 2) 0) refl
  where
    go : (x : Bool) → eqb (i % 2) 0 ≡ x → by_parity (suc i) a b ≡ by_parity i b a
    go true f =
        let e : i % 2 ≡ 0 = eqb-true (i % 2) 0 f in
        parity-odd (suc i) a b (λ g. omega arith) ∙ sym (parity-even i b a e)
    go false f =
        let n : i % 2 ≡ 0 → ⊥ = eqb-false (i % 2) 0 f in
        let e : suc i % 2 ≡ 0 = omega arith in
        parity-even (suc i) a b e ∙ sym (parity-odd i b a n)

pub parity-length : (i : ℕ) (xs ys : List ℕ) → length (by_parity i xs ys) ≡ by_parity i (length xs) (length ys)
parity-length i xs ys = go (eqb (i % 2) 0)
  where
    go : (x : Bool) → length (cond x xs ys) ≡ cond x (length xs) (length ys)
    go true = refl
    go false = refl
