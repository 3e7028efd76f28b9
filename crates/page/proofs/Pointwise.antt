-- Two lists compared element by element.
-- Assumes nothing.
use Prim.Native.Nat.{ℕ, suc, ◌+◌, ◌≤◌}
use native.Mathlib.Numerals.{add-one}
use mathlib.Core.Path.{◌≡◌, refl, sym, ◌∙◌, ap, ap₂}
use mathlib.Core.Bool.{Bool, true, false, ◌&&◌, true≢false}
use mathlib.Core.List.{List, [], ◌∷◌}
use mathlib.Core.Logic.{◌↔◌}
use lib.ListN.{length, drop, drop_of_length-le}
use Rattle.posix.proofs.Spells.{each}
use Rattle.page.specs.Entries.{pointwise}

module _ {A : Type 0} (p : A → A → Bool) where
  -- by a test that only an element itself passes, they are the same list
  pub pointwise-exactly :
      ((x y : A) → (p x y ≡ true) ↔ (x ≡ y)) → (xs ys : List A) → (pointwise p xs ys ≡ true) ↔ (xs ≡ ys)
  pointwise-exactly h xs ys = (same xs ys, λ e. ap (pointwise p xs) (sym e) ∙ self xs)
    where
      same : (xs ys : List A) → pointwise p xs ys ≡ true → xs ≡ ys
      same [] [] e = refl
      same [] (y ∷ ys) e = absurd (true≢false (sym e))
      same (x ∷ xs) [] e = absurd (true≢false (sym e))
      same (x ∷ xs) (y ∷ ys) e =
          let b : (p x y ≡ true) × (pointwise p xs ys ≡ true) = each (p x y) (pointwise p xs ys) e in
          ap₂ ◌∷◌ ((h x y).0 b.0) (same xs ys b.1)

      self : (xs : List A) → pointwise p xs xs ≡ true
      self [] = refl
      self (x ∷ xs) = rw ((h x x).1 refl) (self xs)

  -- lists of other lengths
  pub other-lengths : (xs ys : List A) → ¬ (length xs ≡ length ys) → pointwise p xs ys ≡ false
  other-lengths [] [] n = absurd (n refl)
  other-lengths [] (y ∷ ys) n = refl
  other-lengths (x ∷ xs) [] n = refl
  other-lengths (x ∷ xs) (y ∷ ys) n = go (p x y) (other-lengths xs ys (λ e. n (ap suc e)))
    where
      go : (b : Bool) → pointwise p xs ys ≡ false → (b && pointwise p xs ys) ≡ false
      go true e = e
      go false e = refl

  -- the first i elements pass, so that the others decide
  pub record UpTo (xs ys : List A) (i : ℕ) : Type 0 where
    pub rest : pointwise p xs ys ≡ pointwise p (drop i xs) (drop i ys)

  pub none_yet : (xs ys : List A) → UpTo xs ys 0
  none_yet xs ys = record { rest = refl }

  -- the next two, and the end
  module _ {xs ys : List A} {i : ℕ} (so_far : UpTo xs ys i) where
    module _ {x y : A} (at_x : drop i xs ≡ x ∷ drop (suc i) xs) (at_y : drop i ys ≡ y ∷ drop (suc i) ys) where
      next : pointwise p xs ys ≡ p x y && pointwise p (drop (suc i) xs) (drop (suc i) ys)
      next = so_far.rest ∙ ap₂ (pointwise p) at_x at_y

      pub next-differs : p x y ≡ false → pointwise p xs ys ≡ false
      next-differs e = next ∙ ap (λ (b : Bool). b && pointwise p (drop (suc i) xs) (drop (suc i) ys)) e

      pub next-passes : p x y ≡ true → UpTo xs ys (i + 1)
      next-passes e =
          record {
            rest =
                next
                ∙ ap (λ (b : Bool). b && pointwise p (drop (suc i) xs) (drop (suc i) ys)) e
                ∙ ap (λ (j : ℕ). pointwise p (drop j xs) (drop j ys)) (sym (add-one i));
          }

    pub all_pass : length xs ≤ i → length ys ≤ i → pointwise p xs ys ≡ true
    all_pass l m = so_far.rest ∙ ap₂ (pointwise p) (drop_of_length-le xs l) (drop_of_length-le ys m)
