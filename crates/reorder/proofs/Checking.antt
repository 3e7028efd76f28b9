-- Check says the same of an exchanged table, refused tables included: each fault is there in both or in neither.
-- Assumes nothing.
use Prim.Native.Nat.{ℕ, zero, suc}
use native.Mathlib.Omega.{arith}
use mathlib.Core.Path.{◌≡◌, refl, sym, ◌∙◌, ap, ap₂}
use mathlib.Core.Bool.{Bool, true, false, not, ◌||◌, cond}
use mathlib.Core.List.{List}
use lib.Dec.{ltb, eqb}
use borrow.Author.Tests.{eqb-true, eqb-false, ne_eqb}
use Rattle.table.specs.Records.{count, kind_at, a_at, b_at}
use Rattle.table.specs.Faults.{bad_size, bad_kind, bad_unused, bad_bounds, bad_child, names, named_below, bad_named, Passes}
use Rattle.table.specs.Answers.{Said, gives, refuses}
use Rattle.table.specs.Checked.{or_else, fault_or, fault_from, checked}
use Rattle.table.proofs.Checking.{check-passes, check-gives}
use Rattle.reorder.proofs.Exchanging.{Exchanged}

-- the order of two tests, and of two numbers that are held against each other
or-order : (x y : Bool) → (x || y) ≡ (y || x)
or-order true true = refl
or-order true false = refl
or-order false true = refl
or-order false false = refl

or-between : (x y z : Bool) → (x || (y || z)) ≡ (y || (x || z))
or-between true true z = refl
or-between true false z = refl
or-between false true z = refl
or-between false false z = refl

eqb-order : (m n : ℕ) → eqb m n ≡ eqb n m
eqb-order m n = go (eqb m n) refl
  where
    go : (y : Bool) → eqb m n ≡ y → eqb m n ≡ eqb n m
    go true f = let i : m ≡ n = eqb-true m n f in rw i
    go false f = f ∙ sym (ne_eqb n m (λ (z : n ≡ m). eqb-false m n f (sym z)))

module _ {x : ℕ → Bool} {t u : List ℕ} (e : Exchanged x t u) where
  pub same_count : count u ≡ count t
  same_count = omega (arith, e.size)

  -- record j is as it was
  pub same-a : (j : ℕ) → x j ≡ false → a_at u j ≡ a_at t j
  same-a j f = e.a j ∙ ap (λ (y : Bool). cond y (b_at t j) (a_at t j)) f

  pub same-b : (j : ℕ) → x j ≡ false → b_at u j ≡ b_at t j
  same-b j f = e.b j ∙ ap (λ (y : Bool). cond y (a_at t j) (b_at t j)) f

  -- record j is an Or with its fields exchanged
  pub crossed-a : (j : ℕ) → x j ≡ true → a_at u j ≡ b_at t j
  crossed-a j f = e.a j ∙ ap (λ (y : Bool). cond y (b_at t j) (a_at t j)) f

  pub crossed-b : (j : ℕ) → x j ≡ true → b_at u j ≡ a_at t j
  crossed-b j f = e.b j ∙ ap (λ (y : Bool). cond y (a_at t j) (b_at t j)) f

  pub is-three : (j : ℕ) → x j ≡ true → kind_at t j ≡ 3
  is-three j f = eqb-true (kind_at t j) 3 (e.or_alone j f)

  same_kind : (j : ℕ) → bad_kind u j ≡ bad_kind t j
  same_kind j = rw (e.kind j)

  same-unused : (j : ℕ) (y : Bool) → x j ≡ y → bad_unused u j ≡ bad_unused t j
  same-unused j true f = rw (e.kind j, is-three j f)
  same-unused j false f = rw (e.kind j, same-a j f, same-b j f)

  same-bounds : (j : ℕ) (y : Bool) → x j ≡ y → bad_bounds u j ≡ bad_bounds t j
  same-bounds j true f = rw (e.kind j, is-three j f)
  same-bounds j false f = rw (e.kind j, same-a j f, same-b j f)

  same-child : (j : ℕ) (y : Bool) → x j ≡ y → bad_child u j ≡ bad_child t j
  same-child j true f =
      rw (e.kind j, is-three j f, crossed-a j f, crossed-b j f) (or-order (not (ltb (b_at t j) j)) (not (ltb (a_at t j) j)))
  same-child j false f = rw (e.kind j, same-a j f, same-b j f)

  same_names : (j c : ℕ) (y : Bool) → x j ≡ y → names u j c ≡ names t j c
  same_names j c true f = rw (e.kind j, is-three j f, crossed-a j f, crossed-b j f) (or-order (eqb (b_at t j) c) (eqb (a_at t j) c))
  same_names j c false f = rw (e.kind j, same-a j f, same-b j f)

  same-named : (j c : ℕ) → named_below u j c ≡ named_below t j c
  same-named zero c = refl
  same-named (suc j) c = ap₂ ◌||◌ (same_names j c (x j) refl) (same-named j c)

  same-twice : (j : ℕ) (y : Bool) → x j ≡ y → bad_named u j ≡ bad_named t j
  same-twice j true f =
      rw (e.kind j, is-three j f, crossed-a j f, crossed-b j f, same-named j (a_at t j), same-named j (b_at t j), eqb-order (b_at t j) (a_at t j))
      (or-between (named_below t j (b_at t j)) (named_below t j (a_at t j)) (eqb (a_at t j) (b_at t j)))
  same-twice j false f = rw (e.kind j, same-a j f, same-b j f, same-named j (a_at t j), same-named j (b_at t j))

  -- the first fault
  same-fault : (j : ℕ) (said : Said) → fault_or u j said ≡ fault_or t j said
  same-fault j said =
      ap₂ (λ (y : Bool) (z : Said). or_else y (refuses 2 j) z) (same_kind j)
      (ap₂ (λ (y : Bool) (z : Said). or_else y (refuses 3 j) z) (same-unused j (x j) refl)
      (ap₂ (λ (y : Bool) (z : Said). or_else y (refuses 4 j) z) (same-bounds j (x j) refl)
      (ap₂ (λ (y : Bool) (z : Said). or_else y (refuses 5 j) z) (same-child j (x j) refl)
      (ap (λ (y : Bool). or_else y (refuses 6 j) said) (same-twice j (x j) refl)))))

  same-faults : (n j : ℕ) → fault_from u n j ≡ fault_from t n j
  same-faults zero j = ap gives same_count
  same-faults (suc n) j = same-fault j (fault_from u n (suc j)) ∙ ap (fault_or t j) (same-faults n (suc j))

  pub same-checked : checked u ≡ checked t
  same-checked =
      ap₂ (λ (y : Bool) (z : Said). or_else y (refuses 1 0) z) same_size (ap (λ (n : ℕ). fault_from u n zero) same_count ∙ same-faults (count t) zero)
    where
      same_size : bad_size u ≡ bad_size t
      same_size = rw e.size

  pub same-passes : Passes t → Passes u
  same-passes p = (check-gives u (count t) (same-checked ∙ check-passes t p)).0
