-- What a table that passes gives: its size, its kinds, its unused fields, its letters' bounds and its children.
-- Assumes nothing.
use Prim.Native.Nat.{ℕ, zero, suc, ◌*◌, ◌/◌, ◌%◌, ◌≤◌, ◌<◌}
use native.Mathlib.Omega.{arith}
use native.Mathlib.Nat.{eq-or-lt_of_le}
use mathlib.Core.Path.{◌≡◌, refl, sym, ◌∙◌}
use mathlib.Core.Logic.{◌⊎◌, inl, inr, ⊎_elim, ⊎_map}
use mathlib.Core.Bool.{Bool, true, false, not, ◌&&◌, ◌||◌, true≢false}
use mathlib.Core.List.{List}
use lib.Dec.{ltb, eqb}
use lib.ListN.{length}
use borrow.Author.Tests.{leb-false, ltb-true, ltb-false, eqb-true, eqb-false, not-false}
use Rattle.table.specs.Records.{count, kind_at, a_at, b_at, is_range, is_other, is_letter}
use Rattle.table.specs.Letters.{LetterKind}
use Rattle.table.specs.Faults.{names_a, names_b, unused_a, unused_b, names, named_below, bad_named, Passes}

-- a test of two parts is false, or true, by its parts
pub or-false-left : (x y : Bool) → (x || y) ≡ false → x ≡ false
or-false-left true y e = e
or-false-left false y e = refl

pub or-false-right : (x y : Bool) → (x || y) ≡ false → y ≡ false
or-false-right true y e = absurd (true≢false e)
or-false-right false y e = e

pub or-true : (x y : Bool) → (x || y) ≡ true → (x ≡ true) ⊎ (y ≡ true)
or-true true y e = inl refl
or-true false y e = inr e

pub or-true-left : (x y : Bool) → x ≡ true → (x || y) ≡ true
or-true-left x y e = rw e

pub or_true_right : (x y : Bool) → y ≡ true → (x || y) ≡ true
or_true_right true y e = refl
or_true_right false y e = e

-- the size
size_of : (n : ℕ) → (eqb n 0 || (ltb 1020 n || not (eqb (n % 4) 0))) ≡ false → (1 ≤ n / 4) × (n / 4 ≤ 255) × (n ≡ 4 * (n / 4))
size_of n e =
    let rest = or-false-right (eqb n 0) _ e in
    let some : (n ≡ 0 → ⊥) = eqb-false n 0 (or-false-left (eqb n 0) _ e) in
    let small : n ≤ 1020 = ltb-false 1020 n (or-false-left (ltb 1020 n) _ rest) in
    let whole : n % 4 ≡ 0 = eqb-true (n % 4) 0 (not-false _ (or-false-right (ltb 1020 n) _ rest)) in
    omega arith

pub count-bound : (t : List ℕ) → Passes t → (1 ≤ count t) × (count t ≤ 255) × (length t ≡ 4 * count t)
count-bound t p = size_of (length t) p.free_1

-- no field fails its test: a field that is tested does not fail
both-free-a : (x y z w : Bool) → ((x && y) || (z && w)) ≡ false → x ≡ true → y ≡ false
both-free-a x y z w e f = rw f at (or-false-left (x && y) _ e)

both-free-b : (x y z w : Bool) → ((x && y) || (z && w)) ≡ false → z ≡ true → w ≡ false
both-free-b x y z w e f = rw f at (or-false-right (x && y) _ e)

-- the kinds of a letter, and the fields that are children's numbers, by kind
module _ (t : List ℕ) (k : ℕ) where
  pub letter-kinds : is_letter t k ≡ true → LetterKind (kind_at t k)
  letter-kinds e = ⊎_map (eqb-true (kind_at t k) 2) (eqb-true (kind_at t k) 6) (or-true (is_range t k) (is_other t k) e)

  pub letter_at : {kind : ℕ} → kind ≡ kind_at t k → LetterKind kind → is_letter t k ≡ true
  letter_at {kind} e = ⊎_elim (λ (z : kind ≡ 2). rw (sym e ∙ z)) (λ (z : kind ≡ 6). rw (sym e ∙ z))

  pub two-names : (kind_at t k ≡ 3) ⊎ (kind_at t k ≡ 4) → (names_a t k ≡ true) × (names_b t k ≡ true)
  two-names = ⊎_elim (λ (e : kind_at t k ≡ 3). rw e (refl, refl)) (λ (e : kind_at t k ≡ 4). rw e (refl, refl))

  pub star-names : kind_at t k ≡ 5 → (names_a t k ≡ true) × (names_b t k ≡ false)
  star-names e = rw e (refl, refl)

pub and_both : (x y : Bool) → (x && y) ≡ true → (x ≡ true) × (y ≡ true)
and_both true y e = (refl, e)
and_both false y e = absurd (true≢false (sym e))

-- a record that names c tests it for an earlier name
fresh-by : (x z : Bool) (a b c : ℕ) (N : ℕ → Bool) → ((x && N a) || (z && (N b || eqb a b))) ≡ false
    → ((x && eqb a c) || (z && eqb b c)) ≡ true → N c ≡ false
fresh-by x z a b c N e f =
    ⊎_elim
    (λ (g : (x && eqb a c) ≡ true).
    let h = and_both x _ g in
    rw (eqb-true a c h.1) at (both-free-a x (N a) z _ e h.0))
    (λ (g : (z && eqb b c) ≡ true).
    let h = and_both z _ g in
    rw (eqb-true b c h.1) at (or-false-left (N b) _ (both-free-b x (N a) z _ e h.0)))
    (or-true (x && eqb a c) _ f)

-- a child of record k is not named below k
pub fresh : (t : List ℕ) (k c : ℕ) → bad_named t k ≡ false → names t k c ≡ true → named_below t k c ≡ false
fresh t k c = fresh-by (names_a t k) (names_b t k) (a_at t k) (b_at t k) c (named_below t k)

-- a child of record j is named below each higher k
pub named-later : (t : List ℕ) (j k c : ℕ) → j < k → names t j c ≡ true → named_below t k c ≡ true
named-later t j zero c l e = absurd (omega arith)
named-later t j (suc k) c l e =
    ⊎_elim
    (λ (q : suc j ≡ suc k). or-true-left (names t k c) _ (let i : j ≡ k = omega arith in rw i at e))
    (λ (q : suc j < suc k). or_true_right (names t k c) _ (named-later t j k c (omega arith) e))
    (eq-or-lt_of_le l)

-- the kinds: without a child, with two, with one
pub kinds : (n : ℕ) → n < 7 → ((n ≡ 0) ⊎ (n ≡ 1) ⊎ LetterKind n) ⊎ ((n ≡ 3) ⊎ (n ≡ 4)) ⊎ (n ≡ 5)
kinds zero l = inl (inl refl)
kinds (suc zero) l = inl (inr (inl refl))
kinds (suc (suc zero)) l = inl (inr (inr (inl refl)))
kinds (suc (suc (suc zero))) l = inr (inl (inl refl))
kinds (suc (suc (suc (suc zero)))) l = inr (inl (inr refl))
kinds (suc (suc (suc (suc (suc zero))))) l = inr (inr refl)
kinds (suc (suc (suc (suc (suc (suc zero)))))) l = inl (inr (inr (inr refl)))
kinds (suc (suc (suc (suc (suc (suc (suc n))))))) l = absurd (omega arith)

module _ (t : List ℕ) (p : Passes t) (k : ℕ) (l : k < count t) where
  pub kind-small : kind_at t k < 7
  kind-small = leb-false 7 (kind_at t k) (p.free_2 k l)

  -- a record of none of the other kinds is a Nothing
  pub kind-nothing : {kind : ℕ} → kind ≡ kind_at t k → ¬ (kind ≡ 1) → ¬ (LetterKind kind) → ¬ (kind ≡ 3) → ¬ (kind ≡ 4) → ¬ (kind ≡ 5)
      → kind_at t k ≡ 0
  kind-nothing {kind} e n1 n2 n3 n4 n5 =
      sym e
      ∙ ⊎_elim
      (⊎_elim (λ z. z) (⊎_elim (λ z. absurd (n1 z)) (λ z. absurd (n2 z))))
      (⊎_elim (⊎_elim (λ z. absurd (n3 z)) (λ z. absurd (n4 z))) (λ z. absurd (n5 z)))
      (kinds kind (omega (arith, kind-small)))

  -- the fields that the kind does not use
  pub unused-a-zero : unused_a t k ≡ true → a_at t k ≡ 0
  unused-a-zero e = eqb-true _ _ (not-false _ (both-free-a (unused_a t k) _ (unused_b t k) _ (p.free_3 k l) e))

  pub unused-b-zero : unused_b t k ≡ true → b_at t k ≡ 0
  unused-b-zero e = eqb-true _ _ (not-false _ (both-free-b (unused_a t k) _ (unused_b t k) _ (p.free_3 k l) e))

  pub bounds-ordered : is_letter t k ≡ true → a_at t k ≤ b_at t k
  bounds-ordered e = ltb-false (b_at t k) (a_at t k) (rw e at (p.free_4 k l))

  -- children stand below their parent
  child-a-below : names_a t k ≡ true → a_at t k < k
  child-a-below e = ltb-true _ _ (not-false _ (both-free-a (names_a t k) _ (names_b t k) _ (p.free_5 k l) e))

  pub a-below : (kind_at t k ≡ 3) ⊎ (kind_at t k ≡ 4) → a_at t k < k
  a-below e = child-a-below (two-names t k e).0

  pub b-below : (kind_at t k ≡ 3) ⊎ (kind_at t k ≡ 4) → b_at t k < k
  b-below e = ltb-true _ _ (not-false _ (both-free-b (names_a t k) _ (names_b t k) _ (p.free_5 k l) (two-names t k e).1))

  pub star-a-below : kind_at t k ≡ 5 → a_at t k < k
  star-a-below e = child-a-below (star-names t k e).0

  -- the two children of one record differ
  pub children-differ : (kind_at t k ≡ 3) ⊎ (kind_at t k ≡ 4) → ¬ (a_at t k ≡ b_at t k)
  children-differ e =
      eqb-false _ _
      (or-false-right (named_below t k (b_at t k)) _
      (both-free-b (names_a t k) _ (names_b t k) _ (p.free_6 k l) (two-names t k e).1))

-- no record is a child of two records
pub child-once : (t : List ℕ) → Passes t → (j k c : ℕ) → j < k → k < count t → names t j c ≡ true → names t k c ≡ false
child-once t p j k c l h e = go (names t k c) refl
  where
    go : (x : Bool) → names t k c ≡ x → x ≡ false
    go true f = absurd (true≢false (sym (named-later t j k c l e) ∙ fresh t k c (p.free_6 k h) f))
    go false f = refl
