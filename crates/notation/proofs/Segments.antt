-- Parts of a table whose records are free of refusals 2 to 6 among themselves: one record more, and two parts side by side.
-- Assumes nothing.
use Prim.Native.Nat.{ℕ, zero, suc, ◌≤◌, ◌<◌}
use native.Mathlib.Omega.{arith}
use native.Mathlib.Decide.{dec_lt}
use mathlib.Core.Path.{◌≡◌, refl, sym}
use mathlib.Core.Logic.{◌⊎◌, ⊎_elim, ⊎_map}
use mathlib.Core.Bool.{Bool, true, false, not, ◌&&◌, ◌||◌, true≢false}
use mathlib.Core.List.{List}
use lib.Dec.{ltb, eqb}
use borrow.Author.Tests.{ltb-true, eqb-true, eq-eqb, not-false}
use Rattle.table.specs.Records.{count, a_at, b_at}
use Rattle.table.specs.Faults.{bad_size, bad_kind, bad_unused, bad_bounds, bad_child, names_a, names_b, names, named_below, Passes}
use Rattle.table.proofs.Passing.{or-true, or_true_right, or-false-left, or-false-right}

-- record j is free of refusals 2 to 5, and its two fields name no child twice
abbrev pub Own : List ℕ → ℕ → Type 0
Own T j =
    (bad_kind T j ≡ false)
    × (bad_unused T j ≡ false)
    × (bad_bounds T j ≡ false)
    × (bad_child T j ≡ false)
    × ((names_b T j && eqb (a_at T j) (b_at T j)) ≡ false)

-- c is not below lo, and no record from lo up to hi names it
abbrev pub Fresh : List ℕ → ℕ → ℕ → ℕ → Type 0
Fresh T lo hi c = (lo ≤ c) × ((i : ℕ) → lo ≤ i → i < hi → ¬ (names T i c ≡ true))

-- each record from lo up to hi is so, and its children are fresh where it stands
abbrev pub Segment : List ℕ → ℕ → ℕ → Type 0
Segment T lo hi = (j : ℕ) → lo ≤ j → j < hi → Own T j × ((c : ℕ) → names T j c ≡ true → Fresh T lo j c)

-- a child is the number in a field that names one
and-true : (x : Bool) (a c : ℕ) → (x && eqb a c) ≡ true → (x ≡ true) × (a ≡ c)
and-true true a c e = (refl, eqb-true a c e)
and-true false a c e = absurd (true≢false (sym e))

abbrev pub ChildField : List ℕ → ℕ → ℕ → Type 0
ChildField T j c = ((names_a T j ≡ true) × (a_at T j ≡ c)) ⊎ ((names_b T j ≡ true) × (b_at T j ≡ c))

pub child-field : (T : List ℕ) (j c : ℕ) → names T j c ≡ true → ChildField T j c
child-field T j c e = ⊎_map (and-true (names_a T j) _ c) (and-true (names_b T j) _ c) (or-true (names_a T j && eqb (a_at T j) c) _ e)

-- and stands below its parent
lower : (x : Bool) (a c j : ℕ) → (x && not (ltb a j)) ≡ false → (x ≡ true) × (a ≡ c) → c < j
lower x a c j e f = rw f.1 at (ltb-true a j (not-false _ (rw f.0 at e)))

child-below : (T : List ℕ) (j c : ℕ) → bad_child T j ≡ false → names T j c ≡ true → c < j
child-below T j c e n =
    ⊎_elim
    (lower (names_a T j) (a_at T j) c j (or-false-left (names_a T j && not (ltb (a_at T j) j)) _ e))
    (lower (names_b T j) (b_at T j) c j (or-false-right (names_a T j && not (ltb (a_at T j) j)) _ e))
    (child-field T j c n)

module _ (T : List ℕ) (lo hi : ℕ) where
  pub no-records : hi ≤ lo → Segment T lo hi
  no-records h j l m = absurd (omega arith)

  -- the last record of a segment is not named in it
  pub last-fresh : (c : ℕ) → Segment T lo hi → lo ≤ c → hi ≤ suc c → Fresh T lo hi c
  last-fresh c s l h = (l, λ i k m n. absurd (omega (arith, child-below T i c (s i k m).0.3 n)))

  -- one record more
  pub one_more : (end : ℕ) → end ≡ suc hi → Segment T lo hi → Own T hi → ((c : ℕ) → names T hi c ≡ true → Fresh T lo hi c) → Segment T lo end
  one_more end e s o f j l m = go (dec_lt j hi)
    where
      go : Dec (j < hi) → Own T j × ((c : ℕ) → names T j c ≡ true → Fresh T lo j c)
      go (yes h) = s j l h
      go (no h) = let i : j ≡ hi = omega arith in rw i (o, f)

-- two segments side by side: what is fresh in the first and below the second is fresh in both
module _ (T : List ℕ) (lo mid hi : ℕ) (s : Segment T mid hi) where
  pub fresh-beside : (c : ℕ) → c < mid → Fresh T lo mid c → Fresh T lo hi c
  fresh-beside c l f = (f.0, λ i k m. go i k m (dec_lt i mid))
    where
      go : (i : ℕ) → lo ≤ i → i < hi → Dec (i < mid) → ¬ (names T i c ≡ true)
      go i k m (yes h) n = f.1 i k h n
      go i k m (no h) n = omega (arith, ((s i (omega arith) m).1 c n).0)

  pub beside : lo ≤ mid → Segment T lo mid → Segment T lo hi
  beside l r j k m = go (dec_lt j mid)
    where
      earlier : (c : ℕ) → mid ≤ j → names T j c ≡ true → (i : ℕ) → lo ≤ i → i < j → Dec (i < mid) → ¬ (names T i c ≡ true)
      earlier c q n i a b (yes h) x = omega (arith, child-below T i c (r i a h).0.3 x, ((s j q m).1 c n).0)
      earlier c q n i a b (no h) x = ((s j q m).1 c n).1 i (omega arith) b x

      go : Dec (j < mid) → Own T j × ((c : ℕ) → names T j c ≡ true → Fresh T lo j c)
      go (yes h) = r j k h
      go (no h) =
          let q : mid ≤ j = omega arith in
          ((s j q m).0, λ c n. (omega (arith, ((s j q m).1 c n).0), λ i a b. earlier c q n i a b (dec_lt i mid)))

-- a record that is named below k is named by a record
named_by : (T : List ℕ) (k c : ℕ) → named_below T k c ≡ true → (i : ℕ) × (i < k) × (names T i c ≡ true)
named_by T zero c e = absurd (true≢false (sym e))
named_by T (suc k) c e =
    ⊎_elim
    (λ (f : names T k c ≡ true). (k, omega arith, f))
    (λ (f : named_below T k c ≡ true). let r = named_by T k c f in (r.0, omega (arith, r.1), r.2))
    (or-true (names T k c) _ e)

not_named : (T : List ℕ) (k c : ℕ) → Fresh T 0 k c → named_below T k c ≡ false
not_named T k c f = go (named_below T k c) refl
  where
    go : (b : Bool) → named_below T k c ≡ b → b ≡ false
    go true e = let r = named_by T k c e in absurd (f.1 r.0 (omega arith) r.1 r.2)
    go false e = refl

-- fresh children are not named before
named-free : (x z : Bool) (a b : ℕ) (N : ℕ → Bool) → ((c : ℕ) → ((x && eqb a c) || (z && eqb b c)) ≡ true → N c ≡ false)
    → (z && eqb a b) ≡ false → ((x && N a) || (z && (N b || eqb a b))) ≡ false
named-free true true a b N f e = rw (f a (rw (eq-eqb a a refl)), f b (or_true_right (eqb a b) _ (eq-eqb b b refl))) e
named-free true false a b N f e = rw (f a (rw (eq-eqb a a refl)))
named-free false true a b N f e = rw (f b (eq-eqb b b refl)) e
named-free false false a b N f e = refl

-- a table of the right size that is one segment passes
pub segment-passes : (T : List ℕ) → bad_size T ≡ false → Segment T 0 (count T) → Passes T
segment-passes T e s =
    record {
      free_1 = e;
      free_2 = λ k l. (s k (omega arith) l).0.0;
      free_3 = λ k l. (s k (omega arith) l).0.1;
      free_4 = λ k l. (s k (omega arith) l).0.2;
      free_5 = λ k l. (s k (omega arith) l).0.3;
      free_6 = λ k l.
          let r = s k (omega arith) l in
          named-free (names_a T k) (names_b T k) (a_at T k) (b_at T k) (named_below T k) (λ c n. not_named T k c (r.1 c n)) r.0.4;
    }
