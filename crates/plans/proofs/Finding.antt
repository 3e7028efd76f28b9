-- What is found of a table for the records that are not plain: what each store adds, and one law for each way out of a function that finds it.
-- Assumes nothing.
use Prim.Native.Nat.{ℕ, ◌+◌, ◌*◌, ◌≤◌, ◌<◌}
use native.Mathlib.Omega.{arith}
use mathlib.Core.Path.{◌≡◌, refl, sym, ap, ◌∙◌}
use mathlib.Core.Logic.{◌⊎◌, inl, inr, ⊎_elim}
use mathlib.Core.Bool.{Bool, true, false, true≢false, not, ◌&&◌, ◌||◌}
use mathlib.Core.List.{List, []}
use lib.Dec.{leb, eqb}
use lib.ListN.{length, get_or, set, length-set}
use lib.Seq.{get_or-set_same, get_or-set_other}
use mir.Val.{bool_byte}
use borrow.Author.Tests.{leb-true, eqb-true, eq-eqb, ne_eqb}
use Rattle.posix.specs.Spells.{spells}
use Rattle.posix.proofs.Spells.{either, each}
use Rattle.table.specs.Records.{count, kind_at, a_at, b_at, is_or, is_seq}
use Rattle.table.specs.Faults.{Passes, names_a, names_b, names}
use Rattle.table.specs.Letters.{LetterKind}
use Rattle.table.specs.Expression.{exp_of}
use Rattle.table.proofs.Laws.{exp-nothing, exp-empty, exp-letter, exp-or, exp-seq, exp-star}
use Rattle.table.proofs.Passing.{letter_at, two-names, star-names, a-below, b-below, star-a-below, child-once, or-true-left, or_true_right}
use Rattle.marks.specs.Marks.{marked}
use Rattle.rows.specs.Layout.{is_set}
use Rattle.rows.proofs.Cuts.{below_or}
use Rattle.rows.proofs.Bytes.{set-byte, clear-byte, test-byte}
use Rattle.plans.specs.declared.Bounds.{Bounds}
use Rattle.plans.specs.Plans.{in_either, in_bounds, is_plain, repeat_at, wakes, Parents, MarkedIn, Waking, Listed, EmptyTold}

-- the records that spell the empty line, record by record
pub empty-more : (t : List ℕ) (k v : ℕ) (w : List ℕ) → EmptyTold t k w → k < length w → is_set v ≡ spells (exp_of t k) []
    → EmptyTold t (k + 1) (set w k v)
empty-more t k v w p l e =
    record {
      right = λ j x.
          ⊎_elim
          (λ (y : j < k). ap is_set (get_or-set_other w k j v 0 (λ q. omega arith)) ∙ p.right j y)
          (λ (y : k ≤ j). let same : j ≡ k = omega arith in rw same (ap is_set (get_or-set_same w k v 0 l) ∙ e))
          (below_or j k);
    }

-- a test stored in a byte
pub set-test : (x : Bool) → is_set (bool_byte x) ≡ x
unfolding is_set
set-test true = refl
set-test false = refl

-- whether a record spells the empty line, by its kind
module _ (t : List ℕ) (p : Passes t) (k : ℕ) (l : k < count t) where
  pub empty-nothing : kind_at t k ≡ 0 → false ≡ spells (exp_of t k) []
  empty-nothing e = rw (exp-nothing t k e)

  pub empty-empty : kind_at t k ≡ 1 → true ≡ spells (exp_of t k) []
  empty-empty e = rw (exp-empty t k e)

  pub empty-letter : LetterKind (kind_at t k) → false ≡ spells (exp_of t k) []
  empty-letter e = rw (exp-letter t k (letter_at t k refl e))

  pub empty-star : kind_at t k ≡ 5 → true ≡ spells (exp_of t k) []
  empty-star e = rw (exp-star t k e (star-a-below t p k l e))

  module _ (a b : ℕ) (ea : a ≡ a_at t k) (eb : b ≡ b_at t k) (w : List ℕ) (q : EmptyTold t k w) where
    or-told : kind_at t k ≡ 3 → spells (exp_of t k) [] ≡ (is_set (get_or w a 0) || is_set (get_or w b 0))
    or-told e =
        let la : a_at t k < k = a-below t p k l (inl e) in
        let lb : b_at t k < k = b-below t p k l (inl e) in
        rw (exp-or t k e la lb, ea, eb, q.right (a_at t k) la, q.right (b_at t k) lb)

    seq-told : kind_at t k ≡ 4 → spells (exp_of t k) [] ≡ (is_set (get_or w a 0) && is_set (get_or w b 0))
    seq-told e =
        let la : a_at t k < k = a-below t p k l (inr e) in
        let lb : b_at t k < k = b-below t p k l (inr e) in
        rw (exp-seq t k e la lb, ea, eb, q.right (a_at t k) la, q.right (b_at t k) lb)

    pub or-by-first : kind_at t k ≡ 3 → ¬ (get_or w a 0 ≡ 0) → not (eqb (get_or w a 0) 0) ≡ spells (exp_of t k) []
    or-by-first e n = rw (or-told e, test-byte (get_or w a 0), set-byte (get_or w a 0) n)

    pub or-by-second : kind_at t k ≡ 3 → get_or w a 0 ≡ 0 → not (eqb (get_or w b 0) 0) ≡ spells (exp_of t k) []
    or-by-second e z = rw (or-told e, test-byte (get_or w b 0), clear-byte (get_or w a 0) z)

    pub seq-by-second : kind_at t k ≡ 4 → ¬ (get_or w a 0 ≡ 0) → not (eqb (get_or w b 0) 0) ≡ spells (exp_of t k) []
    seq-by-second e n = rw (seq-told e, test-byte (get_or w b 0), set-byte (get_or w a 0) n)

    pub seq-by-first : kind_at t k ≡ 4 → get_or w a 0 ≡ 0 → not (eqb (get_or w a 0) 0) ≡ spells (exp_of t k) []
    seq-by-first e z = rw (seq-told e, test-byte (get_or w a 0), clear-byte (get_or w a 0) z)

-- the records that children may matter to
module _ (t : List ℕ) (k i : ℕ) where
  -- a record that a part of record i may matter to names it
  wakes-names : wakes t i k ≡ true → names t k i ≡ true
  wakes-names h =
      ⊎_elim
      (λ (x : (names_a t k && eqb (a_at t k) i) ≡ true). or-true-left (names_a t k && eqb (a_at t k) i) _ x)
      (λ (x : ((is_or t k || (is_seq t k && spells (exp_of t (a_at t k)) [])) && eqb (b_at t k) i) ≡ true).
      let r = each (is_or t k || (is_seq t k && spells (exp_of t (a_at t k)) [])) (eqb (b_at t k) i) x in
      let b : names_b t k ≡ true = second r.0 in
      or_true_right (names_a t k && eqb (a_at t k) i) _ (rw (b, r.1)))
      (either (names_a t k && eqb (a_at t k) i) _ h)
    where
      second : (is_or t k || (is_seq t k && spells (exp_of t (a_at t k)) [])) ≡ true → names_b t k ≡ true
      second h =
          ⊎_elim
          (λ (x : is_or t k ≡ true). or-true-left (is_or t k) _ x)
          (λ (x : (is_seq t k && spells (exp_of t (a_at t k)) []) ≡ true). or_true_right (is_or t k) _ (each (is_seq t k) _ x).0)
          (either (is_or t k) _ h)

module _ (t : List ℕ) (bounds : Bounds) (p : Passes t) (k : ℕ) (l : k < count t) (up : List ℕ) (q : Parents t bounds k up) where
  -- a plain record needs no part of its children
  pub plain-parent : get_or bounds.plain k false ≡ true → Parents t bounds (k + 1) up
  unfolding is_plain
  plain-parent e =
      record {
        size = q.size;
        right = λ i j x n y.
            ⊎_elim
            (λ (z : j < k). q.right i j z n y)
            (λ (z : k ≤ j).
            let same : j ≡ k = omega arith in
            absurd (true≢false (sym e ∙ rw same at n)))
            (below_or j k);
      }

  parents-more : (up' : List ℕ) → length up' ≡ 256
      → ((i : ℕ) → names t k i ≡ false → get_or up' i 0 ≡ get_or up i 0)
      → ((i : ℕ) → wakes t i k ≡ true → get_or up' i 0 ≡ k)
      → Parents t bounds (k + 1) up'
  parents-more up' size kept new =
      record {
        size = size;
        right = λ i j x n y.
            ⊎_elim
            (λ (z : j < k). kept i (child-once t p j k i z l (wakes-names t j i y)) ∙ q.right i j z n y)
            (λ (z : k ≤ j). let same : j ≡ k = omega arith in rw same (new i (rw same at y)))
            (below_or j k);
      }

  not_first : (i a : ℕ) → a ≡ a_at t k → names_a t k ≡ true → names t k i ≡ false → ¬ (i ≡ a)
  not_first i a e n h z =
      true≢false (sym (or-true-left (names_a t k && eqb (a_at t k) i) _ (rw (n, eq-eqb (a_at t k) i (sym e ∙ sym z)))) ∙ h)

  not-second : (i b : ℕ) → b ≡ b_at t k → names_b t k ≡ true → names t k i ≡ false → ¬ (i ≡ b)
  not-second i b e n h z =
      true≢false (sym (or_true_right (names_a t k && eqb (a_at t k) i) _ (rw (n, eq-eqb (b_at t k) i (sym e ∙ sym z)))) ∙ h)

  module _ (kind a b : ℕ) (ek : kind ≡ kind_at t k) (ea : a ≡ a_at t k) (eb : b ≡ b_at t k) where
    -- record k is stored at its first child alone, or at both
    first-stored : names_a t k ≡ true → ((i : ℕ) → wakes t i k ≡ true → i ≡ a) → a < 256 → Parents t bounds (k + 1) (set up a k)
    first-stored n f small =
        parents-more (set up a k) (simp length-set q.size)
        (λ i h. get_or-set_other up a i k 0 (not_first i a ea n h))
        (λ i h. rw (f i h) (get_or-set_same up a k 0 (omega (arith, q.size))))

    both_stored : names_a t k ≡ true → names_b t k ≡ true → a < 256 → b < 256
        → Parents t bounds (k + 1) (set (set up a k) b k)
    both_stored na nb small-a small_b =
        parents-more (set (set up a k) b k) (simp length-set q.size)
        (λ i h.
        get_or-set_other (set up a k) b i k 0 (not-second i b eb nb h) ∙ get_or-set_other up a i k 0 (not_first i a ea na h))
        (λ i h.
        ⊎_elim
        (λ (x : (names_a t k && eqb (a_at t k) i) ≡ true). one i (each (names_a t k) _ x).1)
        (λ (x : (names_b t k && eqb (b_at t k) i) ≡ true). two i (each (names_b t k) _ x).1)
        (either (names_a t k && eqb (a_at t k) i) _ (wakes-names t k i h)))
      where
        at_b : get_or (set (set up a k) b k) b 0 ≡ k
        at_b = get_or-set_same (set up a k) b k 0 (simp length-set (omega (arith, q.size)))

        two : (i : ℕ) → eqb (b_at t k) i ≡ true → get_or (set (set up a k) b k) i 0 ≡ k
        two i x = let same : i ≡ b = sym (eqb-true (b_at t k) i x) ∙ sym eb in rw same at_b

        one : (i : ℕ) → eqb (a_at t k) i ≡ true → get_or (set (set up a k) b k) i 0 ≡ k
        one i x = go (eqb i b) refl
          where
            same : i ≡ a
            same = sym (eqb-true (a_at t k) i x) ∙ sym ea

            go : (y : Bool) → eqb i b ≡ y → get_or (set (set up a k) b k) i 0 ≡ k
            go true y = rw (eqb-true i b y) at_b
            go false y =
                get_or-set_other (set up a k) b i k 0 (λ z. true≢false (sym (eq-eqb i b z) ∙ y))
                ∙ rw same (get_or-set_same up a k 0 (omega (arith, q.size)))

    pub star-parent : kind ≡ 5 → a < 256 → Parents t bounds (k + 1) (set up a k)
    star-parent e small =
        let five : kind_at t k ≡ 5 = sym ek ∙ e in
        first-stored (star-names t k five).0
        (λ i h.
        ⊎_elim
        (λ (x : (names_a t k && eqb (a_at t k) i) ≡ true). sym (eqb-true (a_at t k) i (each (names_a t k) _ x).1) ∙ sym ea)
        (λ (x : (names_b t k && eqb (b_at t k) i) ≡ true).
        absurd (true≢false (sym (each (names_b t k) _ x).0 ∙ (star-names t k five).1)))
        (either (names_a t k && eqb (a_at t k) i) _ (wakes-names t k i h)))
        small

    pub both-parent : (kind ≡ 3) ⊎ (kind ≡ 4) → a < 256 → b < 256 → Parents t bounds (k + 1) (set (set up a k) b k)
    both-parent e small-a small_b =
        let n = two-names t k (⊎_elim (λ z. inl (sym ek ∙ z)) (λ z. inr (sym ek ∙ z)) e) in
        both_stored n.0 n.1 small-a small_b

    -- a Seq whose first child does not spell the empty line
    pub seq-parent : (w : List ℕ) → EmptyTold t (count t) w → kind ≡ 4 → get_or w a 0 ≡ 0 → a < 256 → Parents t bounds (k + 1) (set up a k)
    seq-parent w told e z small =
        let four : kind_at t k ≡ 4 = sym ek ∙ e in
        let below : a_at t k < k = a-below t p k l (inr four) in
        let none : spells (exp_of t (a_at t k)) [] ≡ false =
        sym (told.right (a_at t k) (omega arith)) ∙ clear-byte (get_or w (a_at t k) 0) (rw (← ea) z) in
        first-stored (two-names t k (inr four)).0
        (λ i h.
        ⊎_elim
        (λ (x : (names_a t k && eqb (a_at t k) i) ≡ true). sym (eqb-true (a_at t k) i (each (names_a t k) _ x).1) ∙ sym ea)
        (λ (x : ((is_or t k || (is_seq t k && spells (exp_of t (a_at t k)) [])) && eqb (b_at t k) i) ≡ true).
        let g : (is_or t k || (is_seq t k && spells (exp_of t (a_at t k)) [])) ≡ true = (each (is_or t k || (is_seq t k && spells (exp_of t (a_at t k)) [])) (eqb (b_at t k) i) x).0 in
        let n : (is_or t k || (is_seq t k && spells (exp_of t (a_at t k)) [])) ≡ false = rw (four, none) in
        absurd (true≢false (sym g ∙ n)))
        (either (names_a t k && eqb (a_at t k) i) _ h))
        small

    pub no-parent : ¬ (kind ≡ 3) → ¬ (kind ≡ 4) → ¬ (kind ≡ 5) → Parents t bounds (k + 1) up
    no-parent n3 n4 n5 =
        parents-more up q.size (λ i h. refl) (λ i h. absurd (true≢false (sym (wakes-names t k i h) ∙ nothing i)))
      where
        nothing : (i : ℕ) → names t k i ≡ false
        nothing i =
            rw (
              ne_eqb (kind_at t k) 3 (λ z. n3 (ek ∙ z)),
              ne_eqb (kind_at t k) 4 (λ z. n4 (ek ∙ z)),
              ne_eqb (kind_at t k) 5 (λ z. n5 (ek ∙ z)),
            )

-- a byte within one of two ranges
in-either-true : (l h l2 h2 c : ℕ) → in_either l h l2 h2 c ≡ true → ((l ≤ c) × (c ≤ h)) ⊎ ((l2 ≤ c) × (c ≤ h2))
in-either-true l h l2 h2 c e =
    ⊎_elim
    (λ (z : (leb l c && leb c h) ≡ true). let p = each (leb l c) (leb c h) z in inl (leb-true l c p.0, leb-true c h p.1))
    (λ (z : (leb l2 c && leb c h2) ≡ true). let p = each (leb l2 c) (leb c h2) z in inr (leb-true l2 c p.0, leb-true c h2 p.1))
    (either (leb l c && leb c h) (leb l2 c && leb c h2) e)

-- the sets of the bytes of the records' ranges
module _
    (bounds : Bounds)
    (up : List ℕ)
    (k parent low high low2 high2 : ℕ)
    (eu : parent ≡ get_or up k 0)
    (el : low ≡ get_or bounds.low k 0)
    (eh : high ≡ get_or bounds.high k 0)
    (el2 : low2 ≡ get_or bounds.low2 k 0)
    (eh2 : high2 ≡ get_or bounds.high2 k 0)
    (s s' s'' : List ℕ)
    (p : Waking bounds up k s)
    (q : MarkedIn parent low (high + 1) s s')
    (r : MarkedIn parent low2 (high2 + 1) s' s'')
  where
    both-marked : (c : ℕ) → in_bounds bounds k c ≡ true → marked s'' (256 * c + parent) ≡ true
    unfolding in_bounds
    both-marked c h =
        ⊎_elim
        (λ (y : (get_or bounds.low k 0 ≤ c) × (c ≤ get_or bounds.high k 0)).
        r.kept (256 * c + parent) (q.new c (omega arith) (omega arith)))
        (λ (y : (get_or bounds.low2 k 0 ≤ c) × (c ≤ get_or bounds.high2 k 0)). r.new c (omega arith) (omega arith))
        (in-either-true (get_or bounds.low k 0) (get_or bounds.high k 0) (get_or bounds.low2 k 0) (get_or bounds.high2 k 0) c h)

    pub ranges-wake : Waking bounds up (k + 1) s''
    ranges-wake =
        record {
          size = r.size ∙ q.size ∙ p.size;
          right = λ i c x y h.
              ⊎_elim
              (λ (z : i < k).
              r.kept (256 * c + get_or up i 0) (q.kept (256 * c + get_or up i 0) (p.right i c z y h)))
              (λ (z : k ≤ i). let same : i ≡ k = omega arith in rw (same, ← eu) (both-marked c (rw same at h)))
              (below_or i k);
        }

-- the records that repeat
module _ (bounds : Bounds) (k : ℕ) (runs : List ℕ) (n : ℕ) (p : Listed bounds k runs n) where
  pub listed_same : ¬ (get_or bounds.repeat k 0 ≡ 255) → Listed bounds (k + 1) runs n
  unfolding repeat_at
  listed_same n255 =
      record {
        size = p.size;
        few = omega (arith, p.few);
        only = λ i l. omega (arith, p.only i l);
        every = λ j l h.
            ⊎_elim
            (λ (z : j < k). p.every j z h)
            (λ (z : k ≤ j). let same : j ≡ k = omega arith in absurd (n255 (rw same at h)))
            (below_or j k);
      }
