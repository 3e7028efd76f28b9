-- How the block of all of s is filled: a record that no child wakes has an empty row, a row that was made adds to what is known, and plain
-- records stay.
-- Assumes nothing.
use Prim.Native.Nat.{ℕ, zero, suc, ◌+◌, ◌≤◌, ◌<◌}
use native.Mathlib.Omega.{arith}
use mathlib.Core.Path.{◌≡◌, refl, sym, ap, ◌∙◌}
use mathlib.Core.Logic.{◌⊎◌, inl, inr, ⊎_elim}
use mathlib.Core.Bool.{Bool, true, false, true≢false, ◌&&◌, ◌||◌}
use mathlib.Core.List.{List, []}
use lib.Dec.{eqb}
use lib.ListN.{length, get_or}
use borrow.Author.Tests.{eq-eqb, eqb-true, eqb-false}
use Rattle.posix.specs.Expressions.{star}
use Rattle.posix.specs.Spells.{spells}
use Rattle.table.specs.Records.{count, kind_at, a_at, b_at, is_letter}
use Rattle.table.specs.Expression.{exp_of}
use Rattle.table.specs.Letters.{LetterKind}
use Rattle.table.proofs.Laws.{exp-or, exp-seq, exp-star}
use Rattle.table.proofs.Passing.{kinds, kind-small, letter_at}
use Rattle.marks.specs.Marks.{marked}
use Rattle.rows.specs.Layout.{longest_at, tells}
use Rattle.rows.specs.Cuts.{some, cut_at}
use Rattle.rows.proofs.Cuts.{never_true, below_or, some-found, cut-true}
use Rattle.rows.proofs.Recurrences.{starts, rests, seq-cuts-apart, star-cuts}
use Rattle.rows.proofs.Kept.{same-other, same-lower, longest-kept, empty-kept}
use Rattle.plans.specs.declared.Bounds.{Bounds}
use Rattle.plans.specs.Plans.{is_plain, Bounded, wakes, Parents}
use Rattle.area.specs.Filling.{truth, RowTold, Known, Ready, Made, Progress, Visited, Woken, MarkedUnless}
use Rattle.rows.proofs.Growing.{tells-has}
use Rattle.area.proofs.Parts.{part_none}
use Rattle.area.proofs.Known.{row_kept, empty-told, lower-told, known_kept}
use Rattle.area.proofs.Records.{has-none, a-child, b-child, star-child, unmade, nothing-made, empty-made}

-- a record that is not plain is ready to be made
pub progress-ready : {t : List ℕ} {bounds : Bounds} {s : List ℕ} {k : ℕ} {w : List ℕ} → Progress t bounds s k w → k < count t → is_plain bounds k ≡ false → Ready t s k w
progress-ready {t} {bounds} {s} {k} p l n = record { known = p.known; number = l; none = p.others k (omega arith) l n }

-- a plain record's row is made already
pub plain-made : (t s : List ℕ) (k : ℕ) (w : List ℕ) → 1 ≤ length s → RowTold t s (length s) k w → Made t s k w w
plain-made t s k w one p =
    record {
      size = refl;
      kept = λ i n. refl;
      shape = p.shape one;
      facts = λ e l x. sym (tells-has w (count t) k (length s) e l) ∙ p.fact e x;
    }

-- a record was looked at
module _ (t : List ℕ) (bounds : Bounds) (s : List ℕ) (k : ℕ) (w w' : List ℕ) (p : Progress t bounds s k w) (number : k < count t) (v : Visited t bounds s k w w') where
  abbrev g : Made t s k w w'
  g = v.made

  abbrev kept-known : Known t s k w'
  kept-known = known_kept t s k w p.known number _ w' g

  made_told : RowTold t s (length s) k w'
  made_told = record { shape = λ l. g.shape; fact = fact }
    where
      fact : (e : ℕ) → e ≤ length s → tells (count t) w' k (length s) e ≡ truth t s k (length s) e
      fact zero l = empty-told t s k w' kept-known k number ∙ ap (spells (exp_of t k)) (sym (part_none s (length s)))
      fact (suc e) l = tells-has w' (count t) k (length s) (suc e) (omega arith) ∙ g.facts (suc e) (omega arith) l

  other-head : (j : ℕ) → j < count t → ¬ (j ≡ k) → longest_at w' (count t) (length s) j ≡ longest_at w (count t) (length s) j
  other-head j h n = longest-kept (count t) (length s) j w w' (same-other (count t) (length s) k _ w w' number g j h n)

  -- the header of a plain record
  plain-head : (j : ℕ) → j < count t → is_plain bounds j ≡ true → longest_at w' (count t) (length s) j ≡ longest_at w (count t) (length s) j
  plain-head j h x = go (eqb j k) refl
    where
      go : (b : Bool) → eqb j k ≡ b → longest_at w' (count t) (length s) j ≡ longest_at w (count t) (length s) j
      go true z =
          let same : j ≡ k = eqb-true j k z in
          ap (λ (u : List ℕ). longest_at u (count t) (length s) j) (v.stayed (rw same at x))
      go false z = other-head j h (eqb-false j k z)

  -- one record more
  pub progress-more : Progress t bounds s (k + 1) w'
  progress-more =
      record {
        known =
            record {
              sized = kept-known.sized;
              some_byte = kept-known.some_byte;
              blocks = kept-known.blocks;
              records = λ j l h.
                  ⊎_elim
                  (λ (i : j < k). kept-known.records j i h)
                  (λ (i : k ≤ j). let same : j ≡ k = omega arith in rw same made_told)
                  (below_or j k);
            };
        plains = λ j h x. plain j h x (eqb j k) refl;
        runs = λ j c h one l x y.
            ⊎_elim
            (λ (i : c < length s).
            longest-kept (count t) c j w w' (same-lower (count t) (length s) k _ w w' number g c j i h) ∙ p.runs j c h one l x y)
            (λ (i : length s ≤ c).
            let same : c ≡ length s = omega arith in
            rw same (plain-head j h x ∙ p.runs j (length s) h p.known.some_byte (omega arith) x y))
            (below_or c (length s));
        others = λ j l h x. other-head j h (λ (z : j ≡ k). omega arith) ∙ p.others j (omega arith) h x;
      }
    where
      plain : (j : ℕ) → j < count t → is_plain bounds j ≡ true → (b : Bool) → eqb j k ≡ b → RowTold t s (length s) j w'
      plain j h x true z = let same : j ≡ k = eqb-true j k z in rw same made_told
      plain j h x false z =
          row_kept t s (length s) j w w' (same-other (count t) (length s) k _ w w' number g j h (eqb-false j k z))
          (empty-kept (count t) (length s) k _ w w' number g p.known.some_byte j h) (p.plains j h x)

  -- and its parent is marked where it spells some part
  pub woken-more : (up marks marks' : List ℕ) → Parents t bounds (count t) up → Woken t bounds s k w marks
      → MarkedUnless (longest_at w' (count t) (length s) k) (get_or up k 0) marks marks'
      → Woken t bounds s (k + 1) w' marks'
  woken-more up marks marks' parents q r =
      record { size = r.size ∙ q.size; right = λ i j h x u y o n. go i j h x u y o n (eqb i k) refl }
    where
      earlier : (i : ℕ) → ¬ (i ≡ k) → (i < k + 1) ⊎ (is_plain bounds i ≡ true) → (i < k) ⊎ (is_plain bounds i ≡ true)
      earlier i u (inl l) = inl (lower (below_or i k))
        where
          lower : (i < k) ⊎ (k ≤ i) → i < k
          lower (inl e) = e
          lower (inr e) = absurd (u (omega arith))
      earlier i u (inr l) = inr l

      go : (i j : ℕ) → i < count t → j < count t → is_plain bounds j ≡ false → wakes t i j ≡ true → (i < k + 1) ⊎ (is_plain bounds i ≡ true)
          → ¬ (longest_at w' (count t) (length s) i ≡ 0)
          → (b : Bool) → eqb i k ≡ b
          → marked marks' j ≡ true
      go i j h x u y o n true z =
          let same : i ≡ k = eqb-true i k z in
          let parent : get_or up k 0 ≡ j = rw same at (parents.right i j x u y) in
          rw parent at (r.new (rw same at n))
      go i j h x u y o n false z =
          let other : ¬ (i ≡ k) = eqb-false i k z in
          r.kept j (q.right i j h x u y (earlier i other o) (rw (other-head i h other) at n))

-- a record that is not marked
module _ (t : List ℕ) (bounds : Bounds) (s : List ℕ) (k : ℕ) (w marks : List ℕ) (p : Progress t bounds s k w) (number : k < count t)
    (bounded : Bounded t (count t) bounds) (q : Woken t bounds s k w marks) (unmarked : marked marks k ≡ false) where
  abbrev m : ℕ
  m = count t

  abbrev d : ℕ
  d = length s

  -- one that is not plain has an empty row
  module _ (composite : is_plain bounds k ≡ false) where
    abbrev ready : Ready t s k w
    ready = progress-ready p number composite

    -- a child that would wake it spells no part of at least one byte
    silent : (i : ℕ) → i < k → wakes t i k ≡ true → (e : ℕ) → 1 ≤ e → e ≤ d → starts (exp_of t i) s e ≡ false
    silent i l x e one h = go (eqb (longest_at w m d i) 0) refl
      where
        go : (b : Bool) → eqb (longest_at w m d i) 0 ≡ b → starts (exp_of t i) s e ≡ false
        go true z =
            sym (lower-told t s k w p.known i e l (omega arith) h)
            ∙ tells-has w m i d e one ∙ has-none m w i d e (eqb-true (longest_at w m d i) 0 z) one
        go false z =
            absurd (true≢false
            (sym (q.right i k (omega arith) number composite x (inl l) (eqb-false (longest_at w m d i) 0 z)) ∙ unmarked))

    or-silent : kind_at t k ≡ 3 → Made t s k w w
    or-silent kind =
        let a : a_at t k < k = a-child t s k w ready (inl kind) in
        let b : b_at t k < k = b-child t s k w ready (inl kind) in
        unmade t s k w ready
        (λ e l x.
        rw (
          exp-or t k kind a b,
          silent (a_at t k) a (rw (kind, eq-eqb (a_at t k) (a_at t k) refl)) e l x,
          silent (b_at t k) b (rw kind (wakes-b (eqb (a_at t k) (b_at t k)))) e l x,
        ))
      where
        wakes-b : (b : Bool) → (b || (true && eqb (b_at t k) (b_at t k))) ≡ true
        wakes-b true = refl
        wakes-b false = rw (eq-eqb (b_at t k) (b_at t k) refl)

    -- no cut whose first part has at least one byte
    no_cut : (i : ℕ) → i < k → wakes t i k ≡ true → (B : ℕ → ℕ → Bool) (e : ℕ) → e ≤ d
        → some (cut_at (starts (exp_of t i) s) B 1 e) (suc e) ≡ false
    no_cut i l x B e h =
        never_true _ (λ (y : some (cut_at (starts (exp_of t i) s) B 1 e) (suc e) ≡ true).
        let f = some-found (cut_at (starts (exp_of t i) s) B 1 e) (suc e) y in
        let c = cut-true (starts (exp_of t i) s) B 1 e f.0 f.2 in
        true≢false (sym c.2 ∙ silent i l x f.0 c.0 (omega arith)))

    star-silent : kind_at t k ≡ 5 → Made t s k w w
    star-silent kind =
        let a : a_at t k < k = star-child t s k w ready kind in
        unmade t s k w ready
        (λ e l x.
        rw (exp-star t k kind a)
        (star-cuts (exp_of t (a_at t k)) s e l x
        ∙ no_cut (a_at t k) a (rw (kind, eq-eqb (a_at t k) (a_at t k) refl)) (rests (star (exp_of t (a_at t k))) s) e x))

    seq-silent : kind_at t k ≡ 4 → Made t s k w w
    seq-silent kind =
        unmade t s k w ready
        (λ e l x.
        rw (exp-seq t k kind a b)
        (seq-cuts-apart (exp_of t (a_at t k)) (exp_of t (b_at t k)) s e x ∙ rw (first e l x (spells (exp_of t (a_at t k)) []) refl)
        (no_cut (a_at t k) a (rw (kind, eq-eqb (a_at t k) (a_at t k) refl)) (rests (exp_of t (b_at t k)) s) e x)))
      where
        a : a_at t k < k
        a = a-child t s k w ready (inr kind)

        b : b_at t k < k
        b = b-child t s k w ready (inr kind)

        wakes-b : spells (exp_of t (a_at t k)) [] ≡ true → (x : Bool)
            → (x || ((false || (true && spells (exp_of t (a_at t k)) [])) && eqb (b_at t k) (b_at t k))) ≡ true
        wakes-b z true = refl
        wakes-b z false = rw (z, eq-eqb (b_at t k) (b_at t k) refl)

        first : (e : ℕ) → 1 ≤ e → e ≤ d → (z : Bool) → spells (exp_of t (a_at t k)) [] ≡ z
            → (spells (exp_of t (a_at t k)) [] && starts (exp_of t (b_at t k)) s e) ≡ false
        first e l x true z = rw z (silent (b_at t k) b (rw kind (wakes-b z (eqb (a_at t k) (b_at t k)))) e l x)
        first e l x false z = rw z

    composite-made : Made t s k w w
    composite-made = go (kinds (kind_at t k) (kind-small t p.known.sized.passes k number))
      where
        go : ((kind_at t k ≡ 0) ⊎ (kind_at t k ≡ 1) ⊎ LetterKind (kind_at t k)) ⊎ ((kind_at t k ≡ 3) ⊎ (kind_at t k ≡ 4)) ⊎ (kind_at t k ≡ 5)
            → Made t s k w w
        go (inl (inl e)) = nothing-made t s k w ready e
        go (inl (inr (inl e))) = empty-made t s k w ready e
        go (inl (inr (inr e))) =
            absurd (true≢false (sym (letter_at t k refl e) ∙ (bounded.others k number composite).0))
        go (inr (inl (inl e))) = or-silent e
        go (inr (inl (inr e))) = seq-silent e
        go (inr (inr e)) = star-silent e

  unmarked-visited : Visited t bounds s k w w
  unmarked-visited = record { made = go (is_plain bounds k) refl; stayed = λ x. refl }
    where
      go : (b : Bool) → is_plain bounds k ≡ b → Made t s k w w
      go true z = plain-made t s k w p.known.some_byte (p.plains k number z)
      go false z = composite-made z

  pub unmarked-more : Progress t bounds s (k + 1) w
  unmarked-more = progress-more t bounds s k w w p number unmarked-visited

  -- no record is woken by it, but for a plain one's
  pub unmarked-woken : Woken t bounds s (k + 1) w marks
  unmarked-woken =
      record {
        size = q.size;
        right = λ i j h x u y o n. q.right i j h x u y (earlier i h n o) n;
      }
    where
      earlier : (i : ℕ) → i < m → ¬ (longest_at w m d i ≡ 0) → (i < k + 1) ⊎ (is_plain bounds i ≡ true) → (i < k) ⊎ (is_plain bounds i ≡ true)
      earlier i h n (inr l) = inr l
      earlier i h n (inl l) = go (is_plain bounds i) refl (below_or i k)
        where
          go : (b : Bool) → is_plain bounds i ≡ b → (i < k) ⊎ (k ≤ i) → (i < k) ⊎ (is_plain bounds i ≡ true)
          go b z (inl x) = inl x
          go true z (inr x) = inr z
          go false z (inr x) = absurd (n (p.others i x h z))

-- the code's test for a plain record
module _ (t : List ℕ) (bounds : Bounds) (s : List ℕ) (k : ℕ) (w : List ℕ) where
  pub plain-seen : Progress t bounds s k w → k < count t → get_or bounds.plain k false ≡ true → Visited t bounds s k w w
  unfolding is_plain
  plain-seen p l z = record { made = plain-made t s k w p.known.some_byte (p.plains k l z); stayed = λ x. refl }

  pub composite-ready : Progress t bounds s k w → k < count t → Bounded t (count t) bounds → get_or bounds.plain k false ≡ false
      → Ready t s k w × (is_letter t k ≡ false)
  unfolding is_plain
  composite-ready p l b n = (progress-ready p l n, (b.others k l n).0)

  pub composite-visited : (w' : List ℕ) → get_or bounds.plain k false ≡ false → Made t s k w w' → Visited t bounds s k w w'
  unfolding is_plain
  composite-visited w' n g = record { made = g; stayed = λ x. absurd (true≢false (sym x ∙ n)) }
