-- The blocks from the line's end to its start: from one marked record to the next, a block's start and its end, the first block and the last.
-- Assumes nothing.
use Prim.Native.Nat.{ℕ, zero, suc, ◌+◌, ◌-◌, ◌*◌, ◌≤◌, ◌<◌}
use native.Mathlib.Nat.{add-zero, sub_self, mul-one}
use native.Mathlib.Numerals.{add-one}
use native.Mathlib.Omega.{arith}
use mathlib.Core.Path.{◌≡◌, refl, sym, ap, ◌∙◌}
use mathlib.Core.Logic.{◌⊎◌, inl, inr, ⊎_elim}
use mathlib.Core.Bool.{Bool, true, false, true≢false, cond, not, ◌&&◌, ◌||◌, and-true, and-false}
use mathlib.Core.List.{List, [], ◌∷◌}
use lib.Bits.{bit_and, and_zero_r}
use lib.Dec.{leb, eqb}
use lib.ListN.{length, get_or, take, drop, length-drop}
use lib.Seq.{take_all, drop-drop, drop-length}
use borrow.Author.Tests.{le-leb, lt-leb}
use Rattle.posix.specs.Language.{Bytes}
use Rattle.posix.specs.Spells.{spells}
use Rattle.table.specs.Records.{count}
use Rattle.table.specs.Expression.{exp_of}
use Rattle.table.proofs.Passing.{count-bound}
use Rattle.marks.specs.Marks.{marked, NextMarked, Copied}
use Rattle.rows.specs.Layout.{tri, area_size, head_at, row_at, is_set, longest_at, lowest_at, mark_at, in_row, has, tells}
use Rattle.rows.specs.Rows.{Shaped}
use Rattle.rows.proofs.Places.{size-grows, lower_block, own-inside, first_head, head-row}
use Rattle.rows.proofs.Cuts.{below_or}
use Rattle.rows.proofs.Kept.{Same, longest-kept}
use Rattle.plans.specs.declared.Bounds.{Bounds}
use Rattle.plans.specs.Plans.{lead, UnitRow, RunRow, in_bounds, repeat_at, is_plain, Bounded, wakes, Parents, Waking, Listed, EmptyTold}
use Rattle.area.specs.Area.{Told}
use Rattle.area.specs.Filling.{Sized, truth, RowTold, Progress, RunsTold, Woken, FilledFor, head_behind, Seeded, LowsSet}
use Rattle.rows.proofs.Growing.{tells-has}
use Rattle.area.proofs.Parts.{part_none, part-tail, part-whole}
use Rattle.area.proofs.Known.{tells-empty, row_kept}
use Rattle.area.proofs.Seeds.{mask-whole}
use Rattle.area.proofs.Records.{has-none, has_one, one_set, short-shape}
use Rattle.area.proofs.Blocks.{unmarked-more, unmarked-woken}

-- the records from k on that are not marked
pub passed_to : (t : List ℕ) (bounds : Bounds) (s w marks : List ℕ) → Bounded t (count t) bounds → (n k : ℕ) → Progress t bounds s k w → Woken t bounds s k w marks
    → k + n ≤ count t
    → ((i : ℕ) → k ≤ i → i < k + n → marked marks i ≡ false)
    → Progress t bounds s (k + n) w × Woken t bounds s (k + n) w marks
passed_to t bounds s w marks b zero k p q l h = rw (add-zero k) (p, q)
passed_to t bounds s w marks b (suc n) k p q l h =
    let in_table : k < count t = omega arith in
    let u : marked marks k ≡ false = h k (omega arith) (omega arith) in
    let sum : k + 1 + n ≡ k + suc n = omega arith in
    rw sum at
    (passed_to t bounds s w marks b n (k + 1)
    (unmarked-more t bounds s k w marks p in_table b q u) (unmarked-woken t bounds s k w marks p in_table b q u) (omega arith)
    (λ i x y. h i (omega arith) (omega arith)))

pub passed-next : (t : List ℕ) (bounds : Bounds) (s w marks : List ℕ) → Bounded t (count t) bounds → (k end r : ℕ) → Progress t bounds s k w
    → Woken t bounds s k w marks
    → NextMarked marks k end r
    → r ≤ count t
    → Progress t bounds s r w × Woken t bounds s r w marks
passed-next t bounds s w marks b k end r p q n l =
    let le : k ≤ r = n.not_before in
    let sum : k + (r - k) ≡ r = omega arith in
    rw sum at (passed_to t bounds s w marks b (r - k) k p q (omega arith) (λ i x y. n.passed i x (omega arith)))

-- the block's last row is made
pub block-end : (t : List ℕ) (bounds : Bounds) (s w : List ℕ) → Progress t bounds s (count t) w → FilledFor t bounds s w
block-end t bounds s w p =
    record {
      rows = λ j c l h.
          ⊎_elim
          (λ (x : c < length s). p.known.blocks j c l x)
          (λ (x : length s ≤ c). let same : c ≡ length s = omega arith in rw same (p.known.records j l l))
          (below_or c (length s));
      runs = p.runs;
    }

-- Bytes in front that pass a test.

lead-small : (C : ℕ → Bool) (u : List ℕ) → lead C u ≤ length u
unfolding lead
lead-small C [] = omega arith
lead-small C (c ∷ u) = go (C c) (lead-small C u)
  where
    go : (b : Bool) → lead C u ≤ length u → cond b (suc (lead C u)) 0 ≤ suc (length u)
    go true l = omega arith
    go false l = omega arith

lead-first : (C : ℕ → Bool) (u : List ℕ) → 1 ≤ length u → lead C u ≡ cond (C (get_or u 0 0)) (lead C (drop 1 u) + 1) 0
unfolding lead
lead-first C [] l = absurd (omega arith)
lead-first C (c ∷ u) l = rw (add-one (lead C u))

-- a run from 1 of a row of block d
run-has : (m : ℕ) (w : List ℕ) (k d e : ℕ) → get_or w (row_at m d k) 0 ≡ 1 → 1 ≤ e → has m w k d e ≡ leb e (longest_at w m d k)
unfolding has in_row lowest_at is_set
run-has m w k d e low l = go (leb (longest_at w m d k) 1)
  where
    go : (b : Bool)
        → (leb e (longest_at w m d k) && cond (not (eqb (cond b 1 (get_or w (row_at m d k) 0)) 0)) (leb (cond b 1 (get_or w (row_at m d k) 0)) e) (eqb e d || not (eqb (mark_at w m d k e) 0)))
        ≡ leb e (longest_at w m d k)
    go true = rw (le-leb 1 e l) (and-true (leb e (longest_at w m d k)))
    go false = rw (low, le-leb 1 e l) (and-true (leb e (longest_at w m d k)))

run-lowest : (m : ℕ) (w : List ℕ) (k d : ℕ) → get_or w (row_at m d k) 0 ≡ 1 → lowest_at w m d k ≡ 1
unfolding lowest_at
run-lowest m w k d low = go (leb (longest_at w m d k) 1)
  where
    go : (b : Bool) → cond b 1 (get_or w (row_at m d k) 0) ≡ 1
    go true = refl
    go false = low

run-shape : (m d k : ℕ) (w : List ℕ) → get_or w (row_at m d k) 0 ≡ 1 → longest_at w m d k ≤ d → Shaped m d k w
run-shape m d k w low h =
    let l : lowest_at w m d k ≡ 1 = run-lowest m w k d low in
    record {
      small = h;
      ordered = λ i. omega arith;
      clean = λ z e x y. absurd (true≢false (sym one_set ∙ ap is_set (sym l) ∙ z));
    }

-- the next block, with its seeds
module _ (t : List ℕ) (bounds : Bounds) (s u v w runs : List ℕ) (n : ℕ) (sized : Sized t s u) (one : 1 ≤ length s) (bytes : Bytes s)
    (filled : FilledFor t bounds (drop 1 s) u) (bounded : Bounded t (count t) bounds) (listed : Listed bounds (count t) runs n)
    (seeded : Seeded bounds (get_or s 0 0) (count t) (length s) (count t) u v)
    (lows : LowsSet (count t) (length s) runs n v w) where
  abbrev m : ℕ
  m = count t

  abbrev d : ℕ
  d = length s

  shorter : length (drop 1 s) ≡ d - 1
  shorter = length-drop 1 s

  some-record : 1 ≤ m
  some-record = (count-bound t sized.passes).0

  -- the blocks of fewer bytes and block 0 are as they were
  lower-kept : (i : ℕ) → i < head_at m d 0 → get_or w i 0 ≡ get_or u i 0
  lower-kept i l = lows.kept i (omega (arith, head-row m d 0 0 some-record)) ∙ seeded.kept i (inl l)

  lower-same : (c j : ℕ) → c < d → j < m → Same m c j u w
  lower-same c j l h i o = lower-kept i (omega (arith, (own-inside m c j i h o).1, lower_block m c d 0 l))

  -- a row of a later start is told as before: the byte in front of it has no part in it
  later-told : (j c : ℕ) → j < m → c < d → RowTold t s c j w
  later-told j c l h =
      let q : RowTold t (drop 1 s) c j u = filled.rows j c l (omega (arith, shorter)) in
      row_kept t s c j u w (lower-same c j h l) (lower-same 0 j (omega arith) l (head_at m 0 j) (inl refl))
      (record { shape = q.shape; fact = λ e x. q.fact e x ∙ ap (spells (exp_of t j)) (sym (part-tail s c e h)) })

  -- the headers of this block
  head : (j : ℕ) → j < m
      → longest_at w m d j ≡ cond (in_bounds bounds j (get_or s 0 0)) (bit_and (head_behind u m d j) (repeat_at bounds j) + 1) 0
  unfolding longest_at
  head j l = lows.kept (head_at m d j) (head-row m d j 0 l) ∙ seeded.heads j l

  empty-fact : (j : ℕ) → j < m → tells m w j d 0 ≡ truth t s j d 0
  empty-fact j l =
      tells-empty m w j d 0 ∙ (later-told j 0 l (omega arith)).fact 0 (omega arith)
      ∙ ap (spells (exp_of t j)) (part_none s 0 ∙ sym (part_none s d))

  told-by : (j : ℕ) → j < m → Shaped m d j w → ((e : ℕ) → 1 ≤ e → e ≤ d → has m w j d e ≡ spells (exp_of t j) (take e s))
      → RowTold t s d j w
  told-by j l shape facts = record { shape = λ x. shape; fact = fact }
    where
      fact : (e : ℕ) → e ≤ d → tells m w j d e ≡ truth t s j d e
      fact zero x = empty-fact j l
      fact (suc e) x =
          tells-has w m j d (suc e) (omega arith) ∙ facts (suc e) (omega arith) x
          ∙ ap (spells (exp_of t j)) (sym (part-whole s (suc e)))

  -- a letter, or two ranges side by side
  unit-told : (j : ℕ) → j < m → repeat_at bounds j ≡ 0 → UnitRow (exp_of t j) (in_bounds bounds j) → RowTold t s d j w
  unit-told j l zero-repeat row = go (in_bounds bounds j (get_or s 0 0)) refl
    where
      mask : bit_and (head_behind u m d j) (repeat_at bounds j) ≡ 0
      mask = rw zero-repeat (and_zero_r (head_behind u m d j))

      go : (b : Bool) → in_bounds bounds j (get_or s 0 0) ≡ b → RowTold t s d j w
      go true z =
          let h : longest_at w m d j ≡ 1 = head j l ∙ rw (z, mask) in
          told-by j l (short-shape m d j w one (omega arith))
          (λ e x y. has_one m w j d e h x ∙ sym (row.one s bytes e x y ∙ rw z (and-true (eqb e 1))))
      go false z =
          let h : longest_at w m d j ≡ 0 = head j l ∙ rw z in
          told-by j l (short-shape m d j w one (omega arith))
          (λ e x y. has-none m w j d e h x ∙ sym (row.one s bytes e x y ∙ rw z (and-false (eqb e 1))))

  -- what repeats one of these: the header behind goes on
  behind-lead : (j : ℕ) → j < m → is_plain bounds j ≡ true → repeat_at bounds j ≡ 255
      → head_behind u m d j ≡ lead (in_bounds bounds j) (drop 1 s)
  behind-lead j l x y = go (below_or 1 d)
    where
      go : (1 < d) ⊎ (d ≤ 1) → head_behind u m d j ≡ lead (in_bounds bounds j) (drop 1 s)
      go (inl i) =
          let place : length (drop 1 s) - (d - 1) ≡ 0 = omega (arith, shorter) in
          rw (lt-leb d 1 i) (filled.runs j (d - 1) l (omega arith) (omega (arith, shorter)) x y ∙ rw place)
      go (inr i) =
          let none : lead (in_bounds bounds j) (drop 1 s) ≡ 0 =
          omega (arith, lead-small (in_bounds bounds j) (drop 1 s), shorter) in
          rw (le-leb d 1 i) (sym none)

  run-head : (j : ℕ) → j < m → is_plain bounds j ≡ true → repeat_at bounds j ≡ 255 → longest_at w m d j ≡ lead (in_bounds bounds j) s
  run-head j l x y =
      let small : head_behind u m d j < 256 =
      omega (arith, behind-lead j l x y, lead-small (in_bounds bounds j) (drop 1 s), shorter, sized.short) in
      let mask : bit_and (head_behind u m d j) (repeat_at bounds j) ≡ lead (in_bounds bounds j) (drop 1 s) =
      rw y (mask-whole (head_behind u m d j) small ∙ behind-lead j l x y) in
      head j l ∙ rw mask (sym (lead-first (in_bounds bounds j) s one))

  run-low : (j : ℕ) → j < m → repeat_at bounds j ≡ 255 → get_or w (row_at m d j) 0 ≡ 1
  run-low j l y =
      let f = listed.every j l y in
      rw f.2 at (lows.lows f.0 f.1)

  run-told : (j : ℕ) → j < m → is_plain bounds j ≡ true → repeat_at bounds j ≡ 255 → RunRow (exp_of t j) (in_bounds bounds j)
      → RowTold t s d j w
  run-told j l x y row =
      let h : longest_at w m d j ≡ lead (in_bounds bounds j) s = run-head j l x y in
      told-by j l (run-shape m d j w (run-low j l y) (omega (arith, lead-small (in_bounds bounds j) s)))
      (λ e i o. run-has m w j d e (run-low j l y) i ∙ ap (leb e) h ∙ sym (row.all s bytes e i o))

  plain-told : (j : ℕ) → j < m → is_plain bounds j ≡ true → RowTold t s d j w
  plain-told j l x =
      ⊎_elim
      (λ (p : (repeat_at bounds j ≡ 0) × UnitRow (exp_of t j) (in_bounds bounds j)). unit-told j l p.0 p.1)
      (λ (p : (repeat_at bounds j ≡ 255) × RunRow (exp_of t j) (in_bounds bounds j)). run-told j l x p.0 p.1)
      (bounded.plain j l x)

  all_runs : RunsTold t bounds s d w
  all_runs j c l i h x y =
      ⊎_elim
      (λ (o : c < d).
      let place : 1 + (length (drop 1 s) - c) ≡ d - c = omega (arith, shorter) in
      longest-kept m c j u w (lower-same c j o l) ∙ filled.runs j c l i (omega (arith, shorter)) x y
      ∙ ap (lead (in_bounds bounds j)) (drop-drop (length (drop 1 s) - c) 1 s ∙ ap (λ (z : ℕ). drop z s) place))
      (λ (o : d ≤ c).
      let same : c ≡ d = omega arith in
      rw same (run-head j l x y ∙ ap (λ (z : ℕ). lead (in_bounds bounds j) (drop z s)) (sym (sub_self d))))
      (below_or c d)

  pub block_start : Progress t bounds s 0 w
  block_start =
      record {
        known =
            record {
              sized = record { passes = sized.passes; short = sized.short; room = omega (arith, lows.size, seeded.size, sized.room) };
              some_byte = one;
              blocks = later-told;
              records = λ j l. absurd (omega arith);
            };
        plains = plain-told;
        runs = all_runs;
        others = λ j l h x. head j h ∙ rw ((bounded.others j h x).1 (get_or s 0 0));
      }

  pub block-woken : (up sets marks : List ℕ) → Parents t bounds m up → Waking bounds up m sets → (zeros : List ℕ) → length zeros ≡ 4
      → Copied (4 * get_or s 0 0) sets zeros marks
      → Woken t bounds s 0 w marks
  block-woken up sets marks parents waking zeros four copied =
      record { size = copied.size ∙ four; right = right }
    where
      right : (i j : ℕ) → i < m → j < m → is_plain bounds j ≡ false → wakes t i j ≡ true → (i < 0) ⊎ (is_plain bounds i ≡ true)
          → ¬ (longest_at w m d i ≡ 0)
          → marked marks j ≡ true
      right i j l h y x o n =
          let parent : get_or up i 0 ≡ j = parents.right i j h y x in
          let place : 64 * (4 * get_or s 0 0) + get_or up i 0 ≡ 256 * get_or s 0 0 + get_or up i 0 = omega arith in
          let low : get_or up i 0 < 64 * length zeros = omega (arith, count-bound t sized.passes) in
          let set : marked sets (256 * get_or s 0 0 + get_or up i 0) ≡ true =
          waking.right i (get_or s 0 0) l (bytes 0 one) (held (in_bounds bounds i (get_or s 0 0)) refl) in
          let copy : marked marks (get_or up i 0) ≡ true = copied.same (get_or up i 0) low ∙ rw place set in
          rw parent at copy
        where
          held : (b : Bool) → in_bounds bounds i (get_or s 0 0) ≡ b → in_bounds bounds i (get_or s 0 0) ≡ true
          held true z = z
          held false z = absurd (n (head i l ∙ rw z))

-- what the seeds need: no header of the block behind is 255 and more
pub behind-low : (t : List ℕ) (bounds : Bounds) (s w : List ℕ) → Sized t s w → 1 ≤ length s → FilledFor t bounds (drop 1 s) w → (k : ℕ) → k < count t
    → 1 < length s
    → longest_at w (count t) (length s - 1) k ≤ 254
behind-low t bounds s w sized one filled k l h =
    let n : length (drop 1 s) ≡ length s - 1 = length-drop 1 s in
    omega (arith, ((filled.rows k (length s - 1) l (omega arith)).shape (omega arith)).small, sized.short)

-- block 0 alone
first-told : (t w : List ℕ) → EmptyTold t (count t) w → (j : ℕ) → j < count t → tells (count t) w j 0 0 ≡ spells (exp_of t j) []
unfolding tells
first-told t w p j l = rw (first_head (count t) j) (p.right j l)

pub first-filled : (t : List ℕ) (bounds : Bounds) (w : List ℕ) → EmptyTold t (count t) w → FilledFor t bounds [] w
first-filled t bounds w p = record { rows = rows; runs = λ j c l i h. absurd (omega arith) }
  where
    rows : (j c : ℕ) → j < count t → c ≤ 0 → RowTold t [] c j w
    rows j c l h =
        let none : c ≡ 0 = omega arith in
        rw none
        (record {
          shape = λ x. absurd (omega arith);
          fact = λ e x.
              let zero-e : e ≡ 0 = omega arith in
              rw zero-e (first-told t w p j l ∙ ap (spells (exp_of t j)) (sym (part_none [] 0)));
        })

-- all of it
all-filled : (t : List ℕ) (bounds : Bounds) (s w : List ℕ) → FilledFor t bounds s w → Told t s w
all-filled t bounds s w p = record { fact = λ k d e l h x. (p.rows k d l h).fact e x }

-- small numbers
-- the line from byte i on, as the code lends it
rest_of : (s : List ℕ) (i : ℕ) → take (length s - i) (drop i s) ≡ drop i s
rest_of s i = take_all (length s - i) (drop i s) (omega (arith, length-drop i s))

-- the line's bytes from the last to the first
module _ (t : List ℕ) (bounds : Bounds) (s w : List ℕ) (sized : Sized t s w) where
  pub line-start : EmptyTold t (count t) w → FilledFor t bounds (drop (length s) s) w
  line-start p = rw (drop-length s) (first-filled t bounds w p)

  module _ (v : List ℕ) (size : length v ≡ length w) (i : ℕ) (some : 0 < i) (within : i ≤ length s) where
    shorter-rest : length (drop (i - 1) s) ≡ length s - (i - 1)
    shorter-rest = length-drop (i - 1) s

    pub rest-sized : Sized t (take (length s - (i - 1)) (drop (i - 1) s)) v
    rest-sized =
        rw (rest_of s (i - 1))
        (record {
          passes = sized.passes;
          short = omega (arith, sized.short, shorter-rest);
          room =
              omega (arith, sized.room, size, size-grows (count t) (length (drop (i - 1) s)) (length s) (omega (arith, shorter-rest)));
        })

    pub rest-filled : FilledFor t bounds (drop i s) v → FilledFor t bounds (drop 1 (take (length s - (i - 1)) (drop (i - 1) s))) v
    rest-filled p =
        let sum : i - 1 + 1 ≡ i = omega arith in
        rw (rest_of s (i - 1), drop-drop 1 (i - 1) s, sum) p

  pub line-end : (v : List ℕ) (i : ℕ) → i ≤ 0 → FilledFor t bounds (drop i s) v → Told t s v
  line-end v i l p = let z : i ≡ 0 = omega arith in all-filled t bounds s v (rw z at p)

-- block 0 has its place in the area
pub count_room : (m n l : ℕ) → area_size m n ≤ l → m ≤ l
unfolding area_size tri
count_room m n l h = omega (arith, size-grows m 0 n (omega arith), mul-one m)
