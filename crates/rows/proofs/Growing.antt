-- Laws of one row: what it tells as a run and as marks, and what the functions that let it grow leave.
-- Assumes nothing.
use Prim.Native.Nat.{ℕ, zero, suc, ◌+◌, ◌-◌, ◌≤◌, ◌<◌, min, max}
use native.Mathlib.Nat.{eq-or-lt_of_le}
use native.Mathlib.Omega.{arith}
use mathlib.Core.Path.{◌≡◌, refl, sym, ap, ◌∙◌}
use mathlib.Core.Logic.{◌⊎◌, inl, inr, ⊎_elim}
use mathlib.Core.Bool.{Bool, true, false, not, ◌&&◌, ◌||◌, true≢false}
use mathlib.Core.List.{List}
use lib.Dec.{leb, eqb}
use lib.ListN.{length, get_or, set, length-set}
use lib.Seq.{get_or-set_same, get_or-set_other}
use borrow.Author.Tests.{eq-eqb, ne_eqb, eqb-true, leb-true, le-leb, lt-leb}
use Rattle.std.specs.Prelude.{Option, Some, None}
use Rattle.std.specs.Option.{is_some, option_eq}
use Rattle.std.proofs.lemmas.Option.{MatchOption-at_none, MatchOption-at_some}
use Rattle.posix.proofs.Spells.{either, each, or-second}
use Rattle.rows.specs.Layout.{head_at, row_at, is_set, longest_at, lowest_at, mark_at, in_row, has, tells}
use Rattle.rows.specs.Rows.{Written, joined, RunFrom, RunTold, Inside, Own, Shaped, Growing, Grown, Explicit, Marked, mark_set, in_run, behind_non_empty, Earlier}
use Rattle.rows.specs.Rows.{open_has, Open, WrittenOut}
use Rattle.rows.proofs.Cuts.{same_truth, never_true, below_or}
use Rattle.rows.proofs.Bytes.{set-byte, clear-byte}
use Rattle.rows.proofs.Places.{size-grows, first_head, head-row, lower-row, row_inside, lower_block, head-inside, block-bound, offset-bound, row-formula}

-- Tests.

or-none : (a : Bool) {b : Bool} → b ≡ false → (a || b) ≡ a
or-none true h = refl
or-none false h = h

or-first : {a : Bool} (b : Bool) → a ≡ true → (a || b) ≡ true
or-first b h = rw h

and-turned : (a b : Bool) → (a && b) ≡ (b && a)
and-turned true true = refl
and-turned true false = refl
and-turned false true = refl
and-turned false false = refl

unset-byte : (x : ℕ) → is_set x ≡ false → x ≡ 0
unfolding is_set
unset-byte x h = go (eqb x 0) refl h
  where
    go : (b : Bool) → eqb x 0 ≡ b → not b ≡ false → x ≡ 0
    go true e q = eqb-true x 0 e
    go false e q = absurd (true≢false q)

module _ (low high e : ℕ) where
  pub run_in : low ≤ e → e ≤ high → in_run low high e ≡ true
  run_in l h = rw (le-leb low e l, le-leb e high h)

  pub run-true : in_run low high e ≡ true → (low ≤ e) × (e ≤ high)
  run-true t = let p = each (leb low e) (leb e high) t in (leb-true low e p.0, leb-true e high p.1)

  pub run-low : e < low → in_run low high e ≡ false
  run-low l = never_true (in_run low high e) (λ t. let p = run-true t in omega arith)

  pub run-high : high < e → in_run low high e ≡ false
  run-high l = never_true (in_run low high e) (λ t. let p = run-true t in omega arith)

-- Where a row stands.

module _ {m d k : ℕ} {w : List ℕ} (i : Inside m d k w) where
  pub head-there : head_at m d k < length w
  head-there = omega (arith, head-inside m d k i.known, i.room)

  pub row-there : row_at m d k + d ≤ length w
  row-there = omega (arith, row_inside m d k i.known, i.room)

  pub head-before : head_at m d k < row_at m d k
  head-before = head-row m d k k i.known

  pub row-bound : row_at m d k ≤ 2155839360
  row-bound =
      let l = i.known in
      let f = i.few in
      omega (arith, block-bound m d i.few i.short, offset-bound k d (omega arith) i.short, row-formula m d k)

  -- the headers of block 0 stand in every area
  pub record-there : k < length w
  record-there = omega (arith, i.room, size-grows m 0 d (omega arith), head-inside m 0 k i.known, first_head m k)

-- What a row tells.

pub row-run : (d h l x e : ℕ) → is_set l ≡ true → in_row d h l x e ≡ in_run l h e
unfolding in_row
row-run d h l x e s = rw s (and-turned (leb e h) (leb l e))

pub row-whole : (d h l x : ℕ) → is_set l ≡ false → in_row d h l x d ≡ leb d h
unfolding in_row
row-whole d h l x s = let q : eqb d d ≡ true = eq-eqb d d refl in rw (s, q) (and-turned (leb d h) true)

pub row-mark : (d h l x e : ℕ) → is_set l ≡ false → e < d → e ≤ h → in_row d h l x e ≡ is_set x
unfolding in_row
row-mark d h l x e s b g =
    let q : eqb e d ≡ false = ne_eqb e d (λ z. omega arith) in
    let r : leb e h ≡ true = le-leb e h g in
    rw (s, q, r)

pub row-above : (d h l x e : ℕ) → h < e → in_row d h l x e ≡ false
unfolding in_row
row-above d h l x e g = let r : leb e h ≡ false = lt-leb e h g in rw r

module _ (w : List ℕ) (m d k : ℕ) where
  -- the lowest length is 1 where the header is 0 or 1, and byte 0 of the row otherwise
  pub lowest-one : longest_at w m d k ≤ 1 → lowest_at w m d k ≡ 1
  unfolding lowest_at
  lowest-one l = rw (le-leb (longest_at w m d k) 1 l)

  pub lowest-byte : 1 < longest_at w m d k → lowest_at w m d k ≡ get_or w (row_at m d k) 0
  unfolding lowest_at
  lowest-byte l = rw (lt-leb (longest_at w m d k) 1 l)

  -- a row that is no run has a length above 1
  pub no-run-long : lowest_at w m d k ≡ 0 → 2 ≤ longest_at w m d k
  no-run-long z =
      ⊎_elim
      (λ (l : 1 < longest_at w m d k). omega arith)
      (λ (l : longest_at w m d k ≤ 1). absurd (omega (arith, lowest-one l)))
      (below_or 1 (longest_at w m d k))

  pub no-run-byte : lowest_at w m d k ≡ 0 → get_or w (row_at m d k) 0 ≡ 0
  no-run-byte z = sym (lowest-byte (omega (arith, no-run-long z))) ∙ z

  pub has_above : (e : ℕ) → longest_at w m d k < e → has m w k d e ≡ false
  unfolding has
  has_above e l = row-above d (longest_at w m d k) (lowest_at w m d k) (mark_at w m d k e) e l

  pub has-run : (e : ℕ) → is_set (lowest_at w m d k) ≡ true → has m w k d e ≡ in_run (lowest_at w m d k) (longest_at w m d k) e
  unfolding has
  has-run e s = row-run d (longest_at w m d k) (lowest_at w m d k) (mark_at w m d k e) e s

  pub has-whole : is_set (lowest_at w m d k) ≡ false → has m w k d d ≡ leb d (longest_at w m d k)
  unfolding has
  has-whole s = row-whole d (longest_at w m d k) (lowest_at w m d k) (mark_at w m d k d) s

  pub has-mark : (e : ℕ) → is_set (lowest_at w m d k) ≡ false → e < d → e ≤ longest_at w m d k → has m w k d e ≡ is_set (mark_at w m d k e)
  unfolding has
  has-mark e s b l = row-mark d (longest_at w m d k) (lowest_at w m d k) (mark_at w m d k e) e s b l

  -- the whole block's length is in a row as it is kept exactly where it is the longest
  pub has_end : Shaped m d k w → 1 ≤ d → has m w k d d ≡ leb d (longest_at w m d k)
  has_end p l = go (is_set (lowest_at w m d k)) refl
    where
      go : (b : Bool) → is_set (lowest_at w m d k) ≡ b → has m w k d d ≡ leb d (longest_at w m d k)
      go false s = has-whole s
      go true s =
          has-run d s
          ∙ same_truth (in_run (lowest_at w m d k) (longest_at w m d k) d) (leb d (longest_at w m d k))
          (λ t. le-leb d (longest_at w m d k) (run-true (lowest_at w m d k) (longest_at w m d k) d t).1)
          (λ t.
          let u : d ≤ longest_at w m d k = leb-true d (longest_at w m d k) t in
          let s : longest_at w m d k ≤ d = p.small in
          let o : lowest_at w m d k ≤ longest_at w m d k = p.ordered (omega arith) in
          run_in (lowest_at w m d k) (longest_at w m d k) d (omega arith) u)

-- What `longest` and `lowest` read.

module _ (w : List ℕ) (m d k at x : ℕ) (b : x < 256) (e : x ≡ get_or w at 0) where
  pub longest-read : at ≡ head_at m d k → (x ≡ longest_at w m d k) × (x < 256)
  unfolding longest_at
  longest-read p = ((rw (← p) e), b)

  lowest-read : at ≡ row_at m d k → 1 < longest_at w m d k → x ≡ lowest_at w m d k
  lowest-read p l = rw (lowest-byte w m d k l, ← p) e

  pub lowest-none : at ≡ row_at m d k → 1 < longest_at w m d k → x ≡ 0 → lowest_at w m d k ≡ 0
  lowest-none p l z = sym (lowest-read p l) ∙ z

  pub lowest-some : at ≡ row_at m d k → 1 < longest_at w m d k → ¬ (x ≡ 0) → RunFrom w m d k x
  lowest-some p l n = record { lowest = lowest-read p l; positive = omega arith; byte = b }

-- What the lowest length of a row's run says, where it is looked at as an option.

module _ (w : List ℕ) (m d k : ℕ) (low : Option ℕ) (told : RunTold w m d k low) where
  pub told-none : low ≡ None → lowest_at w m d k ≡ 0
  told-none e = MatchOption-at_none (lowest_at w m d k ≡ 0) (RunFrom w m d k) e told

  pub told-some : (x : ℕ) → low ≡ Some x → RunFrom w m d k x
  told-some x e = MatchOption-at_some (lowest_at w m d k ≡ 0) (RunFrom w m d k) x e told

  -- it stays where the row's lowest length does
  pub told-kept : (w' : List ℕ) → lowest_at w' m d k ≡ lowest_at w m d k → RunTold w' m d k low
  told-kept w' e = go low told
    where
      go : (o : Option ℕ) → RunTold w m d k o → RunTold w' m d k o
      go None z = e ∙ z
      go (Some x) r = record { lowest = r.lowest ∙ sym e; positive = r.positive; byte = r.byte }

  pub told-no_run : false ≡ is_some low → lowest_at w m d k ≡ 0
  told-no_run e = told-none (none low (sym e))
    where
      none : (o : Option ℕ) → is_some o ≡ false → o ≡ None
      none None h = refl
      none (Some x) h = absurd (true≢false h)

  pub told-same : (x : ℕ) → true ≡ option_eq eqb low (Some x) → RunFrom w m d k x
  told-same x e = told-some x (same low (sym e))
    where
      same : (o : Option ℕ) → option_eq eqb o (Some x) ≡ true → o ≡ Some x
      same None h = absurd (true≢false (sym h))
      same (Some y) h = ap Some (eqb-true y x h)

-- What `tell` returns.

module _ (w : List ℕ) (m k d e : ℕ) where
  pub told-empty : e ≡ 0 → not (eqb (get_or w k 0) 0) ≡ tells m w k d e
  unfolding tells is_set
  told-empty z = rw (z, first_head m k)

  pub tells-has : 1 ≤ e → tells m w k d e ≡ has m w k d e
  unfolding tells
  tells-has l = go e l
    where
      go : (x : ℕ) → 1 ≤ x → tells m w k d x ≡ has m w k d x
      go zero h = absurd (omega arith)
      go (suc x) h = refl

  module _ (h : ℕ) (one : ¬ (e ≡ 0)) (eh : h ≡ longest_at w m d k) where
    pub told-above : h < e → false ≡ tells m w k d e
    told-above l = sym (tells-has (omega arith) ∙ has_above w m d k e (omega arith))

    pub told-run : (low : ℕ) → low ≡ lowest_at w m d k → 1 ≤ low → e ≤ h → leb low e ≡ tells m w k d e
    told-run low el n l =
        let s : is_set (lowest_at w m d k) ≡ true = set-byte (lowest_at w m d k) (λ (z : lowest_at w m d k ≡ 0). omega arith) in
        let t : leb e (longest_at w m d k) ≡ true = le-leb e (longest_at w m d k) (omega arith) in
        rw el (sym (tells-has (omega arith) ∙ has-run w m d k e s ∙ and-turned (leb (lowest_at w m d k) e) (leb e (longest_at w m d k)) ∙ rw t))

    pub told-whole : lowest_at w m d k ≡ 0 → e ≤ h → e ≡ d → true ≡ tells m w k d e
    told-whole z l q =
        let s : is_set (lowest_at w m d k) ≡ false = clear-byte (lowest_at w m d k) z in
        let t : leb d (longest_at w m d k) ≡ true = le-leb d (longest_at w m d k) (omega arith) in
        sym (tells-has (omega arith) ∙ (rw q (has-whole w m d k s)) ∙ t)

    pub told-mark : (at : ℕ) → at ≡ row_at m d k → lowest_at w m d k ≡ 0 → e ≤ h → e < d
        → not (eqb (get_or w (at + e) 0) 0) ≡ tells m w k d e
    unfolding is_set mark_at
    told-mark at ea z l b =
        let s : is_set (lowest_at w m d k) ≡ false = clear-byte (lowest_at w m d k) z in
        rw ea (sym (tells-has (omega arith) ∙ has-mark w m d k e s b (omega arith)))

-- Marks.

module _ (m d k low high : ℕ) (w : List ℕ) (below : 1 ≤ low) where
  -- ones from `low` up to `high`, or to the end of the row
  pub marked-put : (at end : ℕ) (w' : List ℕ) → at ≡ row_at m d k + low → end ≡ min (high + 1) d → low < end
      → Written (λ i. is_set 1) at (end - low) w w'
      → Marked m d k (λ e. mark_set m w k d e || in_run low high e) w w'
  unfolding mark_at
  marked-put at end w' ea ee l p =
      record {
        size = p.size;
        before = λ i h. p.before i (omega arith);
        after = λ i h. p.after i (omega arith);
        marks = λ e x y.
            ⊎_elim
            (λ (q : e < low).
            ap is_set (p.before (row_at m d k + e) (omega arith))
            ∙ sym (or-none (is_set (get_or w (row_at m d k + e) 0)) (run-low low high e q)))
            (λ (q : low ≤ e).
            ⊎_elim
            (λ (r : e < end).
            let place : at + (e - low) ≡ row_at m d k + e = omega arith in
            let one : is_set 1 ≡ true = set-byte 1 (λ z. omega arith) in
            (rw place at (p.inside (e - low) (omega arith)))
            ∙ one
            ∙ sym (or-second (is_set (get_or w (row_at m d k + e) 0)) (run_in low high e q (omega arith))))
            (λ (r : end ≤ e).
            ap is_set (p.after (row_at m d k + e) (omega arith))
            ∙ sym (or-none (is_set (get_or w (row_at m d k + e) 0)) (run-high low high e (omega arith))))
            (below_or e end))
            (below_or e low);
      }

  -- none where they end before `low`
  pub marked-none : (end : ℕ) → end ≡ min (high + 1) d → end ≤ low
      → Marked m d k (λ e. mark_set m w k d e || in_run low high e) w w
  marked-none end ee l =
      record {
        size = refl;
        before = λ i h. refl;
        after = λ i h. refl;
        marks = λ e x y.
            sym
            (or-none (is_set (mark_at w m d k e))
            (never_true (in_run low high e) (λ t. let p = run-true low high e t in omega arith)));
      }

-- a row of zeros that is then marked is written out
pub explicit-of : (m d k low high at : ℕ) (w v u : List ℕ) → 1 ≤ d → at ≡ row_at m d k → Written (λ i. is_set 0) at d w v
    → Marked m d k (λ e. mark_set m v k d e || in_run low high e) v u
    → Explicit m d k (in_run low high) w u
unfolding mark_at
explicit-of m d k low high at w v u l ea p q =
    let nought : is_set 0 ≡ false = clear-byte 0 refl in
    record {
      size = q.size ∙ p.size;
      before = λ i h. q.before i (omega arith) ∙ p.before i (omega arith);
      after = λ i h. q.after i h ∙ p.after i (omega arith);
      no_run =
          let place : at + 0 ≡ row_at m d k = omega arith in
          q.before (row_at m d k) (omega arith)
          ∙ unset-byte (get_or v (row_at m d k) 0) ((rw place at (p.inside 0 (omega arith))) ∙ nought);
      marks = λ e x y.
          let place : is_set (get_or v (row_at m d k + e) 0) ≡ false = (rw ea at (p.inside e y)) ∙ nought in
          q.marks e x y ∙ rw place;
    }

module _ {m d k : ℕ} where
  -- a row that is written out, said in another way
  pub explicit-same : {f g : ℕ → Bool} {w w' : List ℕ} → Explicit m d k f w w' → ((e : ℕ) → 1 ≤ e → e < d → f e ≡ g e)
      → Explicit m d k g w w'
  explicit-same p h =
      record {
        size = p.size;
        before = p.before;
        after = p.after;
        no_run = p.no_run;
        marks = λ e x y. p.marks e x y ∙ h e x y;
      }

  -- more marks
  pub explicit-marked : {f : ℕ → Bool} (g : ℕ → Bool) {w v u : List ℕ} → Explicit m d k f w v → Marked m d k (λ e. mark_set m v k d e || g e) v u
      → Explicit m d k (λ e. f e || g e) w u
  explicit-marked g p q =
      record {
        size = q.size ∙ p.size;
        before = λ i h. q.before i (omega arith) ∙ p.before i h;
        after = λ i h. q.after i h ∙ p.after i h;
        no_run = q.before (row_at m d k) (omega arith) ∙ p.no_run;
        marks = λ e x y. q.marks e x y ∙ ap (λ (b : Bool). b || g e) (p.marks e x y);
      }

  pub grown-same : {f g : ℕ → Bool} {w w' : List ℕ} → Grown m d k f w w' → ((e : ℕ) → 1 ≤ e → e ≤ d → f e ≡ g e) → Grown m d k g w w'
  grown-same p h = record { size = p.size; kept = p.kept; shape = p.shape; facts = λ e x y. p.facts e x y ∙ h e x y }

-- A row that is written out: h is its longest length.

module _ (m : ℕ) (w : List ℕ) (k d h : ℕ) where
  pub open_above : (e : ℕ) → h < e → open_has m w k d h e ≡ false
  open_above e l = row-above d h 0 (mark_at w m d k e) e l

  pub open-whole : open_has m w k d h d ≡ leb d h
  open-whole = row-whole d h 0 (mark_at w m d k d) (clear-byte 0 refl)

  pub open-mark : (e : ℕ) → e < d → e ≤ h → open_has m w k d h e ≡ is_set (mark_at w m d k e)
  open-mark e l x = row-mark d h 0 (mark_at w m d k e) e (clear-byte 0 refl) l x

  -- its marks tell what it has
  open-explicit : Open m d k h w → Explicit m d k (open_has m w k d h) w w
  open-explicit p =
      record {
        size = refl;
        before = λ i l. refl;
        after = λ i l. refl;
        no_run = p.no_run;
        marks = λ e x y.
            ⊎_elim
            (λ (q : h < e). p.clean e q y ∙ sym (open_above e q))
            (λ (q : e ≤ h). sym (open-mark e y q))
            (below_or h e);
      }

module _ {m d k h : ℕ} {w : List ℕ} (z : WrittenOut m d k h w) where
  -- with its header it has just that
  pub written_has : (e : ℕ) → open_has m w k d h e ≡ has m w k d e
  unfolding has
  written_has e = rw (z.long, z.no_run)

  pub written-long : 2 ≤ h
  written-long = rw z.long (no-run-long w m d k z.no_run)

  pub written-open : Growing m d k w → Open m d k h w
  written-open g =
      record {
        inside = g.inside;
        some_byte = g.some_byte;
        no_run = no-run-byte w m d k z.no_run;
        small = rw z.long g.shape.small;
        clean = λ e x y. g.shape.clean (clear-byte (lowest_at w m d k) z.no_run) e (omega (arith, z.long)) y;
      }

-- What `without_run` leaves.

module _ {m d k : ℕ} {w : List ℕ} (g : Growing m d k w) where
  -- a row that is no run is written out already
  pub without-none : lowest_at w m d k ≡ 0 → Explicit m d k (has m w k d) w w
  without-none z =
      let o : WrittenOut m d k (longest_at w m d k) w = record { long = refl; no_run = z } in
      explicit-same (open-explicit m w k d (longest_at w m d k) (written-open o g)) (λ e x y. written_has o e)

  pub without-some : (low h : ℕ) {w' : List ℕ} → low ≡ lowest_at w m d k → h ≡ longest_at w m d k → 1 ≤ low
      → Explicit m d k (in_run low h) w w'
      → Explicit m d k (has m w k d) w w'
  without-some low h el eh n p =
      explicit-same p
      (λ e x y. rw (el, eh) (sym (has-run w m d k e (set-byte (lowest_at w m d k) (λ (z : lowest_at w m d k ≡ 0). omega arith)))))

-- A row that is written out and whose header is raised.

-- what is not of the row stays where it is written out
pub explicit-kept : {m d k : ℕ} {f : ℕ → Bool} {w v : List ℕ} → Explicit m d k f w v → (i : ℕ) → ¬ (Own m d k i) → get_or v i 0 ≡ get_or w i 0
explicit-kept {m} {d} {k} p i n =
    ⊎_elim
    (λ (l : i < row_at m d k). p.before i l)
    (λ (l : row_at m d k ≤ i).
    ⊎_elim
    (λ (r : i < row_at m d k + d). absurd (n (inr (l, r))))
    (λ (r : row_at m d k + d ≤ i). p.after i r)
    (below_or i (row_at m d k + d)))
    (below_or i (row_at m d k))

-- the lengths of g, of which x is the longest, have been marked, and the header is raised to the larger of h and x
raised : {m d k h : ℕ} (g : ℕ → Bool) {w v : List ℕ} → Open m d k h w → Explicit m d k (λ e. open_has m w k d h e || g e) w v
    → (at x top : ℕ)
    → at ≡ head_at m d k
    → top ≡ max h x
    → 2 ≤ top
    → x ≤ d
    → ((e : ℕ) → x < e → e ≤ d → g e ≡ false)
    → (d ≤ x → g d ≡ true)
    → (Grown m d k (λ e. open_has m w k d h e || g e) w (set v at top)) × (WrittenOut m d k top (set v at top))
unfolding longest_at mark_at
raised {m} {d} {k} {h} g {w} {v} o p at x top ea et two small above last =
    let room : at < length v = omega (arith, head-there o.inside, p.size) in
    let front : at < row_at m d k = omega (arith, head-before o.inside) in
    let within : top ≤ d = omega (arith, o.small) in
    let long : longest_at (set v at top) m d k ≡ top = rw (← ea) (get_or-set_same v at top 0 room) in
    let other : (j : ℕ) → row_at m d k ≤ j → get_or (set v at top) j 0 ≡ get_or v j 0 =
    λ j l. get_or-set_other v at j top 0 (λ q. omega arith) in
    let low : lowest_at (set v at top) m d k ≡ 0 =
    lowest-byte (set v at top) m d k (omega arith) ∙ other (row_at m d k) (omega arith) ∙ p.no_run in
    let none : is_set (lowest_at (set v at top) m d k) ≡ false = clear-byte (lowest_at (set v at top) m d k) low in
    let mark : (e : ℕ) → 1 ≤ e → e < d → is_set (mark_at (set v at top) m d k e) ≡ (open_has m w k d h e || g e) =
    λ e a b. ap is_set (other (row_at m d k + e) (omega arith)) ∙ p.marks e a b in
    let beyond : (e : ℕ) → top < e → e ≤ d → (open_has m w k d h e || g e) ≡ false =
    λ e a b. or-none (open_has m w k d h e) (above e (omega arith) b) ∙ open_above m w k d h e (omega arith) in
    let whole : leb d top ≡ (open_has m w k d h d || g d) =
    ⊎_elim
    (λ (l : x < d).
    same_truth (leb d top) (leb d h)
    (λ t. let z : d ≤ top = leb-true d top t in le-leb d h (omega arith))
    (λ t. let z : d ≤ h = leb-true d h t in le-leb d top (omega arith))
    ∙ sym (or-none (open_has m w k d h d) (above d l (omega arith)) ∙ open-whole m w k d h))
    (λ (l : d ≤ x). le-leb d top (omega arith) ∙ sym (or-second (open_has m w k d h d) (last l)))
    (below_or x d) in (
      record {
        size = simp length-set p.size;
        kept = λ j n. get_or-set_other v at j top 0 (λ q. n (inl (omega arith))) ∙ explicit-kept p j n;
        shape =
            record {
              small = omega arith;
              ordered = λ l. omega arith;
              clean = λ z e a b. mark e (omega arith) b ∙ beyond e (omega arith) (omega arith);
            };
        facts = λ e a b.
            ⊎_elim
            (λ (q : e < d).
            ⊎_elim
            (λ (r : top < e). has_above (set v at top) m d k e (omega arith) ∙ sym (beyond e r b))
            (λ (r : e ≤ top). has-mark (set v at top) m d k e none q (omega arith) ∙ mark e a q)
            (below_or top e))
            (λ (q : d ≤ e).
            let same : e ≡ d = omega arith in
            rw same (has-whole (set v at top) m d k none ∙ rw long whole))
            (below_or e d);
      },
      record { long = sym long; no_run = low },
    )

-- What `raise_run` leaves.
pub marks-added : {m d k h : ℕ} {w v : List ℕ} → Open m d k h w → (low high at top : ℕ)
    → Marked m d k (λ e. mark_set m w k d e || in_run low high e) w v
    → (1 ≤ low) × (low ≤ high) × (high ≤ d)
    → (2 ≤ high) ⊎ (2 ≤ h)
    → at ≡ head_at m d k
    → top ≡ max h high
    → (Grown m d k (λ e. open_has m w k d h e || in_run low high e) w (set v at top)) × (WrittenOut m d k top (set v at top))
marks-added {m} {d} {k} {h} {w} o low high at top q b two ea et =
    raised (in_run low high) o (explicit-marked (in_run low high) (open-explicit m w k d h o) q) at high top ea et
    (⊎_elim (λ (l : 2 ≤ high). omega arith) (λ (l : 2 ≤ h). omega arith) two)
    (omega arith)
    (λ e x y. run-high low high e x)
    (λ x. run_in low high d (omega arith) x)

-- What `set_run` leaves.
pub run-set : {m d k : ℕ} {w : List ℕ} → Inside m d k w → (low high head at : ℕ) → (1 ≤ low) × (low ≤ high) × (high ≤ d)
    → head ≡ head_at m d k
    → at ≡ row_at m d k
    → Grown m d k (in_run low high) w (set (set w head high) at low)
unfolding longest_at
run-set {m} {d} {k} {w} i low high head at b eh ea =
    let front : head < at = omega (arith, head-before i) in
    let room : at < length (set w head high) = simp length-set (omega (arith, row-there i)) in
    let long : longest_at (set (set w head high) at low) m d k ≡ high =
    rw (← eh) (get_or-set_other (set w head high) at head low 0 (λ q. omega arith) ∙ get_or-set_same w head high 0 (omega (arith, head-there i))) in
    let lowest : lowest_at (set (set w head high) at low) m d k ≡ low =
    ⊎_elim
    (λ (l : 1 < high).
    lowest-byte (set (set w head high) at low) m d k (omega arith)
    ∙ (rw (← ea) (get_or-set_same (set w head high) at low 0 room)))
    (λ (l : high ≤ 1).
    let one : low ≡ 1 = omega arith in
    lowest-one (set (set w head high) at low) m d k (omega arith) ∙ sym one)
    (below_or 1 high) in
    let some : is_set (lowest_at (set (set w head high) at low) m d k) ≡ true =
    set-byte (lowest_at (set (set w head high) at low) m d k) (λ z. omega arith) in
    record {
      size = simp length-set;
      kept = λ j n.
          get_or-set_other (set w head high) at j low 0 (λ q. n (inr (omega arith, omega arith)))
          ∙ get_or-set_other w head j high 0 (λ q. n (inl (omega arith)));
      shape =
          record {
            small = omega arith;
            ordered = λ l. omega arith;
            clean = λ z e x y. absurd (true≢false (sym some ∙ z));
          };
      facts = λ e x y. has-run (set (set w head high) at low) m d k e some ∙ rw (lowest, long);
    }

-- What `add_run` leaves.

module _ {m d k : ℕ} {w : List ℕ} (h low high : ℕ) (eh : h ≡ longest_at w m d k) where
  -- of a row without lengths
  pub run-first : {w' : List ℕ} → h ≡ 0 → Grown m d k (in_run low high) w w' → Grown m d k (λ e. has m w k d e || in_run low high e) w w'
  run-first z p =
      grown-same p
      (λ e x y. let n : has m w k d e ≡ false = has_above w m d k e (omega arith) in rw n)

  -- of a run that the new lengths touch
  pub run-joined : {w' : List ℕ} (l bottom top : ℕ) → l ≡ lowest_at w m d k → 1 ≤ l → low ≤ h + 1 → l ≤ high + 1
      → Shaped m d k w
      → ¬ (h ≡ 0)
      → low ≤ high
      → bottom ≡ min l low
      → top ≡ max h high
      → Grown m d k (in_run bottom top) w w'
      → Grown m d k (λ e. has m w k d e || in_run low high e) w w'
  run-joined l bottom top el n x y shape some order eb et p =
      let turned : l ≤ h = rw (el, eh) (shape.ordered (omega arith)) in
      grown-same p
      (λ e a b.
      let run : has m w k d e ≡ in_run l h e = rw (el, eh) (has-run w m d k e (set-byte (lowest_at w m d k) (λ (z : lowest_at w m d k ≡ 0). omega arith))) in
      rw run
      (same_truth (in_run bottom top e) (in_run l h e || in_run low high e)
      (λ t.
      let r = run-true bottom top e t in
      ⊎_elim
      (λ (q : e < l). or-second (in_run l h e) (run_in low high e (omega arith) (omega arith)))
      (λ (q : l ≤ e).
      ⊎_elim
      (λ (s : h < e). or-second (in_run l h e) (run_in low high e (omega arith) (omega arith)))
      (λ (s : e ≤ h). or-first (in_run low high e) (run_in l h e q s))
      (below_or h e))
      (below_or e l))
      (λ t.
      ⊎_elim
      (λ (q : in_run l h e ≡ true). let r = run-true l h e q in run_in bottom top e (omega arith) (omega arith))
      (λ (q : in_run low high e ≡ true). let r = run-true low high e q in run_in bottom top e (omega arith) (omega arith))
      (either (in_run l h e) (in_run low high e) t))))

-- What `raise_row` needs and leaves.

module _ {m d k s p : ℕ} {w : List ℕ} (i : Inside m d k w) (r : Earlier m d k s p w) where
  pub earlier-inside : Inside m p s w
  earlier-inside =
      record {
        few = i.few;
        short = omega (arith, i.short, r.within);
        known = r.known;
        room = omega (arith, i.room, size-grows m p d r.within);
      }

  pub earlier-row : row_at m p s + p ≤ row_at m d k
  earlier-row = go r.before
    where
      lower : p < d → row_at m p s + p ≤ row_at m d k
      lower l = omega (arith, row_inside m p s r.known, lower_block m p d k l, head-row m d k k i.known)

      go : (p < d) ⊎ (s < k) → row_at m p s + p ≤ row_at m d k
      go (inl l) = lower l
      go (inr l) = same (eq-or-lt_of_le r.within)
        where
          same : (p ≡ d) ⊎ (p < d) → row_at m p s + p ≤ row_at m d k
          same (inl q) = rw q (lower-row m d s k l)
          same (inr q) = lower q

behind-low : (m : ℕ) (w : List ℕ) (s d p e : ℕ) → e < d - p + 1 → behind_non_empty m w s d p e ≡ false
behind-low m w s d p e l = let n : leb (d - p + 1) e ≡ false = lt-leb (d - p + 1) e l in rw n

behind-in : (m : ℕ) (w : List ℕ) (s d p e : ℕ) → d - p + 1 ≤ e → behind_non_empty m w s d p e ≡ has m w s p (e - (d - p))
behind-in m w s d p e l = let n : leb (d - p + 1) e ≡ true = le-leb (d - p + 1) e l in rw n

module _ {m d k s p h : ℕ} {w : List ℕ} (o : Open m d k h w) (r : Earlier m d k s p w) (one : 1 ≤ p)
    (none : is_set (lowest_at w m p s) ≡ false) where
  no-run-there : lowest_at w m p s ≡ 0
  no-run-there = unset-byte (lowest_at w m p s) none

  explicit-joined : {v : List ℕ} (to from : ℕ) → to ≡ row_at m d k + (d - p) + 1 → from ≡ row_at m p s + 1
      → Written (joined w to from) to (p - 1) w v
      → Explicit m d k (λ e. open_has m w k d h e || behind_non_empty m w s d p e) w v
  unfolding mark_at
  explicit-joined {v} to from et ef z =
      let within : p ≤ d = r.within in
      let q : Explicit m d k (open_has m w k d h) w w = open-explicit m w k d h o in
      let there : Growing m p s w = record { inside = earlier-inside o.inside r; some_byte = one; shape = r.shape one } in
      record {
        size = z.size;
        before = λ i l. z.before i (omega arith);
        after = λ i l. z.after i (omega arith);
        no_run = z.before (row_at m d k) (omega arith) ∙ o.no_run;
        marks = λ e x y.
            ⊎_elim
            (λ (l : e < d - p + 1).
            ap is_set (z.before (row_at m d k + e) (omega arith))
            ∙ q.marks e x y
            ∙ sym (or-none (open_has m w k d h e) (behind-low m w s d p e l)))
            (λ (l : d - p + 1 ≤ e).
            let to-place : to + (e - (d - p + 1)) ≡ row_at m d k + e = omega arith in
            let from_place : from + (e - (d - p + 1)) ≡ row_at m p s + (e - (d - p)) = omega arith in
            let source : is_set (get_or w (row_at m p s + (e - (d - p))) 0) ≡ behind_non_empty m w s d p e =
            (without-none there no-run-there).marks (e - (d - p)) (omega arith) (omega arith)
            ∙ sym (behind-in m w s d p e l) in
            (rw (to-place, from_place) at (z.inside (e - (d - p + 1)) (omega arith)))
            ∙ rw (q.marks e x y, source))
            (below_or e (d - p + 1));
      }

  pub marks-joined : {v : List ℕ} (high to from at top : ℕ) → high ≡ longest_at w m p s → to ≡ row_at m d k + (d - p) + 1
      → from ≡ row_at m p s + 1
      → Written (joined w to from) to (p - 1) w v
      → at ≡ head_at m d k
      → top ≡ max h (d - p + high)
      → (Grown m d k (λ e. open_has m w k d h e || behind_non_empty m w s d p e) w (set v at top)) × (WrittenOut m d k top (set v at top))
  marks-joined high to from at top eh et ef z ea etop =
      let within : p ≤ d = r.within in
      let small : longest_at w m p s ≤ p = (r.shape one).small in
      let long : 2 ≤ longest_at w m p s = no-run-long w m p s no-run-there in
      raised (behind_non_empty m w s d p) o (explicit-joined to from et ef z) at (d - p + high) top ea etop (omega arith) (omega arith)
      (λ e x y. behind-in m w s d p e (omega arith) ∙ has_above w m p s (e - (d - p)) (omega arith))
      (λ x.
      let back : d - (d - p) ≡ p = omega arith in
      behind-in m w s d p d (omega arith)
      ∙ rw back (has-whole w m p s none ∙ le-leb p (longest_at w m p s) (omega arith)))
