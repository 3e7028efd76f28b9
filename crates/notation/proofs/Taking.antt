-- What each function that takes a word owes: the numbers of the walk still fit their types, and the next state is shown.
-- Assumes nothing.
use Prim.Native.Nat.{ℕ, ◌+◌, ◌-◌, ◌%◌, ◌≤◌}
use mathlib.Core.Path.{◌≡◌, refl, sym, ◌∙◌, ap}
use mathlib.Core.List.{List, [], ◌∷◌}
use native.Mathlib.Omega.{arith}
use borrow.Author.Tests.{eq-eqb, ne_eqb}
use lib.ListN.{length, get_or}
use Rattle.std.specs.Prelude.{Some}
use Rattle.table.specs.Records.{record_bytes}
use Rattle.notation.specs.declared.Walk.{Walk}
use Rattle.notation.specs.declared.Marks.{Marks}
use Rattle.notation.specs.declared.Item.TheVariants.{Absent, Untagged, Tagged}
use Rattle.notation.specs.Trees.{Tree, unit, alt, cat, tag_of}
use Rattle.notation.specs.Decision.{Held, none, some, joined, Frame, frame, row_with, all_with, stop, closed_in, starred, tagged, parted}
use Rattle.notation.specs.Walks.{outer_parts, LastPart, Shows, Took, Fit, stored, tag_stored, join_leaves, join_count, group_item}
use Rattle.notation.proofs.Laying.{joined-some}
use Rattle.notation.proofs.Showing.{mark-none, item-none, item-untagged, untagged-item, item-joins, left-right, row-right}
use Rattle.notation.proofs.Showing.{starred-shown, tagged-shown, parted-shown, closes, group-marked, empty_group}

pub fit-more : (w : Walk) (m n : ℕ) → m ≤ n → Fit w m → Fit w n
fit-more w m n h f =
    record { count_fits = omega (arith, f.count_fits); depth_fits = omega (arith, f.depth_fits); item_counted = f.item_counted }

module _ {fs : List Frame} {l m : Held} {w : Walk} {stack : List Marks} {entry out : List ℕ} where
  -- a tag where there is no item, or one with a tag
  pub tag-stops : (i : Held) (n : ℕ) → Shows fs l m i w stack entry out → ¬ (w.item ≡ Untagged) → tagged fs l m i n ≡ stop
  tag-stops none n s h = refl
  tag-stops (some t) n s h = rw (ne_eqb (tag_of t) 0 (λ e. h (s.item_right ∙ item-untagged t e)))

module _ {fs : List Frame} {l m : Held} {w r : Walk} {stack : List Marks} {entry out out' : List ℕ} where
  -- end_item, where there is an item
  pub item-ended :
      (i : Held) → Shows fs l m i w stack entry out → ¬ (w.item ≡ Absent) → r.count ≡ join_count w.marks.row w.count
      → r.marks ≡ record { left = w.marks.left; row = r.count } → r.item ≡ Absent → r.depth ≡ w.depth
      → out' ≡ join_leaves 4 w.marks.row w.count out
      → Shows fs l (row_with m i) none r stack entry out'
  item-ended none s h c mr i d e = absurd (h s.item_right)
  item-ended (some t) s h c mr i d e = rw e (item-joins s c mr i d)

  -- an asterisk and a bar behind an item
  pub star-taken :
      (i : Held) → Shows fs l m i w stack entry out → ¬ (w.item ≡ Absent) → r.count ≡ w.count + 1 → r.marks ≡ w.marks → r.item ≡ Untagged
      → r.depth ≡ w.depth
      → out' ≡ stored out w.count (record_bytes 5 ((w.count - 1) % 256) 0 0)
      → Took (starred fs l m i) (Some r) stack entry out'
  star-taken none s h c mr i d e = absurd (h s.item_right)
  star-taken (some t) s h c mr i d e = rw e (starred-shown s c mr i d)

  pub bar-taken :
      (i : Held) (n : ℕ) → Shows fs l m i w stack entry out → ¬ (w.item ≡ Absent)
      → ((t : Tree) → Shows fs l m (some t) w stack entry out → LastPart (outer_parts fs) (all_with l m (some t)) n entry out')
      → r.count ≡ n → r.marks ≡ record { left = n; row = 0 } → r.item ≡ Absent → r.depth ≡ w.depth
      → Took (parted fs l m i) (Some r) stack entry out'
  bar-taken none n s h p c mr i d = absurd (h s.item_right)
  bar-taken (some t) n s h p c mr i d =
      let x = joined-some cat m t in
      let y = joined-some alt l x.0 in
      let e : all_with l m (some t) ≡ some y.0 = ap (joined alt l) x.1 ∙ y.1 in
      parted-shown y.0 e (p t s) s.outer s.depth_right c mr i d

  -- a tag behind an item without one
  pub tag-taken :
      (i : Held) (n : ℕ) → 1 ≤ n → Shows fs l m i w stack entry out → w.item ≡ Untagged → r.count ≡ w.count → r.marks ≡ w.marks
      → r.item ≡ Tagged → r.depth ≡ w.depth
      → out' ≡ tag_stored out (w.count - 1) n
      → Took (tagged fs l m i n) (Some r) stack entry out'
  tag-taken none n b s h c mr i d e = let z : Absent ≡ Untagged = sym s.item_right ∙ h in cc
  tag-taken (some t) n b s h c mr i d e =
      rw (eq-eqb (tag_of t) 0 (untagged-item t (sym s.item_right ∙ h)), e) (tagged-shown n b s c mr i d)

-- ) behind an item, and right behind (
module _ {w r : Walk} {stack : List Marks} {entry out out' : List ℕ} {depth : ℕ} where
  pub close-taken :
      (fs : List Frame) (l m i : Held) (n : ℕ) → Shows fs l m i w stack entry out → (1 ≤ w.depth) × (depth ≡ w.depth - 1) → ¬ (w.item ≡ Absent)
      → ((t : Tree) → Shows fs l m (some t) w stack entry out → LastPart (outer_parts fs) (all_with l m (some t)) n entry out')
      → r.count ≡ n → r.marks ≡ get_or stack depth (record { left = 0; row = 0 }) → r.item ≡ group_item w
      → r.depth ≡ depth
      → Took (closed_in fs l m i) (Some r) stack entry out'
  close-taken [] l m i n s d h p c mr g e = absurd (omega (arith, s.depth_right))
  close-taken (frame l' m' ∷ fs) l m none n s d h p c mr g e = absurd (h s.item_right)
  close-taken (frame l' m' ∷ fs) l m (some t) n s d h p c mr g e =
      let at : depth ≡ length fs = omega (arith, s.depth_right) in
      let x = joined-some cat m t in
      let y = joined-some alt l x.0 in
      let f : all_with l m (some t) ≡ some y.0 = ap (joined alt l) x.1 ∙ y.1 in
      closes (p t s) s.outer y.0 f c (rw at at mr) (g ∙ group-marked s) (e ∙ at)

  pub close-empty :
      (fs : List Frame) (l m i : Held) → Shows fs l m i w stack entry out → (1 ≤ w.depth) × (depth ≡ w.depth - 1) → w.item ≡ Absent
      → (w.marks.left ≡ 0) × (w.marks.row ≡ 0)
      → out' ≡ stored out w.count (record_bytes 1 0 0 0)
      → r.count ≡ w.count + 1 → r.marks ≡ get_or stack depth (record { left = 0; row = 0 }) → r.item ≡ Untagged
      → r.depth ≡ depth
      → Took (closed_in fs l m i) (Some r) stack entry out'
  close-empty [] l m i s d h nm e c mr g f = absurd (omega (arith, s.depth_right))
  close-empty (frame l' m' ∷ fs) l m i s d h nm e c mr g f =
      let z : (l ≡ none) × (m ≡ none) × (i ≡ none) =
      (mark-none _ l (sym (left-right s) ∙ nm.0), mark-none _ m (sym (row-right s) ∙ nm.1), item-none i (sym s.item_right ∙ h)) in
      let at : depth ≡ length fs = omega (arith, s.depth_right) in
      let t : Shows (frame l' m' ∷ fs) none none none w stack entry out = rw (z.0, z.1, z.2) at s in
      rw (z.0, z.1, z.2, e) (closes (empty_group t) s.outer (unit 0) refl c (rw at at mr) g (f ∙ at))
