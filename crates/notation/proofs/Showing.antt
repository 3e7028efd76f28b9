-- What each word does to a walk and to the buffers, against what it does to the state of the decision.
-- Assumes nothing.
use Prim.Native.Nat.{ℕ, ◌+◌, ◌-◌, ◌%◌, ◌≤◌, ◌<◌}
use mathlib.Core.Path.{◌≡◌, refl, sym, ◌∙◌, ap, subst}
use mathlib.Core.Bool.{Bool, true, false, cond, not, ◌&&◌}
use mathlib.Core.List.{List, [], ◌∷◌, ◌++◌, append-nil}
use native.Mathlib.Omega.{arith}
use borrow.Author.Tests.{eq-eqb, ne_eqb, eqb-true, not-true, not-false}
use lib.Dec.{eqb}
use lib.ListN.{length, get_or, set, length-set}
use lib.Seq.{get_or-set_same, get_or-set_other}
use borrow.Author.Rules.{rules}
use denote.Enum.Bare.{sameb, same_true}
use Rattle.table.specs.Records.{record_bytes}
use Rattle.table.proofs.Passing.{and_both}
use Rattle.notation.specs.declared.Walk.{Walk}
use Rattle.notation.specs.declared.Marks.{Marks}
use Rattle.notation.specs.declared.Item.{Item}
use Rattle.notation.specs.declared.Item.TheVariants.{Absent, Untagged, Tagged}
use Rattle.notation.specs.contracts.Item.{the_type}
use Rattle.notation.specs.Trees.{Tree, unit, range, cat, many, tag_of, with_tag}
use Rattle.notation.specs.Tables.{size, records_from}
use Rattle.notation.specs.Decision.{Held, none, some, Frame, frame, row_with, all_with}
use Rattle.notation.specs.Walks.{held, outer_parts, parts, total, mark_of, item_of, Marked, Laid, LastPart, Shows}
use Rattle.notation.specs.Walks.{stored, tag_stored, join_leaves, join_count, group_item}
use Rattle.notation.proofs.Records.{size-tag, tag-of-with}
use Rattle.notation.proofs.Laying.{cat-joins, alt-joins, joins, joined-some, mark-total, total-last, leaf-laid, star-laid, laid-tagged}

-- what the tests of an item and of the marks say
same-self : (x : Item) → sameb the_type x x ≡ false → ⊥
same-self Absent e = cc
same-self Untagged e = cc
same-self Tagged e = cc

module _ (x y : Item) {b : Bool} where
  pub is_item : b ≡ sameb the_type x y → b ≡ true → x ≡ y
  is_item e f = same_true the_type (search rules) x y (sym e ∙ f)

  pub is-not_item : b ≡ sameb the_type x y → b ≡ false → ¬ (x ≡ y)
  is-not_item e f g = same-self y (rw g at (sym e ∙ f))

  pub not-other_item : b ≡ not (sameb the_type x y) → b ≡ false → x ≡ y
  not-other_item e f = same_true the_type (search rules) x y (not-false _ (sym e ∙ f))

  pub other_item : b ≡ not (sameb the_type x y) → b ≡ true → ¬ (x ≡ y)
  other_item e f g = same-self y (rw g at (not-true _ (sym e ∙ f)))

pub no-marks : (l r : ℕ) {b : Bool} → b ≡ not (eqb l 0 && eqb r 0) → b ≡ false → (l ≡ 0) × (r ≡ 0)
no-marks l r e f =
    let h : (eqb l 0 ≡ true) × (eqb r 0 ≡ true) = and_both _ _ (not-false _ (sym e ∙ f)) in
    (eqb-true l 0 h.0, eqb-true r 0 h.1)

-- there is a mark, or an item, just where a part is held
pub mark-none : (k : ℕ) (h : Held) → mark_of k h ≡ 0 → h ≡ none
mark-none k none e = refl
mark-none k (some t) e = absurd (omega arith)

pub item-none : (h : Held) → item_of h ≡ Absent → h ≡ none
item-none none e = refl
item-none (some t) e = go (eqb (tag_of t) 0) e
  where
    go : (b : Bool) → cond b Untagged Tagged ≡ Absent → some t ≡ none
    go true f = cc
    go false f = cc

-- an item is Untagged just where its root has no tag
pub item-untagged : (t : Tree) → tag_of t ≡ 0 → item_of (some t) ≡ Untagged
item-untagged t e = rw (eq-eqb (tag_of t) 0 e)

pub untagged-item : (t : Tree) → item_of (some t) ≡ Untagged → tag_of t ≡ 0
untagged-item t e = go (eqb (tag_of t) 0) refl e
  where
    go : (b : Bool) → eqb (tag_of t) 0 ≡ b → cond b Untagged Tagged ≡ Untagged → tag_of t ≡ 0
    go true f g = eqb-true (tag_of t) 0 f
    go false f g = cc

item-tagged : (t : Tree) → ¬ (tag_of t ≡ 0) → item_of (some t) ≡ Tagged
item-tagged t e = rw (ne_eqb (tag_of t) 0 e)

-- the array of the marks of the open parentheses, and these marks after a store behind them
pub marked-long : (fs : List Frame) (stack : List Marks) → Marked fs stack → length stack ≡ 4096
marked-long [] stack m = m
marked-long (frame l r ∷ fs) stack m = marked-long fs stack m.1

marked-set : (fs : List Frame) (stack : List Marks) (i : ℕ) (x : Marks) → length fs ≤ i → Marked fs stack → Marked fs (set stack i x)
marked-set [] stack i x h m = length-set stack i x ∙ m
marked-set (frame l r ∷ fs) stack i x h m =
    (get_or-set_other stack i (length fs) x _ (omega arith) ∙ m.0, marked-set fs stack i x (omega arith) m.1)

module _ {fs : List Frame} {l m : Held} {w : Walk} {stack : List Marks} {entry out : List ℕ} where
  -- the marks one by one
  pub left-right : {i : Held} → Shows fs l m i w stack entry out → w.marks.left ≡ mark_of (total (outer_parts fs)) l
  left-right s = ap (λ (x : Marks). x.left) s.marks_right

  pub row-right : {i : Held} → Shows fs l m i w stack entry out → w.marks.row ≡ mark_of (total (outer_parts fs ++ held l)) m
  row-right s = ap (λ (x : Marks). x.row) s.marks_right

  module _ {t : Tree} (s : Shows fs l m (some t) w stack entry out) where
    -- the last item joins the row
    row-joined :
        LastPart (outer_parts fs ++ held l) (row_with m (some t)) (join_count w.marks.row w.count) entry (join_leaves 4 w.marks.row w.count out)
    row-joined = joins cat-joins (outer_parts fs ++ held l) t entry out w.marks.row w.count m s.laid (row-right s) s.count_right

    pub item-joins :
        {r : Walk} → r.count ≡ join_count w.marks.row w.count → r.marks ≡ record { left = w.marks.left; row = r.count }
        → r.item ≡ Absent → r.depth ≡ w.depth
        → Shows fs l (row_with m (some t)) none r stack entry (join_leaves 4 w.marks.row w.count out)
    item-joins {r} c mr i d =
        let x = joined-some cat m t in
        let a : w.marks.left ≡ mark_of (total (outer_parts fs)) l = left-right s in
        let b : r.count ≡ mark_of (total (outer_parts fs ++ held l)) (row_with m (some t)) = c ∙ row-joined.mark_right in
        record {
          count_right =
              b ∙ ap (mark_of (total (outer_parts fs ++ held l))) x.1 ∙ mark-total (outer_parts fs ++ held l) x.0 ∙ rw (append-nil, x.1);
          marks_right = mr ∙ rw (a, b);
          item_right = i;
          depth_right = d ∙ s.depth_right;
          outer = s.outer;
          laid = rw append-nil row-joined.laid;
        }

    -- and the row the alternatives
    pub row-joins :
        LastPart (outer_parts fs) (all_with l m (some t)) (join_count w.marks.left (join_count w.marks.row w.count)) entry
        (join_leaves 3 w.marks.left (join_count w.marks.row w.count) (join_leaves 4 w.marks.row w.count out))
    row-joins =
        let x = joined-some cat m t in
        let y : LastPart (outer_parts fs ++ held l) (some x.0) (join_count w.marks.row w.count) entry (join_leaves 4 w.marks.row w.count out) =
        subst
        (λ (h : Held).
        LastPart (outer_parts fs ++ held l) h (join_count w.marks.row w.count) entry (join_leaves 4 w.marks.row w.count out))
        x.1 row-joined in
        rw x.1
        (joins alt-joins (outer_parts fs) x.0 entry (join_leaves 4 w.marks.row w.count out) w.marks.left (join_count w.marks.row w.count) l y.laid
        (left-right s) (y.mark_right ∙ mark-total (outer_parts fs ++ held l) x.0))

-- a leaf as the next item
pub leaf-added :
    {fs : List Frame} {l m : Held} {w : Walk} {stack : List Marks} {entry out : List ℕ} (x : Tree) (kind a b : ℕ) → size x ≡ 1
    → ((k : ℕ) → records_from k x ≡ record_bytes kind a b 0)
    → Shows fs l m none w stack entry out
    → Laid (parts fs l m (some x)) entry (stored out w.count (record_bytes kind a b 0))
leaf-added {fs} {l} {m} {w} {stack} {entry} {out} x kind a b n e s =
    let ts : List Tree = outer_parts (frame l m ∷ fs) in
    let c : w.count ≡ total ts = s.count_right ∙ rw append-nil in
    rw c (leaf-laid ts x entry out kind a b n e (rw append-nil at s.laid))

pub letter-added :
    {fs : List Frame} {l m : Held} {w r : Walk} {stack : List Marks} {entry out : List ℕ} (p q : ℕ) → Shows fs l m none w stack entry out
    → r.count ≡ w.count + 1 → r.marks ≡ w.marks → r.item ≡ Untagged → r.depth ≡ w.depth
    → Shows fs l m (some (range p q 0)) r stack entry (stored out w.count (record_bytes 2 p q 0))
letter-added {fs} {l} {m} {w} p q s c mr i d =
    let ts : List Tree = outer_parts (frame l m ∷ fs) in
    record {
      count_right = c ∙ ap (λ (n : ℕ). n + 1) (s.count_right ∙ rw append-nil) ∙ sym (total-last ts (range p q 0));
      marks_right = mr ∙ s.marks_right;
      item_right = i;
      depth_right = d ∙ s.depth_right;
      outer = s.outer;
      laid = leaf-added (range p q 0) 2 p q refl (λ k. refl) s;
    }

-- a parenthesis opens: nothing is held inside it
nothing-held : (ts : List Tree) → ts ++ [] ++ [] ++ [] ≡ ts ++ []
nothing-held ts = simp append-nil

pub opened :
    {fs : List Frame} {l m : Held} {w r : Walk} {stack : List Marks} {entry out : List ℕ} → Shows fs l m none w stack entry out
    → w.depth < 4096
    → r.count ≡ w.count → r.marks ≡ record { left = 0; row = 0 } → r.item ≡ w.item → r.depth ≡ w.depth + 1
    → Shows (frame l m ∷ fs) none none none r (set stack w.depth w.marks) entry out
opened {fs} {l} {m} {w} {r} {stack} s b c mr i d =
    let long : length stack ≡ 4096 = marked-long fs stack s.outer in
    record {
      count_right = c ∙ s.count_right ∙ ap total (sym (nothing-held (outer_parts (frame l m ∷ fs))));
      marks_right = mr;
      item_right = i ∙ s.item_right;
      depth_right = omega (arith, s.depth_right);
      outer =
          rw s.depth_right (
            get_or-set_same stack (length fs) w.marks _ (omega (arith, s.depth_right)) ∙ s.marks_right,
            marked-set fs stack (length fs) w.marks (omega arith) s.outer,
          );
      laid = rw (nothing-held (outer_parts (frame l m ∷ fs))) s.laid;
    }

-- a parenthesis closes: the group is the last item behind what the marks say
pub closes :
    {fs : List Frame} {l m h : Held} {n : ℕ} {r : Walk} {stack : List Marks} {entry out : List ℕ}
    → LastPart (outer_parts (frame l m ∷ fs)) h n entry out
    → Marked (frame l m ∷ fs) stack
    → (t : Tree) → h ≡ some t
    → r.count ≡ n → r.marks ≡ get_or stack (length fs) (record { left = 0; row = 0 }) → r.item ≡ item_of h → r.depth ≡ length fs
    → Shows fs l m h r stack entry out
closes {fs} {l} {m} p marked t e c mr i d =
    let ts : List Tree = outer_parts (frame l m ∷ fs) in
    record {
      count_right = c ∙ p.mark_right ∙ ap (mark_of (total ts)) e ∙ mark-total ts t ∙ rw e;
      marks_right = mr ∙ marked.0;
      item_right = i;
      depth_right = d;
      outer = marked.1;
      laid = p.laid;
    }

-- a group as an item is its tree
group-by :
    (l m : Held) (t : Tree) (k j : ℕ) (w : Walk) → w.marks.left ≡ mark_of k l → w.marks.row ≡ mark_of j m → w.item ≡ item_of (some t)
    → group_item w ≡ item_of (all_with l m (some t))
group-by none none t k j w e f g = rw (e, f) g
group-by none (some u) t k j w e f g = rw (e, ne_eqb w.marks.row 0 (omega arith))
group-by (some u) none t k j w e f g = rw (ne_eqb w.marks.left 0 (omega arith))
group-by (some u) (some v) t k j w e f g = rw (ne_eqb w.marks.left 0 (omega arith))

pub group-marked :
    {fs : List Frame} {l m : Held} {t : Tree} {w : Walk} {stack : List Marks} {entry out : List ℕ} → Shows fs l m (some t) w stack entry out
    → group_item w ≡ item_of (all_with l m (some t))
group-marked {fs} {l} {m} {t} {w} s =
    group-by l m t (total (outer_parts fs)) (total (outer_parts fs ++ held l)) w (left-right s) (row-right s) s.item_right

-- an asterisk
pub starred-shown :
    {fs : List Frame} {l m : Held} {t : Tree} {w r : Walk} {stack : List Marks} {entry out : List ℕ} → Shows fs l m (some t) w stack entry out
    → r.count ≡ w.count + 1 → r.marks ≡ w.marks → r.item ≡ Untagged → r.depth ≡ w.depth
    → Shows fs l m (some (many t 0)) r stack entry (stored out w.count (record_bytes 5 ((w.count - 1) % 256) 0 0))
starred-shown {fs} {l} {m} {t} {w} {r} {stack} {entry} {out} s c mr i d =
    let ts : List Tree = outer_parts (frame l m ∷ fs) in
    record {
      count_right = omega (arith, s.count_right, total-last ts t, total-last ts (many t 0));
      marks_right = mr ∙ s.marks_right;
      item_right = i;
      depth_right = d ∙ s.depth_right;
      outer = s.outer;
      laid = star-laid ts t entry out w.count s.count_right s.laid;
    }

-- a tag
pub tagged-shown :
    {fs : List Frame} {l m : Held} {t : Tree} {w r : Walk} {stack : List Marks} {entry out : List ℕ} (n : ℕ) → 1 ≤ n
    → Shows fs l m (some t) w stack entry out
    → r.count ≡ w.count → r.marks ≡ w.marks → r.item ≡ Tagged → r.depth ≡ w.depth
    → Shows fs l m (some (with_tag t n)) r stack entry (tag_stored out (w.count - 1) n)
tagged-shown {fs} {l} {m} {t} {w} {r} {stack} {entry} {out} n b s c mr i d =
    let ts : List Tree = outer_parts (frame l m ∷ fs) in
    record {
      count_right = omega (arith, s.count_right, total-last ts t, total-last ts (with_tag t n), size-tag t n);
      marks_right = mr ∙ s.marks_right;
      item_right = i ∙ sym (item-tagged (with_tag t n) (λ e. omega (arith, sym (tag-of-with t n) ∙ e)));
      depth_right = d ∙ s.depth_right;
      outer = s.outer;
      laid = laid-tagged ts t entry out n (w.count - 1) (omega (arith, s.count_right, total-last ts t)) s.laid;
    }

-- a bar
pub parted-shown :
    {fs : List Frame} {h : Held} {n depth : ℕ} {r : Walk} {stack : List Marks} {entry out : List ℕ} (t : Tree) → h ≡ some t
    → LastPart (outer_parts fs) h n entry out → Marked fs stack → depth ≡ length fs
    → r.count ≡ n → r.marks ≡ record { left = n; row = 0 } → r.item ≡ Absent → r.depth ≡ depth
    → Shows fs h none none r stack entry out
parted-shown {fs} {h} {n} t e p marked dd c mr i d =
    record {
      count_right =
          c ∙ p.mark_right
          ∙ rw (append-nil (outer_parts fs ++ held h), append-nil (outer_parts fs ++ held h), e) (mark-total (outer_parts fs) t);
      marks_right = mr ∙ rw p.mark_right;
      item_right = i;
      depth_right = d ∙ dd;
      outer = marked;
      laid = rw (append-nil (outer_parts fs ++ held h), append-nil (outer_parts fs ++ held h)) p.laid;
    }

-- () is a group of an Empty
pub empty_group :
    {fs : List Frame} {w : Walk} {stack : List Marks} {entry out : List ℕ} → Shows fs none none none w stack entry out
    → LastPart (outer_parts fs) (some (unit 0)) (w.count + 1) entry (stored out w.count (record_bytes 1 0 0 0))
empty_group {fs} {w} s =
    record {
      mark_right = ap (λ (n : ℕ). n + 1) (s.count_right ∙ rw (append-nil (outer_parts fs), append-nil (outer_parts fs), append-nil (outer_parts fs)));
      laid = rw (append-nil (outer_parts fs), append-nil (outer_parts fs)) at (leaf-added (unit 0) 1 0 0 refl (λ k. refl) s);
    }

-- before the first word
pub begun-shown :
    {w : Walk} {stack : List Marks} (entry : List ℕ) → length stack ≡ 4096
    → w ≡ record { count = 0; marks = record { left = 0; row = 0 }; item = Absent; depth = 0 }
    → Shows [] none none none w stack entry entry
begun-shown entry long b =
    rw b
    (record {
      count_right = refl;
      marks_right = refl;
      item_right = refl;
      depth_right = refl;
      outer = long;
      laid = record { long = refl; front = λ room few. refl };
    })
