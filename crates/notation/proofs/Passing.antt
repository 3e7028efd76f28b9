-- The table of a text's tree passes: each tree's records are a segment, and the whole tree's are the table.
-- Assumes nothing.
use Prim.Native.Nat.{ℕ, suc, ◌+◌, ◌*◌, ◌%◌, ◌≤◌, ◌<◌}
use native.Mathlib.Omega.{arith}
use native.Mathlib.Nat.{add_assoc, zero-add}
use mathlib.Core.Path.{◌≡◌, refl, sym, ◌∙◌}
use mathlib.Core.Logic.{◌⊎◌, inl, inr, ⊎_elim}
use mathlib.Core.Bool.{false, true≢false}
use mathlib.Core.List.{List}
use lib.ListN.{length}
use borrow.Author.Tests.{lt-ltb, le-ltb, eq-eqb, ne_eqb}
use Rattle.table.specs.Records.{kind_at, a_at, b_at}
use Rattle.table.specs.Faults.{bad_size, names, Passes}
use Rattle.table.proofs.Passing.{star-names}
use Rattle.notation.specs.Trees.{Tree, unit, range, alt, cat, many}
use Rattle.notation.specs.Grammar.{Whole}
use Rattle.notation.specs.Tables.{under, size, table_of}
use Rattle.notation.proofs.Records.{records-length}
use Rattle.notation.proofs.Standing.{RootOver, Placed, fields, table-placed, table-count}
use Rattle.notation.proofs.Ranges.{Ordered, whole-ordered}
use Rattle.notation.proofs.Segments.{Own, Fresh, Segment, ChildField, child-field, no-records, last-fresh, one_more, fresh-beside, beside, segment-passes}

-- a record by itself, by its kind
module _ (T : List ℕ) (m : ℕ) where
  own-unit : kind_at T m ≡ 1 → a_at T m ≡ 0 → b_at T m ≡ 0 → Own T m
  own-unit e f g = rw (e, f, g) (refl, refl, refl, refl, refl)

  own_range : kind_at T m ≡ 2 → a_at T m ≤ b_at T m → Own T m
  own_range e l = rw (e, le-ltb (b_at T m) (a_at T m) l) (refl, refl, refl, refl, refl)

  own-two : (kind_at T m ≡ 3) ⊎ (kind_at T m ≡ 4) → a_at T m < m → b_at T m < m → ¬ (a_at T m ≡ b_at T m) → Own T m
  own-two e la lb d =
      rw (lt-ltb (a_at T m) m la, lt-ltb (b_at T m) m lb, ne_eqb (a_at T m) (b_at T m) d)
      (⊎_elim
      (λ (z : kind_at T m ≡ 3). rw z (refl, refl, refl, refl, refl))
      (λ (z : kind_at T m ≡ 4). rw z (refl, refl, refl, refl, refl))
      e)

  own-many : kind_at T m ≡ 5 → a_at T m < m → b_at T m ≡ 0 → Own T m
  own-many e l f = rw (e, f, lt-ltb (a_at T m) m l) (refl, refl, refl, refl, refl)

-- a segment that ends in record m: m alone, m over one segment, m over two
module _ (T : List ℕ) (lo m end : ℕ) (e : end ≡ suc m) where
  segment-leaf : m ≤ lo → Own T m → ((c : ℕ) → names T m c ≡ false) → Segment T lo end
  segment-leaf l o f = one_more T lo m end e (no-records T lo m l) o (λ c n. absurd (true≢false (sym n ∙ f c)))

  segment-many : lo < m → Segment T lo m → kind_at T m ≡ 5 → suc (a_at T m) ≡ m → b_at T m ≡ 0 → Segment T lo end
  segment-many l s k a b = one_more T lo m end e s (own-many T m k (omega arith) b) (λ c n. child c (child-field T m c n))
    where
      child : (c : ℕ) → ChildField T m c → Fresh T lo m c
      child c (inl f) = last-fresh T lo m c s (omega (arith, f.1)) (omega (arith, f.1))
      child c (inr f) = absurd (true≢false (sym f.0 ∙ (star-names T m k).1))

  segment-two : (mid : ℕ) → lo < mid → mid < m → Segment T lo mid → Segment T mid m → (kind_at T m ≡ 3) ⊎ (kind_at T m ≡ 4)
      → suc (a_at T m) ≡ mid → suc (b_at T m) ≡ m → Segment T lo end
  segment-two mid l h r s k a b =
      one_more T lo m end e both (own-two T m k (omega arith) (omega arith) (λ d. omega arith)) (λ c n. child c (child-field T m c n))
    where
      both : Segment T lo m
      both = beside T lo mid m s (omega arith) r

      child : (c : ℕ) → ChildField T m c → Fresh T lo m c
      child c (inl f) =
          fresh-beside T lo mid m s c (omega (arith, f.1)) (last-fresh T lo mid c r (omega (arith, f.1)) (omega (arith, f.1)))
      child c (inr f) = last-fresh T lo m c both (omega (arith, f.1)) (omega (arith, f.1))

-- the records of a tree whose ranges are ordered are a segment
segment-over : (T : List ℕ) (k kind n : ℕ) (t u : Tree) → (kind ≡ 3) ⊎ (kind ≡ 4) → Segment T k (k + size t)
    → Segment T (k + size t) (k + size t + size u) → RootOver T k t u kind n → Segment T k (k + suc (size t + size u))
segment-over T k kind n t u w r s h =
    let f = fields T (k + (size t + size u)) kind (k + under t) (k + size t + under u) n h in
    segment-two T k (k + (size t + size u)) _ (omega arith) (k + size t) (omega arith) (omega arith) r (rw add_assoc at s) (rw f.0 w)
    (omega (arith, f.1))
    (omega (arith, f.2))

segment : (t : Tree) (T : List ℕ) (k : ℕ) → Placed T k t → Ordered t → Segment T k (k + size t)
segment (unit n) T k p o =
    let f = fields T (k + 0) 1 0 0 n p in
    segment-leaf T k (k + 0) _ (omega arith) (omega arith) (own-unit T (k + 0) f.0 f.1 f.2) (λ c. rw f.0)
segment (range a b n) T k p o =
    let f = fields T (k + 0) 2 a b n p in
    segment-leaf T k (k + 0) _ (omega arith) (omega arith) (own_range T (k + 0) f.0 (omega (arith, f.1, f.2))) (λ c. rw f.0)
segment (alt t u n) T k p o = segment-over T k 3 n t u (inl refl) (segment t T k p.0 o.0) (segment u T (k + size t) p.1 o.1) p.2
segment (cat t u n) T k p o = segment-over T k 4 n t u (inr refl) (segment t T k p.0 o.0) (segment u T (k + size t) p.1 o.1) p.2
segment (many t n) T k p o =
    let f = fields T (k + size t) 5 (k + under t) 0 n p.1 in
    segment-many T k (k + size t) _ (omega arith) (omega arith) (segment t T k p.0 o) f.0 (omega (arith, f.1)) f.2

-- up to 255 records are a table of a right size
size_right : (T : List ℕ) (n : ℕ) → length T ≡ 4 * n → 1 ≤ n → n ≤ 255 → bad_size T ≡ false
size_right T n e l h =
    rw (ne_eqb (length T) 0 (λ z. omega arith), le-ltb 1020 (length T) (omega arith), eq-eqb (length T % 4) 0 (omega arith))

pub ordered-passes : (t : Tree) → Ordered t → size t ≤ 255 → Passes (table_of t)
ordered-passes t o l =
    segment-passes (table_of t) (size_right (table_of t) (size t) (records-length 0 t) (omega arith) l)
    (rw (table-count t) (rw zero-add at (segment t (table_of t) 0 (table-placed t) o)))

pub table-passes : {s : List ℕ} {t : Tree} → Whole s t → size t ≤ 255 → Passes (table_of t)
table-passes {t = t} w = ordered-passes t (whole-ordered w)
