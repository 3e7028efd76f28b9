-- Where the records of a tree stand in a table: the table of a tree has as many records as the tree, and the last of them stands for the tree
-- and has its expression.
-- Assumes nothing.
use Prim.Native.Nat.{ℕ, ◌+◌, ◌*◌}
use native.Mathlib.Omega.{arith}
use native.Mathlib.Nat.{add-zero, zero-add}
use mathlib.Core.Path.{◌≡◌, refl, sym, ◌∙◌}
use mathlib.Core.List.{List, [], ◌++◌, append_assoc, append-nil}
use lib.ListN.{length, get_or, length-append}
use lib.Seq.{get_or-append_seam, get_or-append-add}
use Rattle.table.specs.Records.{kind_at, a_at, b_at, record_bytes, record_at, count}
use Rattle.table.specs.Expression.{exp_of}
use Rattle.table.proofs.Laws.{exp-empty, exp-letter, exp-or, exp-seq, exp-star}
use Rattle.notation.specs.Trees.{Tree, unit, range, alt, cat, many, expression}
use Rattle.notation.specs.Tables.{under, size, records_from, table_of, Stands, stands_unit, stands_range, stands-alt, stands-cat, stands_many}
use Rattle.notation.proofs.Records.{two_from, records-length}

-- the root's record over two trees, an Or's or a Seq's
abbrev pub RootOver : List ℕ → ℕ → Tree → Tree → ℕ → ℕ → Type 0
RootOver T k t u kind n = record_at T (k + (size t + size u)) ≡ record_bytes kind (k + under t) (k + size t + under u) n

-- the table holds the tree's records from record k on
abbrev pub Placed : List ℕ → ℕ → Tree → Type 0
Placed T k (unit n) = record_at T (k + 0) ≡ record_bytes 1 0 0 n
Placed T k (range p q n) = record_at T (k + 0) ≡ record_bytes 2 p q n
Placed T k (alt t u n) = Placed T k t × Placed T (k + size t) u × RootOver T k t u 3 n
Placed T k (cat t u n) = Placed T k t × Placed T (k + size t) u × RootOver T k t u 4 n
Placed T k (many t n) = Placed T k t × (record_at T (k + size t) ≡ record_bytes 5 (k + under t) 0 n)

-- the bytes stand in the table behind k records
pub record Holds (T bytes : List ℕ) (k : ℕ) : Type 0 where
  pub before : List ℕ
  pub after : List ℕ
  pub parted : T ≡ before ++ (bytes ++ after)
  pub counted : length before ≡ 4 * k

holds-left : (T x y : List ℕ) (k : ℕ) → Holds T (x ++ y) k → Holds T x k
holds-left T x y k h =
    record { before = h.before; after = y ++ h.after; parted = h.parted ∙ simp append_assoc; counted = h.counted }

holds-right : (T x y : List ℕ) (k m : ℕ) → length x + 4 * k ≡ 4 * m → Holds T (x ++ y) k → Holds T y m
holds-right T x y k m e h =
    record {
      before = h.before ++ x;
      after = h.after;
      parted = h.parted ∙ simp append_assoc;
      counted = rw length-append (omega (arith, h.counted));
    }

-- a record's bytes behind k records are those of record k
holds-record : (T : List ℕ) (k kind a b n : ℕ) → Holds T (record_bytes kind a b n) k → record_at T k ≡ record_bytes kind a b n
holds-record T k kind a b n h = rw (first, at 1, at 2, at 3)
  where
    first : get_or T (4 * k) 0 ≡ kind
    first = rw (h.parted, ← h.counted) (get_or-append_seam h.before kind _ 0)

    at : (i : ℕ) → get_or T (4 * k + i) 0 ≡ get_or (record_bytes kind a b n ++ h.after) i 0
    at i = rw (h.parted, ← h.counted) (get_or-append-add h.before _ i 0)

-- a tree's records behind k records are placed from record k on
module _ (T : List ℕ) (k kind n : ℕ) (t u : Tree) (h : Holds T (two_from kind k t u n) k) where
  second_holds : Holds T (records_from (k + size t) u ++ record_bytes kind (k + under t) (k + size t + under u) n) (k + size t)
  second_holds = holds-right T (records_from k t) _ k (k + size t) (omega (arith, records-length k t)) h

  root_over : RootOver T k t u kind n
  root_over =
      holds-record T _ kind _ _ n
      (holds-right T (records_from (k + size t) u) _ (k + size t) _ (omega (arith, records-length (k + size t) u)) second_holds)

pub placed-in : (t : Tree) (T : List ℕ) (k : ℕ) → Holds T (records_from k t) k → Placed T k t
placed-in (unit n) T k h = holds-record T (k + 0) 1 0 0 n (rw add-zero h)
placed-in (range p q n) T k h = holds-record T (k + 0) 2 p q n (rw add-zero h)
placed-in (alt t u n) T k h = (
  placed-in t T k (holds-left T (records_from k t) _ k h),
  placed-in u T (k + size t) (holds-left T (records_from (k + size t) u) _ _ (second_holds T k 3 n t u h)),
  root_over T k 3 n t u h,
)
placed-in (cat t u n) T k h = (
  placed-in t T k (holds-left T (records_from k t) _ k h),
  placed-in u T (k + size t) (holds-left T (records_from (k + size t) u) _ _ (second_holds T k 4 n t u h)),
  root_over T k 4 n t u h,
)
placed-in (many t n) T k h = (
  placed-in t T k (holds-left T (records_from k t) _ k h),
  holds-record T (k + size t) 5 _ 0 n (holds-right T (records_from k t) _ k (k + size t) (omega (arith, records-length k t)) h),
)

pub table-placed : (t : Tree) → Placed (table_of t) 0 t
table-placed t = placed-in t (table_of t) 0 (record { before = []; after = []; parted = sym (append-nil _); counted = refl })

-- so the table has the tree's records, and no other
pub table-count : (t : Tree) → count (table_of t) ≡ size t
table-count t = omega (arith, records-length 0 t)

-- the last of a tree's records stands for the tree
pub placed-stands : (t : Tree) (T : List ℕ) (k : ℕ) → Placed T k t → Stands T (k + under t) t
placed-stands (unit n) T k p = stands_unit p
placed-stands (range a b n) T k p = stands_range p
placed-stands (alt t u n) T k p = stands-alt _ _ p.2 (placed-stands t T k p.0) (placed-stands u T (k + size t) p.1)
placed-stands (cat t u n) T k p = stands-cat _ _ p.2 (placed-stands t T k p.0) (placed-stands u T (k + size t) p.1)
placed-stands (many t n) T k p = stands_many _ p.1 (placed-stands t T k p.0)

pub table-stands : (t : Tree) → Stands (table_of t) (under t) t
table-stands t = rw zero-add at (placed-stands t (table_of t) 0 (table-placed t))

-- the fields of a record by its bytes
pub fields : (T : List ℕ) (k kind a b n : ℕ) → record_at T k ≡ record_bytes kind a b n → (kind_at T k ≡ kind) × (a_at T k ≡ a) × (b_at T k ≡ b)
fields T k kind a b n e = (cc, cc, cc)

-- the expression of the last of a tree's records is the tree's
pub placed-expression : (t : Tree) (T : List ℕ) (k : ℕ) → Placed T k t → exp_of T (k + under t) ≡ expression t
placed-expression (unit n) T k p = exp-empty T (k + 0) (fields T (k + 0) 1 0 0 n p).0
placed-expression (range p q n) T k h =
    let f = fields T (k + 0) 2 p q n h in
    exp-letter T (k + 0) (rw f.0) ∙ rw (f.0, f.1, f.2)
placed-expression (alt t u n) T k p =
    let f = fields T (k + (size t + size u)) 3 (k + under t) (k + size t + under u) n p.2 in
    exp-or T _ f.0 (omega (arith, f.1)) (omega (arith, f.2))
    ∙ rw (f.1, f.2, placed-expression t T k p.0, placed-expression u T (k + size t) p.1)
placed-expression (cat t u n) T k p =
    let f = fields T (k + (size t + size u)) 4 (k + under t) (k + size t + under u) n p.2 in
    exp-seq T _ f.0 (omega (arith, f.1)) (omega (arith, f.2))
    ∙ rw (f.1, f.2, placed-expression t T k p.0, placed-expression u T (k + size t) p.1)
placed-expression (many t n) T k p =
    let f = fields T (k + size t) 5 (k + under t) 0 n p.1 in
    exp-star T _ f.0 (omega (arith, f.1)) ∙ rw (f.1, placed-expression t T k p.0)

pub table-expression : (t : Tree) → exp_of (table_of t) (under t) ≡ expression t
table-expression t = rw zero-add at (placed-expression t (table_of t) 0 (table-placed t))
