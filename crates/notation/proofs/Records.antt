-- The records of a tree: how many bytes they are, and that the last of them, the root's, is the only one that another tag changes.
-- Assumes nothing.
use Prim.Native.Nat.{ℕ, suc, ◌+◌, ◌*◌}
use native.Mathlib.Omega.{arith}
use mathlib.Core.Path.{◌≡◌, refl, ap}
use mathlib.Core.List.{List, [], ◌++◌, append_assoc}
use lib.ListN.{length, length-append}
use Rattle.table.specs.Records.{record_bytes}
use Rattle.notation.specs.Trees.{Tree, unit, range, alt, cat, many, tag_of, with_tag}
use Rattle.notation.specs.Tables.{under, size, records_from}

-- the records of two trees and of a root over them, an Or or a Seq
abbrev pub two_from : ℕ → ℕ → Tree → Tree → ℕ → List ℕ
two_from kind k t u n = records_from k t ++ (records_from (k + size t) u ++ record_bytes kind (k + under t) (k + size t + under u) n)

-- four bytes a record
pub records-length : (k : ℕ) (t : Tree) → length (records_from k t) ≡ 4 * size t
records-length k (unit n) = refl
records-length k (range p q n) = refl
records-length k (alt t u n) = simp length-append (omega (arith, records-length k t, records-length (k + size t) u))
records-length k (cat t u n) = simp length-append (omega (arith, records-length k t, records-length (k + size t) u))
records-length k (many t n) = simp length-append (omega (arith, records-length k t))

-- another tag changes neither the number of records below the root nor the number of all, and the root has it
pub under-tag : (t : Tree) (n : ℕ) → under (with_tag t n) ≡ under t
under-tag (unit m) n = refl
under-tag (range p q m) n = refl
under-tag (alt t u m) n = refl
under-tag (cat t u m) n = refl
under-tag (many t m) n = refl

pub size-tag : (t : Tree) (n : ℕ) → size (with_tag t n) ≡ size t
size-tag t n = ap suc (under-tag t n)

pub tag-of-with : (t : Tree) (n : ℕ) → tag_of (with_tag t n) ≡ n
tag-of-with (unit m) n = refl
tag-of-with (range p q m) n = refl
tag-of-with (alt t u m) n = refl
tag-of-with (cat t u m) n = refl
tag-of-with (many t m) n = refl

-- the root's record stands behind the others, and its tag is the tree's
pub record Rooted (k : ℕ) (t : Tree) : Type 0 where
  pub init : List ℕ
  pub kind : ℕ
  pub a : ℕ
  pub b : ℕ
  pub root : records_from k t ≡ init ++ record_bytes kind a b (tag_of t)
  pub tagged : (n : ℕ) → records_from k (with_tag t n) ≡ init ++ record_bytes kind a b n
  pub init_length : length init ≡ 4 * under t

rooted-two : (kind k : ℕ) (t u w : Tree) → records_from k w ≡ two_from kind k t u (tag_of w)
    → ((n : ℕ) → records_from k (with_tag w n) ≡ two_from kind k t u n) → under w ≡ size t + size u → Rooted k w
rooted-two kind k t u w e f g =
    record {
      init = records_from k t ++ records_from (k + size t) u;
      kind = kind;
      a = k + under t;
      b = k + size t + under u;
      root = rw append_assoc e;
      tagged = λ n. rw append_assoc (f n);
      init_length = simp (length-append, records-length) (omega arith);
    }

pub rooted : (k : ℕ) (t : Tree) → Rooted k t
rooted k (unit m) = record { init = []; kind = 1; a = 0; b = 0; root = refl; tagged = λ n. refl; init_length = refl }
rooted k (range p q m) = record { init = []; kind = 2; a = p; b = q; root = refl; tagged = λ n. refl; init_length = refl }
rooted k (alt t u m) = rooted-two 3 k t u _ refl (λ n. refl) refl
rooted k (cat t u m) = rooted-two 4 k t u _ refl (λ n. refl) refl
rooted k (many t m) =
    record {
      init = records_from k t;
      kind = 5;
      a = k + under t;
      b = 0;
      root = refl;
      tagged = λ n. refl;
      init_length = records-length k t;
    }
