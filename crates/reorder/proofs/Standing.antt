-- A record that stands for a tree: its tag, its expression, and the tagged parts of a reading, which go by the tree and not by the records' numbers.
-- Assumes nothing.
use Prim.Native.Nat.{ℕ, ◌+◌, ◌<◌}
use native.Mathlib.Omega.{arith}
use mathlib.Core.Path.{◌≡◌, refl, ◌∙◌, ap, ap₂}
use mathlib.Core.Logic.{inl, inr}
use mathlib.Core.List.{List, [], ◌++◌}
use lib.ListN.{length}
use Rattle.posix.specs.Expressions.{Exp, or, seq, star}
use Rattle.posix.specs.Values.{Val, void, byte, left, right, pair, none, more, flat, Reads, reads_void, reads_byte, reads_left, reads_right, reads_pair, reads_none, reads_more}
use Rattle.table.specs.Records.{count, a_at, b_at, tag_at, record_bytes, record_at}
use Rattle.table.specs.Faults.{Passes}
use Rattle.table.specs.Expression.{exp_of}
use Rattle.table.proofs.Laws.{exp-empty, exp-letter, exp-or, exp-seq, exp-star}
use Rattle.table.proofs.Passing.{a-below, b-below, star-a-below}
use Rattle.tokens.specs.Tokens.{Token, outermost, placed_below, placed_parts, filter, has_size, tokens_from}
use Rattle.notation.specs.Trees.{Tree, unit, range, alt, cat, many, tag_of, expression}
use Rattle.notation.specs.Tables.{Stands, stands_unit, stands_range, stands-alt, stands-cat, stands_many}
use Rattle.notation.proofs.Standing.{fields}

-- the tag of a record that stands for a tree
field-tag : (T : List ℕ) (k kind a b n : ℕ) → record_at T k ≡ record_bytes kind a b n → tag_at T k ≡ n
field-tag T k kind a b n e = cc

pub stands-tag : {T : List ℕ} {i : ℕ} {t : Tree} → Stands T i t → tag_at T i ≡ tag_of t
stands-tag {T} (stands_unit {k = k} {n = n} e) = field-tag T k 1 0 0 n e
stands-tag {T} (stands_range {k = k} {p = p} {q = q} {n = n} e) = field-tag T k 2 p q n e
stands-tag {T} (stands-alt {k = k} {n = n} a b e s s') = field-tag T k 3 a b n e
stands-tag {T} (stands-cat {k = k} {n = n} a b e s s') = field-tag T k 4 a b n e
stands-tag {T} (stands_many {k = k} {n = n} a e s) = field-tag T k 5 a 0 n e

-- its expression, in a table that passes
module _ (T : List ℕ) (p : Passes T) where
  pub stands-expression : {i : ℕ} {t : Tree} → Stands T i t → i < count T → exp_of T i ≡ expression t
  stands-expression (stands_unit {k = k} {n = n} e) l = exp-empty T k (fields T k 1 0 0 n e).0
  stands-expression (stands_range {k = k} {p = lo} {q = hi} {n = n} e) l =
      let f = fields T k 2 lo hi n e in
      exp-letter T k (rw f.0) ∙ rw (f.0, f.1, f.2)
  stands-expression (stands-alt {k = k} {n = n} a b e s s') l =
      let f = fields T k 3 a b n e in
      let la : a_at T k < k = a-below T p k l (inl f.0) in
      let lb : b_at T k < k = b-below T p k l (inl f.0) in
      exp-or T k f.0 la lb
      ∙ ap₂ (λ (m m' : ℕ). or (exp_of T m) (exp_of T m')) f.1 f.2
      ∙ ap₂ or (stands-expression s (omega (arith, f.1))) (stands-expression s' (omega (arith, f.2)))
  stands-expression (stands-cat {k = k} {n = n} a b e s s') l =
      let f = fields T k 4 a b n e in
      let la : a_at T k < k = a-below T p k l (inr f.0) in
      let lb : b_at T k < k = b-below T p k l (inr f.0) in
      exp-seq T k f.0 la lb
      ∙ ap₂ (λ (m m' : ℕ). seq (exp_of T m) (exp_of T m')) f.1 f.2
      ∙ ap₂ seq (stands-expression s (omega (arith, f.1))) (stands-expression s' (omega (arith, f.2)))
  stands-expression (stands_many {k = k} {n = n} a e s) l =
      let f = fields T k 5 a 0 n e in
      let la : a_at T k < k = star-a-below T p k l f.0 in
      exp-star T k f.0 la ∙ ap (λ (m : ℕ). star (exp_of T m)) f.1 ∙ ap star (stands-expression s (omega (arith, f.1)))

-- the trees below a tree's own record
abbrev pub first_of : Tree → Tree
first_of (unit n) = unit n
first_of (range p q n) = range p q n
first_of (alt t u n) = t
first_of (cat t u n) = t
first_of (many t n) = t

abbrev pub second_of : Tree → Tree
second_of (unit n) = unit n
second_of (range p q n) = range p q n
second_of (alt t u n) = u
second_of (cat t u n) = u
second_of (many t n) = t

-- the outermost tagged parts of a reading by the tree, as a table's are by its records: those below the root, and those with it
abbrev pub tree_below : Tree → Val → ℕ → List Token
tree_below t void at = []
tree_below t (byte c) at = []
tree_below t (left v) at = outermost (tag_of (first_of t)) at (length (flat v)) (tree_below (first_of t) v at)
tree_below t (right v) at = outermost (tag_of (second_of t)) at (length (flat v)) (tree_below (second_of t) v at)
tree_below t (pair v w) at =
    outermost (tag_of (first_of t)) at (length (flat v)) (tree_below (first_of t) v at)
    ++ outermost (tag_of (second_of t)) (at + length (flat v)) (length (flat w)) (tree_below (second_of t) w (at + length (flat v)))
tree_below t none at = []
tree_below t (more v w) at =
    outermost (tag_of (first_of t)) at (length (flat v)) (tree_below (first_of t) v at) ++ tree_below t w (at + length (flat v))

abbrev pub tree_parts : Tree → Val → ℕ → List Token
tree_parts t v at = outermost (tag_of t) at (length (flat v)) (tree_below t v at)

-- a table whose record stands for the tree has these
module _ (T : List ℕ) where
  placed-from :
      {i : ℕ} {t : Tree} → Stands T i t → (v : Val) (at : ℕ) → placed_below T i v at ≡ tree_below t v at → placed_parts T i v at ≡ tree_parts t v at
  placed-from s v at e = rw (stands-tag s, e)

  placed-items :
      (i a n : ℕ) (t : Tree) {r : Exp} {w : Val} → a_at T i ≡ a
      → ((v : Val) → Reads r v → (at : ℕ) → placed_parts T a v at ≡ tree_parts t v at)
      → Reads (star r) w
      → (at : ℕ)
      → placed_below T i w at ≡ tree_below (many t n) w at
  placed-items i a n t f each reads_none at = refl
  placed-items i a n t f each (reads_more {v = v} q h q') at = rw f (ap₂ ◌++◌ (each v q at) (placed-items i a n t f each q' (at + length (flat v))))

  placed-tree : {i : ℕ} {t : Tree} {v : Val} → Stands T i t → Reads (expression t) v → (at : ℕ) → placed_below T i v at ≡ tree_below t v at
  placed-tree (stands_unit e) reads_void at = refl
  placed-tree (stands_range e) (reads_byte h) at = refl
  placed-tree (stands-alt {k = i} {n = n} a b e s z) (reads_left {v = v} q) at =
      rw (fields T i 3 a b n e).1 (placed-from s v at (placed-tree s q at))
  placed-tree (stands-alt {k = i} {n = n} a b e s z) (reads_right {v = v} q) at =
      rw (fields T i 3 a b n e).2 (placed-from z v at (placed-tree z q at))
  placed-tree (stands-cat {k = i} {n = n} a b e s z) (reads_pair {v = v} {w = w} q q') at =
      let next : ℕ = at + length (flat v) in
      let f = fields T i 4 a b n e in
      rw (f.1, f.2) (ap₂ ◌++◌ (placed-from s v at (placed-tree s q at)) (placed-from z w next (placed-tree z q' next)))
  placed-tree (stands_many {k = i} {n = n} {t = t} a e s) q at =
      placed-items i a n t (fields T i 5 a 0 n e).1 (λ v q' at'. placed-from s v at' (placed-tree s q' at')) q at

  pub tree-tokens : {i : ℕ} {t : Tree} {v : Val} → Stands T i t → Reads (expression t) v → tokens_from T i v 0 ≡ filter has_size (tree_parts t v 0)
  tree-tokens {v = v} s q = ap (filter has_size) (placed-from s v 0 (placed-tree s q 0))
