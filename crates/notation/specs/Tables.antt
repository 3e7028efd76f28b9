-- The table of a tree (document 02, request 3): "Children are written before parents, each side whole, left before right, the root last". And
-- what it is for a record of a table to stand for a tree.
-- Assumes nothing.
use Rattle.std.specs.Prelude.{ℕ, suc, ◌+◌, ◌≡◌, List, ◌++◌}
use Rattle.table.specs.Records.{record_bytes, record_at}
use Rattle.notation.specs.Trees.{Tree, unit, range, alt, cat, many}

-- how many records stand below the tree's own
abbrev pub under : Tree → ℕ
under (unit n) = 0
under (range p q n) = 0
under (alt t u n) = suc (under t) + suc (under u)
under (cat t u n) = suc (under t) + suc (under u)
under (many t n) = suc (under t)

-- how many records the tree has
abbrev pub size : Tree → ℕ
size t = suc (under t)

-- the tree's records where the first has number k; the root is then number k + under t
abbrev pub records_from : ℕ → Tree → List ℕ
records_from k (unit n) = record_bytes 1 0 0 n
records_from k (range p q n) = record_bytes 2 p q n
records_from k (alt t u n) =
    records_from k t ++ (records_from (k + size t) u ++ record_bytes 3 (k + under t) (k + size t + under u) n)
records_from k (cat t u n) =
    records_from k t ++ (records_from (k + size t) u ++ record_bytes 4 (k + under t) (k + size t + under u) n)
records_from k (many t n) = records_from k t ++ record_bytes 5 (k + under t) 0 n

-- the table of the tree
abbrev pub table_of : Tree → List ℕ
table_of t = records_from 0 t

-- record k of a table stands for the tree, tags included
pub data Stands (table : List ℕ) : ℕ → Tree → Type 0 where
  stands_unit : {k n : ℕ} → record_at table k ≡ record_bytes 1 0 0 n → Stands table k (unit n)
  stands_range : {k p q n : ℕ} → record_at table k ≡ record_bytes 2 p q n → Stands table k (range p q n)
  stands-alt :
      {k n : ℕ} {t u : Tree} (a b : ℕ) → record_at table k ≡ record_bytes 3 a b n → Stands table a t → Stands table b u
      → Stands table k (alt t u n)
  stands-cat :
      {k n : ℕ} {t u : Tree} (a b : ℕ) → record_at table k ≡ record_bytes 4 a b n → Stands table a t → Stands table b u
      → Stands table k (cat t u n)
  stands_many : {k n : ℕ} {t : Tree} (a : ℕ) → record_at table k ≡ record_bytes 5 a 0 n → Stands table a t → Stands table k (many t n)
