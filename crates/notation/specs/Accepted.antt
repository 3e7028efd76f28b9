-- The texts that the call accepts short of 16 and 11, and what the table of such a text is (document 02, request 3).
-- Assumes nothing.
use Rattle.std.specs.Prelude.{ℕ, suc, ◌≤◌, ◌≡◌, List, ◌++◌, length}
use Rattle.table.specs.Records.{count}
use Rattle.table.specs.Faults.{Passes}
use Rattle.table.specs.Expression.{exp_of}
use Rattle.notation.specs.Trees.{Tree, expression}
use Rattle.notation.specs.Grammar.{Whole}
use Rattle.notation.specs.Tables.{under, Stands}

-- "the texts of this grammar, up to 4,096 bytes"
pub record Text (s : List ℕ) : Type 0 where
  pub tree : Tree
  pub grouped : Whole s tree
  pub short : length s ≤ 4096

-- the text is the beginning of a text of the grammar
pub record Begins (s : List ℕ) : Type 0 where
  pub rest : List ℕ
  pub tree : Tree
  pub grouped : Whole (s ++ rest) tree

-- the table stands for the tree: it passes Check, and its last record stands for the tree, record by record and tags included, and has its
-- expression
pub record TableFor (t : Tree) (table : List ℕ) : Type 0 where
  pub passes : Passes table
  pub root_last : count table ≡ suc (under t)
  pub stands : Stands table (under t) t
  pub expressed : exp_of table (under t) ≡ expression t
