-- What a text of the notation groups to (document 02, request 3): a tree with one node for each record of its table, each with its tag, 0 for
-- none.
-- Assumes nothing.
use Rattle.std.specs.Prelude.{ℕ}
use Rattle.posix.specs.Expressions.{within, Exp, empty, letter, or, seq, star}

pub data Tree : Type 0 where
  -- Empty
  unit : ℕ → Tree
  -- a Range from the first number to the second
  range : ℕ → ℕ → ℕ → Tree
  -- Or, Seq and Star
  alt : Tree → Tree → ℕ → Tree
  cat : Tree → Tree → ℕ → Tree
  many : Tree → ℕ → Tree

-- the tag of the tree's own record
abbrev pub tag_of : Tree → ℕ
tag_of (unit n) = n
tag_of (range p q n) = n
tag_of (alt t u n) = n
tag_of (cat t u n) = n
tag_of (many t n) = n

-- the tree with another tag
abbrev pub with_tag : Tree → ℕ → Tree
with_tag (unit m) n = unit n
with_tag (range p q m) n = range p q n
with_tag (alt t u m) n = alt t u n
with_tag (cat t u m) n = cat t u n
with_tag (many t m) n = many t n

-- the expression that the tree stands for
abbrev pub expression : Tree → Exp
expression (unit n) = empty
expression (range p q n) = letter (within p q)
expression (alt t u n) = or (expression t) (expression u)
expression (cat t u n) = seq (expression t) (expression u)
expression (many t n) = star (expression t)
