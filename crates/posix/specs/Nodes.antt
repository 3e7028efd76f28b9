-- The size of an expression, by which the records of a reading are bounded.
-- Assumes nothing.
use Rattle.std.specs.Prelude.{ℕ, suc, ◌+◌}
use Rattle.posix.specs.Expressions.{Exp, nothing, empty, letter, or, seq, star}

-- how many expressions stand in r, r itself among them
abbrev pub nodes : Exp → ℕ
nodes nothing = 1
nodes empty = 1
nodes (letter b) = 1
nodes (or r1 r2) = suc (nodes r1 + nodes r2)
nodes (seq r1 r2) = suc (nodes r1 + nodes r2)
nodes (star r) = suc (nodes r)
