-- A test by which two alternatives are seen to share no line: their lines start with other bytes, or end with other ones.
-- Assumes nothing.
use Rattle.std.specs.Prelude.{ℕ, zero, suc, Bool, true, false, not, ◌&&◌, ◌||◌, List, []}
use Rattle.posix.specs.Expressions.{Exp}
use Rattle.posix.specs.Spells.{spells}
use Rattle.table.specs.Records.{a_at, b_at, is_or}
use Rattle.table.specs.Expression.{exp_of}
use Rattle.edges.specs.Edges.{edge}

-- no number below n is one with which lines of both may start, or for `back` end
abbrev pub none_shared : Bool → Exp → Exp → ℕ → Bool
none_shared back r1 r2 zero = true
none_shared back r1 r2 (suc n) = not (edge back r1 n && edge back r2 n) && none_shared back r1 r2 n

-- not both spell the empty line, and either no byte starts lines of both or none ends lines of both
abbrev pub edges_apart : Exp → Exp → Bool
edges_apart r1 r2 = not (spells r1 [] && spells r2 []) && (none_shared false r1 r2 256 || none_shared true r1 r2 256)

-- record k is an Or whose alternatives pass this test
abbrev pub seen_apart : List ℕ → ℕ → Bool
seen_apart t k = is_or t k && edges_apart (exp_of t (a_at t k)) (exp_of t (b_at t k))
