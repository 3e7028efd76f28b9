-- What the functions inside are given and leave: the test of a name by the set of the names before it.
-- Assumes nothing.
use Rattle.std.specs.Prelude.{ℕ, Bool, not, ◌&&◌, List, eqb}
use Rattle.std.specs.List.{list_any}
use Rattle.order.specs.declared.Pair.{Pair}

-- some pair has the second name, and a first name that is not in the set
abbrev pub lacks : (ℕ → Bool) → ℕ → List Pair → Bool
lacks has x ps = list_any (λ p. eqb x p.second && not (has p.first)) ps
