-- The expression of a record (document 01, "The rule table", the column 'meaning', and document 02, request 1). A child that is not below its
-- parent counts as Nothing and so does a kind above 6; a table that passes has neither.
-- Assumes nothing.
use Rattle.std.specs.Prelude.{ℕ, zero, suc, List, [], ◌∷◌, ◌++◌, get_or}
use Rattle.posix.specs.Expressions.{within, outside, Exp, nothing, empty, letter, or, seq, star}
use Rattle.table.specs.Records.{kind_at, a_at, b_at}

-- the expression of a record, given its kind, a, b and the expressions of the records below it
abbrev pub exp_with : List Exp → ℕ → ℕ → ℕ → Exp
exp_with es zero a b = nothing
exp_with es (suc zero) a b = empty
exp_with es (suc (suc zero)) a b = letter (within a b)
exp_with es (suc (suc (suc zero))) a b = or (get_or es a nothing) (get_or es b nothing)
exp_with es (suc (suc (suc (suc zero)))) a b = seq (get_or es a nothing) (get_or es b nothing)
exp_with es (suc (suc (suc (suc (suc zero))))) a b = star (get_or es a nothing)
exp_with es (suc (suc (suc (suc (suc (suc zero)))))) a b = letter (outside a b)
exp_with es (suc (suc (suc (suc (suc (suc (suc n))))))) a b = nothing

-- the expressions of the records below k, in their order
unfoldable pub below : List ℕ → ℕ → List Exp
below t zero = []
below t (suc k) = below t k ++ (exp_with (below t k) (kind_at t k) (a_at t k) (b_at t k) ∷ [])

-- the expression of record k
unfoldable pub exp_of : List ℕ → ℕ → Exp
exp_of t k = exp_with (below t k) (kind_at t k) (a_at t k) (b_at t k)
