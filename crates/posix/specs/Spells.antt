-- The decision of 'r spells s', which the work area holds. It computes, by recursion on the line as parse does.
-- Assumes nothing.
use Rattle.std.specs.Prelude.{ℕ, zero, suc, Bool, true, false, ◌&&◌, ◌||◌, List, [], ◌∷◌, length}
use Rattle.posix.specs.Expressions.{holds, Exp, nothing, empty, letter, or, seq, star}

-- some cut of the line has its first part in A and its second in B
abbrev pub some_cut : (A B : List ℕ → Bool) → List ℕ → Bool
some_cut A B [] = A [] && B []
some_cut A B (c ∷ s) = some_cut (λ t. A (c ∷ t)) B s || (A [] && B (c ∷ s))

-- the line is a row of non-empty parts in A; the first number bounds how many, and the line's length is enough
abbrev pub some_cuts : ℕ → (List ℕ → Bool) → List ℕ → Bool
some_cuts zero A [] = true
some_cuts zero A (c ∷ s) = false
some_cuts (suc n) A [] = true
some_cuts (suc n) A (c ∷ s) = some_cut (λ t. A (c ∷ t)) (some_cuts n A) s

-- the expression spells the line
abbrev pub spells : Exp → List ℕ → Bool
spells nothing s = false
spells empty [] = true
spells empty (c ∷ s) = false
spells (letter b) [] = false
spells (letter b) (c ∷ []) = holds b c
spells (letter b) (c ∷ (d ∷ s)) = false
spells (or r1 r2) s = spells r1 s || spells r2 s
spells (seq r1 r2) s = some_cut (spells r1) (spells r2) s
spells (star r) s = some_cuts (length s) (spells r) s
