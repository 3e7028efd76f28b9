-- The executable comparison of two readings: their sizes in the order of the paths, compared number by number; and what
-- its verdict says of the precedence.
-- Assumes nothing.
use Rattle.std.specs.Prelude.{ℕ, suc, ◌≡◌, Bool, true, false, List, [], ◌∷◌, ◌++◌, ltb, length}
use Rattle.posix.specs.Values.{Val, void, byte, left, right, pair, none, more, flat}
use Rattle.posix.specs.Precedence.{Ahead}

-- Compare's answers 0, 1 and 2: the same, the first ranks ahead, the second does
pub data Verdict : Type 0 where
  same : Verdict
  first : Verdict
  second : Verdict

-- the sizes at the paths below the value's root, in the order of the paths and as size_at counts them, with 0 at the first path of Right and
-- after the last iteration of Stars, which a rival may have and the value has not
abbrev pub sizes_below : Val → List ℕ
sizes_below void = []
sizes_below (byte c) = []
sizes_below (left v) = suc (length (flat v)) ∷ sizes_below v
sizes_below (right v) = 0 ∷ (suc (length (flat v)) ∷ sizes_below v)
sizes_below (pair v w) = (suc (length (flat v)) ∷ sizes_below v) ++ (suc (length (flat w)) ∷ sizes_below w)
sizes_below none = 0 ∷ []
sizes_below (more v w) = (suc (length (flat v)) ∷ sizes_below v) ++ sizes_below w

-- the same with the size at the root
abbrev pub sizes : Val → List ℕ
sizes v = suc (length (flat v)) ∷ sizes_below v

-- the first verdict where the test is true, otherwise the second
abbrev pub choose : Bool → Verdict → Verdict → Verdict
choose true a b = a
choose false a b = b

-- at the first difference the larger number is ahead
abbrev pub first_larger : List ℕ → List ℕ → Verdict
first_larger [] ys = same
first_larger (x ∷ xs) [] = same
first_larger (x ∷ xs) (y ∷ ys) = choose (ltb y x) first (choose (ltb x y) second (first_larger xs ys))

-- which of two readings of one expression and one line ranks ahead
abbrev pub rank : Val → Val → Verdict
rank v w = first_larger (sizes v) (sizes w)

-- what a verdict on v and w says of the precedence
pub data Ranked (v w : Val) : Verdict → Type 0 where
  is_same : v ≡ w → Ranked v w same
  is_first : Ahead v w → Ranked v w first
  is_second : Ahead w v → Ranked v w second
