-- Tables and what Apart answers of them.
-- Assumes nothing.
use Rattle.std.specs.Prelude.{ℕ, List, [], ◌∷◌}
use Rattle.table.specs.Answers.{Said, gives, refuses}
use Rattle.reorder.specs.Cases.{T1, Keyword}
use Rattle.apart.specs.Calls.{apart_says}

-- a table, a record's number and the answer
pub record Case : Type 0 where
  pub table : List ℕ
  pub number : ℕ
  pub said : Said

-- two Empties
abbrev pub Empties : List ℕ
Empties = 1 ∷ 0 ∷ 0 ∷ 1 ∷ 1 ∷ 0 ∷ 0 ∷ 2 ∷ 3 ∷ 0 ∷ 1 ∷ 0 ∷ []

-- byte 255, or any byte from 200 on
abbrev pub Highest : List ℕ
Highest = 2 ∷ 255 ∷ 255 ∷ 1 ∷ 2 ∷ 200 ∷ 255 ∷ 2 ∷ 3 ∷ 0 ∷ 1 ∷ 0 ∷ []

-- an Or that names itself
abbrev pub Itself : List ℕ
Itself = 1 ∷ 0 ∷ 0 ∷ 0 ∷ 3 ∷ 1 ∷ 0 ∷ 0 ∷ []

abbrev pub cases : List Case
cases =
    -- a and ab have other last bytes, and a and ab another first byte than bc
    record { table = T1; number = 7; said = gives 1 }
    ∷ record { table = T1; number = 8; said = gives 1 }
    ∷ record { table = T1; number = 6; said = gives 0 }
    ∷ record { table = T1; number = 9; said = gives 0 }
    ∷ record { table = T1; number = 10; said = refuses 9 0 }
    ∷ record { table = Keyword; number = 11; said = gives 0 }
    ∷ record { table = Empties; number = 2; said = gives 0 }
    ∷ record { table = Highest; number = 2; said = gives 0 }
    ∷ record { table = Itself; number = 1; said = refuses 5 1 }
    ∷ record { table = []; number = 0; said = refuses 1 0 }
    ∷ []

abbrev pub stated : Case → Said
stated c = c.said

unfoldable pub computed : Case → Said
computed c = apart_says c.table c.number
