-- What Compare answers, and which reading Earlier hands back (document 01, "Precedence of readings", and the order of refusals in "Who is
-- refused, and by which number").
-- Assumes nothing.
use Rattle.std.specs.Prelude.{ℕ, zero, suc, Bool, true, false, not, ◌&&◌, List, [], ◌∷◌, eqb}
use Rattle.posix.specs.Values.{Val, flat}
use Rattle.posix.specs.Decision.{Parsed, found, missing}
use Rattle.posix.specs.Ranking.{Verdict, same, first, second, rank}
use Rattle.table.specs.Answers.{Said, gives, refuses}
use Rattle.table.specs.Checked.{or_else}
use Rattle.reading.specs.Fitting.{reading_of}
use Rattle.reading.specs.Calls.{if_start}

-- Compare's results: "It returns 1 if the first ranks ahead, 2 if the second does, 0 if the bytes are the same."
abbrev pub verdict_number : Verdict → ℕ
verdict_number same = 0
verdict_number first = 1
verdict_number second = 2

-- the two lines are the same
abbrev pub same_line : List ℕ → List ℕ → Bool
same_line [] [] = true
same_line [] (d ∷ s) = false
same_line (c ∷ s) [] = false
same_line (c ∷ s) (d ∷ u) = eqb c d && same_line s u

-- 14, then the ranking
abbrev pub compare_values : Val → Val → Said
compare_values v w = or_else (not (same_line (flat v) (flat w))) (refuses 14 0) (gives (verdict_number (rank v w)))

-- 12 first, 12 second, then the rest
abbrev pub compare_parsed : Parsed → Parsed → Said
compare_parsed missing missing = refuses 12 0
compare_parsed missing (found w) = refuses 12 0
compare_parsed (found v) missing = refuses 12 1
compare_parsed (found v) (found w) = compare_values v w

unfoldable pub compare_says : List ℕ → ℕ → List ℕ → List ℕ → Said
compare_says t k bs cs = if_start t k (compare_parsed (reading_of t k bs) (reading_of t k cs))

-- Earlier: which of the two is handed back, the second exactly where Compare gives 2, none where Compare refuses
pub data Chosen : Type 0 where
  the_first : Chosen
  the_second : Chosen
  neither : Chosen

abbrev pub chosen : Said → Chosen
chosen (gives zero) = the_first
chosen (gives (suc zero)) = the_first
chosen (gives (suc (suc n))) = the_second
chosen (refuses n d) = neither
