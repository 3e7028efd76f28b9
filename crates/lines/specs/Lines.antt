-- The lines of an input (document 01, "The program and the host"): "lines ended by byte 10 .. a last line may lack it". A closing byte 10
-- opens no further line, one byte 10 alone is one empty line, and an empty input has no line.
-- Assumes nothing.
use Rattle.std.specs.Prelude.{ℕ, ◌<◌, ◌≡◌, Bool, true, false, List, [], ◌∷◌, ◌++◌, eqb, length, get_or, take}

-- the first where the test is true, otherwise the second
abbrev pub pick_lines : Bool → List (List ℕ) → List (List ℕ) → List (List ℕ)
pick_lines true a b = a
pick_lines false a b = b

abbrev pub pick_line : Bool → List ℕ → List ℕ → List ℕ
pick_line true a b = a
pick_line false a b = b

-- the lines with one byte more in front of the first, which it opens where there is none
abbrev pub on_first : ℕ → List (List ℕ) → List (List ℕ)
on_first c [] = (c ∷ []) ∷ []
on_first c (s ∷ ss) = (c ∷ s) ∷ ss

-- the lines of an input, without the bytes that end them
abbrev pub lines_of : List ℕ → List (List ℕ)
lines_of [] = []
lines_of (c ∷ s) = pick_lines (eqb c 10) ([] ∷ lines_of s) (on_first c (lines_of s))

-- The same for an input that comes in blocks. Where u is what there is of the line that has not ended yet:
-- the lines that end in the block s,
abbrev pub ended_lines : List ℕ → List ℕ → List (List ℕ)
ended_lines u [] = []
ended_lines u (c ∷ s) = pick_lines (eqb c 10) (u ∷ ended_lines [] s) (ended_lines (u ++ (c ∷ [])) s)

-- what there is of the next line after the block s,
abbrev pub open_line : List ℕ → List ℕ → List ℕ
open_line u [] = u
open_line u (c ∷ s) = pick_line (eqb c 10) (open_line [] s) (open_line (u ++ (c ∷ [])) s)

-- and the last line, at the end of the input: none where nothing stands behind the last byte 10
abbrev pub last_line : List ℕ → List (List ℕ)
last_line [] = []
last_line (c ∷ u) = (c ∷ u) ∷ []

-- the bytes of a line that are kept: enough to see that it is over 255 bytes long
abbrev pub kept_of : List ℕ → List ℕ
kept_of s = take 256 s

-- lines joined by byte 10: between each two of them one
abbrev pub join_lines : List (List ℕ) → List ℕ
join_lines [] = []
join_lines (s ∷ []) = s
join_lines (s ∷ (u ∷ ss)) = s ++ (10 ∷ join_lines (u ∷ ss))

-- no byte of s is 10, and so for each of some lines
abbrev pub NoEnd : List ℕ → Type 0
NoEnd s = (i : ℕ) → i < length s → get_or s i 0 ≡ 10 → ⊥

abbrev pub Plain : List (List ℕ) → Type 0
Plain [] = Unit {0}
Plain (s ∷ ss) = NoEnd s × Plain ss
