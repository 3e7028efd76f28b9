-- A refusal by its number and its detail.
-- Assumes nothing.
use mathlib.Core.Path.{◌≡◌, refl}
use Rattle.table.specs.declared.Refusal.{Refusal}
use Rattle.table.specs.declared.Refusal.TheVariants.{Size, Kind, Unused, Bounds, Child, Named, Line, NoReading, Start, Work, Buffer, Unfit, Differ, Text, Records, Pairs, TokenBytes, EmptyLine, Lines}
use Rattle.table.specs.Answers.{refuses, refusal, number_in, detail_in}

-- what is said of a refusal is that it has its number and its detail
pub refusal-shown : (why : Refusal) → refuses (number_in (refusal why)) (detail_in (refusal why)) ≡ refusal why
refusal-shown Size = refl
refusal-shown (Kind k) = refl
refusal-shown (Unused k) = refl
refusal-shown (Bounds k) = refl
refusal-shown (Child k) = refl
refusal-shown (Named k) = refl
refusal-shown Line = refl
refusal-shown NoReading = refl
refusal-shown Start = refl
refusal-shown Work = refl
refusal-shown (Buffer n) = refl
refusal-shown (Unfit i) = refl
refusal-shown Differ = refl
refusal-shown Text = refl
refusal-shown Records = refl
refusal-shown Pairs = refl
refusal-shown TokenBytes = refl
refusal-shown EmptyLine = refl
refusal-shown Lines = refl
