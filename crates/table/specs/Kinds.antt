-- The kinds of a record by their numbers (document 01, "The rule table", and document 02, request 1).
-- Assumes nothing.
use Rattle.std.specs.Prelude.{ℕ, ◌<◌, ◌≡◌, Result, MatchResult}
use Rattle.table.specs.declared.Kind.{Kind}
use Rattle.table.specs.declared.Kind.TheVariants.{Nothing, Empty, Range, Or, Seq, Star, Other}
use Rattle.table.specs.declared.UnknownKind.{UnknownKind}

-- the number of a kind
abbrev pub number_of : Kind → ℕ
number_of Nothing = 0
number_of Empty = 1
number_of Range = 2
number_of Or = 3
number_of Seq = 4
number_of Star = 5
number_of Other = 6

-- the result is the kind with this number, or an error where none has it: kinds have the numbers up to the last
abbrev pub DecodedBy : {K : Type 0} → (K → ℕ) → ℕ → ℕ → Result K UnknownKind → Type 0
DecodedBy number last n r = MatchResult r (λ kind. number kind ≡ n) (λ _. last < n)

abbrev pub Decodes : ℕ → Result Kind UnknownKind → Type 0
Decodes n r = DecodedBy number_of 6 n r
