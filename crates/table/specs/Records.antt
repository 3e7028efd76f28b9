-- The rule table of document 01, with the kind of document 02, request 1: records of 4 bytes, kind, a, b, tag, numbered from 0. A table is the
-- list t of its bytes.
-- Assumes nothing.
use Rattle.std.specs.Prelude.{ℕ, ◌+◌, ◌*◌, ◌/◌, Bool, ◌||◌, List, [], ◌∷◌, eqb, length, get_or, take}

-- m, how many records the table has
abbrev pub count : List ℕ → ℕ
count t = length t / 4

-- the table's records from 0 to k alone, and how many bytes they are
abbrev pub size_up_to : ℕ → ℕ
size_up_to k = 4 * (k + 1)

abbrev pub up_to : List ℕ → ℕ → List ℕ
up_to t k = take (size_up_to k) t

-- the four bytes of record k
abbrev pub kind_at : List ℕ → ℕ → ℕ
kind_at t k = get_or t (4 * k) 0

abbrev pub a_at : List ℕ → ℕ → ℕ
a_at t k = get_or t (4 * k + 1) 0

abbrev pub b_at : List ℕ → ℕ → ℕ
b_at t k = get_or t (4 * k + 2) 0

abbrev pub tag_at : List ℕ → ℕ → ℕ
tag_at t k = get_or t (4 * k + 3) 0

-- the bytes of a record by its fields, and those of record k
abbrev pub record_bytes : ℕ → ℕ → ℕ → ℕ → List ℕ
record_bytes kind a b tag = kind ∷ a ∷ b ∷ tag ∷ []

abbrev pub record_at : List ℕ → ℕ → List ℕ
record_at t k = record_bytes (kind_at t k) (a_at t k) (b_at t k) (tag_at t k)

-- the kinds by their numbers: record k is a Nothing, an Empty, ..
abbrev pub is_nothing : List ℕ → ℕ → Bool
is_nothing t k = eqb (kind_at t k) 0

abbrev pub is_empty : List ℕ → ℕ → Bool
is_empty t k = eqb (kind_at t k) 1

abbrev pub is_range : List ℕ → ℕ → Bool
is_range t k = eqb (kind_at t k) 2

abbrev pub is_or : List ℕ → ℕ → Bool
is_or t k = eqb (kind_at t k) 3

abbrev pub is_seq : List ℕ → ℕ → Bool
is_seq t k = eqb (kind_at t k) 4

abbrev pub is_star : List ℕ → ℕ → Bool
is_star t k = eqb (kind_at t k) 5

abbrev pub is_other : List ℕ → ℕ → Bool
is_other t k = eqb (kind_at t k) 6

-- record k is a letter, whose a and b are bounds: a Range or an Other
abbrev pub is_letter : List ℕ → ℕ → Bool
is_letter t k = is_range t k || is_other t k
