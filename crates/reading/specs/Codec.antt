-- Readings as bytes (document 01, "Readings", and document 02, request 6): a value written parent first, in records of 4 bytes, "kind, argument, bytes
-- spelled, table record number"; and read back.
-- Assumes nothing.
use Rattle.std.specs.Prelude.{ℕ, zero, suc, ◌+◌, Bool, true, false, ◌&&◌, List, [], ◌∷◌, ◌++◌, eqb, leb, length, get_or}
use Rattle.posix.specs.Expressions.{holds, Exp, nothing, empty, letter, or, seq, star}
use Rattle.posix.specs.Values.{Val, void, byte, left, right, pair, none, more, flat}
use Rattle.table.specs.Records.{a_at, b_at}

-- how many bytes a record has
abbrev pub record_size : ℕ
record_size = 4

-- a record by its fields: its kind, its argument, how many bytes its part spells, and the number of the table's record that reads the part
pub record Record : Type 0 where
  pub kind : ℕ
  pub argument : ℕ
  pub size : ℕ
  pub number : ℕ

-- its bytes
abbrev pub record_bytes : Record → List ℕ
record_bytes r = r.kind ∷ (r.argument ∷ (r.size ∷ (r.number ∷ [])))

-- the same by the fields
abbrev pub record_with : ℕ → ℕ → ℕ → ℕ → List ℕ
record_with x y n k = record_bytes (record { kind = x; argument = y; size = n; number = k })

-- the record whose bytes stand at a place
abbrev pub record_at : List ℕ → ℕ → Record
record_at bs at = record { kind = get_or bs at 0; argument = get_or bs (at + 1) 0; size = get_or bs (at + 2) 0; number = get_or bs (at + 3) 0 }

-- the records of a byte sequence; less than a record at its end is none
abbrev pub records_of : List ℕ → List Record
records_of [] = []
records_of (x ∷ []) = []
records_of (x ∷ (y ∷ [])) = []
records_of (x ∷ (y ∷ (n ∷ []))) = []
records_of (x ∷ (y ∷ (n ∷ (k ∷ bs)))) = record { kind = x; argument = y; size = n; number = k } ∷ records_of bs

-- a value's kind: 0 Void, 1 Byte, 2 Left, 3 Right, 4 Seq, 5 Stars
abbrev pub kind_of : Val → ℕ
kind_of void = 0
kind_of (byte c) = 1
kind_of (left v) = 2
kind_of (right v) = 3
kind_of (pair v w) = 4
kind_of none = 5
kind_of (more v w) = 5

-- its argument: a Byte's byte, the count of the iterations of Stars, otherwise 0
abbrev pub argument_of : Val → ℕ
argument_of void = 0
argument_of (byte c) = c
argument_of (left v) = 0
argument_of (right v) = 0
argument_of (pair v w) = 0
argument_of none = 0
argument_of (more v w) = suc (argument_of w)

-- the record of a value that the table's record k reads
abbrev pub head_of : ℕ → Val → Record
head_of k v = record { kind = kind_of v; argument = argument_of v; size = length (flat v); number = k }

-- the records below that of a value that record k of the table reads: those of its children, one behind the other. What follows an iteration is a
-- value of the same Star.
abbrev pub encode_below : List ℕ → ℕ → Val → List ℕ
encode_below t k void = []
encode_below t k (byte c) = []
encode_below t k (left v) = record_bytes (head_of (a_at t k) v) ++ encode_below t (a_at t k) v
encode_below t k (right v) = record_bytes (head_of (b_at t k) v) ++ encode_below t (b_at t k) v
encode_below t k (pair v w) =
    (record_bytes (head_of (a_at t k) v) ++ encode_below t (a_at t k) v) ++ (record_bytes (head_of (b_at t k) w) ++ encode_below t (b_at t k) w)
encode_below t k none = []
encode_below t k (more v w) = (record_bytes (head_of (a_at t k) v) ++ encode_below t (a_at t k) v) ++ encode_below t k w

-- the records of a value that record k of the table reads
abbrev pub encode : List ℕ → ℕ → Val → List ℕ
encode t k v = record_bytes (head_of k v) ++ encode_below t k v

-- what stands at the front of a byte list: a reading and the bytes over, or none that fits
pub data Decoded : Type 0 where
  fits : Val → List ℕ → Decoded
  unfit : Decoded

-- the reading under a constructor
abbrev pub under : (Val → Val) → Decoded → Decoded
under f (fits v rest) = fits (f v) rest
under f unfit = unfit

-- the first reading, then what the second reader finds in the bytes over, both under a constructor
abbrev pub chain : (Val → Val → Val) → Decoded → (List ℕ → Decoded) → Decoded
chain f (fits v rest) D = under (f v) (D rest)
chain f unfit D = unfit

-- the first answer where the test is true, otherwise the second
abbrev pub pick : Bool → Decoded → Decoded → Decoded
pick true x y = x
pick false x y = y

-- the answer where its reading spells at least one byte
abbrev pub spelling : List ℕ → Decoded → Decoded
spelling [] x = unfit
spelling (c ∷ s) x = x

abbrev pub non_empty : Decoded → Decoded
non_empty (fits v rest) = spelling (flat v) (fits v rest)
non_empty unfit = unfit

-- n iterations by the reader D, each spelling at least one byte
abbrev pub decode_items : (List ℕ → Decoded) → ℕ → List ℕ → Decoded
decode_items D zero bs = fits none bs
decode_items D (suc n) bs = chain more (non_empty (D bs)) (decode_items D n)

-- a written length: a byte, and the true one
abbrev pub is_length : ℕ → ℕ → Bool
is_length n size = eqb n size && leb n 255

-- the answer where its reading spells as many bytes as are written
abbrev pub held : ℕ → Decoded → Decoded
held n (fits v rest) = pick (is_length n (length (flat v))) (fits v rest) unfit
held n unfit = unfit

-- what f makes of the first record's kind and argument and the bytes after it, where the record has the number k and the length that is spelled;
-- unfit where less than a record is left
abbrev pub at_record : ℕ → (ℕ → ℕ → List ℕ → Decoded) → List ℕ → Decoded
at_record k f [] = unfit
at_record k f (x ∷ []) = unfit
at_record k f (x ∷ (y ∷ [])) = unfit
at_record k f (x ∷ (y ∷ (n ∷ []))) = unfit
at_record k f (x ∷ (y ∷ (n ∷ (i ∷ bs)))) = held n (pick (eqb i k) (f x y bs) unfit)

-- the reading of r at the front of the bytes, and the bytes over; r is the expression of record k of the table
abbrev pub decode : List ℕ → ℕ → Exp → List ℕ → Decoded
decode t k nothing bs = unfit
decode t k empty bs = at_record k (λ x y rest. pick (eqb x 0 && eqb y 0) (fits void rest) unfit) bs
decode t k (letter b) bs = at_record k (λ x y rest. pick (eqb x 1 && holds b y) (fits (byte y) rest) unfit) bs
decode t k (or r1 r2) bs =
    at_record k
    (λ x y rest.
    pick (eqb x 2 && eqb y 0) (under left (decode t (a_at t k) r1 rest))
    (pick (eqb x 3 && eqb y 0) (under right (decode t (b_at t k) r2 rest)) unfit))
    bs
decode t k (seq r1 r2) bs =
    at_record k
    (λ x y rest. pick (eqb x 4 && eqb y 0) (chain pair (decode t (a_at t k) r1 rest) (λ over. decode t (b_at t k) r2 over)) unfit)
    bs
decode t k (star r) bs = at_record k (λ x y rest. pick (eqb x 5) (decode_items (λ over. decode t (a_at t k) r over) y rest) unfit) bs
