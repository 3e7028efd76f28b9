-- Which byte sequences fit a record, and the line that one spells (document 01, "Readings", and document 02, request 6).
-- Assumes nothing.
use Rattle.std.specs.Prelude.{ℕ, ◌+◌, ◌≤◌, ◌≡◌, Bool, true, false, List, [], ◌∷◌, eqb, leb, length}
use Rattle.posix.specs.Values.{Val, Reads, flat}
use Rattle.posix.specs.Decision.{Parsed, found, missing}
use Rattle.table.specs.Expression.{exp_of}
use Rattle.reading.specs.Codec.{record_size, Record, records_of, Decoded, fits, unfit, encode, decode}

-- "A byte sequence fits a start record if it is one such reading with no byte over": bs is the encoding of v, a reading of record k, with the true
-- lengths and record numbers. "A length over 255 can't be written", so v spells at most 255 bytes; of bytes that are such an encoding this is no
-- further condition (reading.proofs.Fitting.bytes-fit).
pub record Fits (t : List ℕ) (k : ℕ) (bs : List ℕ) : Type 0 where
  pub value : Val
  pub reads : Reads (exp_of t k) value
  pub encoded : bs ≡ encode t k value
  pub short : length (flat value) ≤ 255

-- "It then spells the line of its Byte arguments in order."
abbrev pub argument_if : Bool → ℕ → List ℕ → List ℕ
argument_if true y s = y ∷ s
argument_if false y s = s

abbrev pub byte_arguments : List Record → List ℕ
byte_arguments [] = []
byte_arguments (r ∷ rs) = argument_if (eqb r.kind 1) r.argument (byte_arguments rs)

abbrev pub spelled : List ℕ → List ℕ
spelled bs = byte_arguments (records_of bs)

-- the kinds and arguments of a byte sequence's records, without their lengths and numbers
abbrev pub without_lengths : List Record → List ℕ
without_lengths [] = []
without_lengths (r ∷ rs) = r.kind ∷ (r.argument ∷ without_lengths rs)

abbrev pub kinds_and_arguments : List ℕ → List ℕ
kinds_and_arguments bs = without_lengths (records_of bs)

-- the reading that decoding finds, if no byte is over
abbrev pub whole : Decoded → Parsed
whole (fits v []) = found v
whole (fits v (x ∷ bs)) = missing
whole unfit = missing

-- the reading of record k that the bytes are, if they fit
unfoldable pub reading_of : List ℕ → ℕ → List ℕ → Parsed
reading_of t k bs = whole (decode t k (exp_of t k) bs)

-- "A place in a reading moves on by one record; at the end, or with less than a record left, it stays."
abbrev pub place_if : Bool → ℕ → ℕ → ℕ
place_if true a b = a
place_if false a b = b

abbrev pub stepped : List ℕ → ℕ → ℕ
stepped bs at = place_if (leb (at + record_size) (length bs)) (at + record_size) at
