-- Readings with Left and Right exchanged (document 02, request 9): what Read writes by a table with alternatives exchanged.
-- Assumes nothing.
use Rattle.std.specs.Prelude.{ℕ, Bool, cond, List, [], ◌∷◌, ◌++◌, eqb}
use Rattle.reading.specs.Codec.{Record, record_bytes, records_of}

-- Left for Right and Right for Left; other kinds stay
abbrev pub other_side : ℕ → ℕ
other_side kind = cond (eqb kind 2) 3 (cond (eqb kind 3) 2 kind)

-- a record of a reading, with its kind so exchanged where x is true of its table record's number
abbrev pub mirror : (ℕ → Bool) → Record → Record
mirror x r =
    record {
      kind = cond (x r.number) (other_side r.kind) r.kind;
      argument = r.argument;
      size = r.size;
      number = r.number;
    }

-- the bytes of a reading, each record so
abbrev pub mirrored_records : (ℕ → Bool) → List Record → List ℕ
mirrored_records x [] = []
mirrored_records x (r ∷ rs) = record_bytes (mirror x r) ++ mirrored_records x rs

abbrev pub mirrored : (ℕ → Bool) → List ℕ → List ℕ
mirrored x bs = mirrored_records x (records_of bs)
