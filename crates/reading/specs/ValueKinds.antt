-- The kinds of a reading's record by their numbers (document 01, "Readings").
-- Assumes nothing.
use Rattle.std.specs.Prelude.{ℕ, Result}
use Rattle.reading.specs.declared.ValueKind.{ValueKind}
use Rattle.reading.specs.declared.ValueKind.TheVariants.{Void, Byte, Left, Right, Both, Stars}
use Rattle.table.specs.declared.UnknownKind.{UnknownKind}
use Rattle.table.specs.Kinds.{DecodedBy}

-- the number of a kind
abbrev pub value_number : ValueKind → ℕ
value_number Void = 0
value_number Byte = 1
value_number Left = 2
value_number Right = 3
value_number Both = 4
value_number Stars = 5

-- the result is the kind with this number, or an error where no kind has it
abbrev pub Decodes : ℕ → Result ValueKind UnknownKind → Type 0
Decodes n r = DecodedBy value_number 5 n r
