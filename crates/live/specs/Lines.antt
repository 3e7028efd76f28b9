-- What a live line holds (document 02, request 7): "A live line is made afresh from a table and start number, holding a copy of both and no
-- bytes .. A refused one holds one Nothing record, start 0 and no bytes."
-- Assumes nothing.
use Rattle.std.specs.Prelude.{ℕ, ◌+◌, ◌-◌, List, [], ◌++◌, length, take, set, replicate}
use Rattle.table.specs.Records.{record_bytes}
use Rattle.live.specs.declared.LiveLine.{LiveLine}

-- the table and the bytes of a live line, whose sizes are not above those of the arrays
abbrev pub table_of : LiveLine → List ℕ
table_of h = take h.size h.table

abbrev pub bytes_of : LiveLine → List ℕ
bytes_of h = take h.count h.bytes

-- bytes in an array of n, the spare ones 0
abbrev pub padded : ℕ → List ℕ → List ℕ
padded n xs = xs ++ replicate (n - length xs) 0

-- the live line of a table, a start number and bytes, every byte of its arrays
abbrev pub holding : List ℕ → ℕ → List ℕ → LiveLine
holding t k s = record { table = padded 1020 t; size = length t; start = k; bytes = padded 255 s; count = length s }

-- the refused one
abbrev pub refused_line : LiveLine
refused_line = holding (record_bytes 0 0 0 0) 0 []

-- the live line with other bytes
abbrev pub with_bytes : LiveLine → List ℕ → ℕ → LiveLine
with_bytes h bytes n = record { table = h.table; size = h.size; start = h.start; bytes = bytes; count = n }

-- the live line with a byte more: "Add puts a byte at its end"
abbrev pub lengthened : LiveLine → ℕ → LiveLine
lengthened h c =
    record { table = h.table; size = h.size; start = h.start; bytes = set h.bytes h.count c; count = h.count + 1 }

-- the live line without its last byte, in whose place 0 stands: "Take back removes the last one"
abbrev pub shortened : LiveLine → LiveLine
shortened h =
    record { table = h.table; size = h.size; start = h.start; bytes = set h.bytes (h.count - 1) 0; count = h.count - 1 }
