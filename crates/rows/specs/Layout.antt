-- The layout of the work area (document 01, "Read and its space"): for each record and each number d of bytes from a start to the line's end, a
-- header and a row. What is above goes by `tells`, `has` and `longest_at`; `plans` and `area` also by where headers and rows stand, to store those
-- of block 0 and of plain records.
-- Assumes nothing.
use Rattle.std.specs.Prelude.{ℕ, zero, suc, ◌+◌, ◌*◌, Bool, cond, not, ◌&&◌, ◌||◌, List, leb, eqb, get_or}

-- 1 + 2 + .. + d
unfoldable pub tri : ℕ → ℕ
tri zero = 0
tri (suc d) = tri d + suc d

-- "For a line of n bytes the work area has at least m times (n+1) times (n+2) / 2 bytes."
unfoldable pub area_size : ℕ → ℕ → ℕ
area_size m n = m * tri (suc n)

-- Block d is behind the blocks of fewer bytes: a header for each record, then a row of d bytes for each record.
unfoldable pub head_at : ℕ → ℕ → ℕ → ℕ
head_at m d k = m * tri d + k

unfoldable pub row_at : ℕ → ℕ → ℕ → ℕ
row_at m d k = m * tri d + m + k * d

-- a fact is a byte that is not 0
unfoldable pub is_set : ℕ → Bool
is_set x = not (eqb x 0)

-- The header of record k in block d, for d above 0: no part that starts there and that the record spells has more bytes.
unfoldable pub longest_at : List ℕ → ℕ → ℕ → ℕ → ℕ
longest_at w m d k = get_or w (head_at m d k) 0

-- Byte 0 of the row: where it is not 0, the row is the run of lengths from it to the header. It is not looked at where the header is 0 or 1.
unfoldable pub lowest_at : List ℕ → ℕ → ℕ → ℕ → ℕ
lowest_at w m d k = cond (leb (longest_at w m d k) 1) 1 (get_or w (row_at m d k) 0)

-- Byte e of the row, for 0 < e < d, looked at where the row is not a run.
unfoldable pub mark_at : List ℕ → ℕ → ℕ → ℕ → ℕ → ℕ
mark_at w m d k e = get_or w (row_at m d k + e) 0

-- what a row of block d tells of the length e by its header, its lowest length, and its byte e
unfoldable pub in_row : (d longest lowest mark e : ℕ) → Bool
in_row d longest lowest mark e = leb e longest && cond (is_set lowest) (leb lowest e) (eqb e d || is_set mark)

-- what the area of a table of m records tells of record k and the first e of the last d bytes of the line, for 0 < e ≤ d
unfoldable pub has : ℕ → List ℕ → ℕ → ℕ → ℕ → Bool
has m w k d e = in_row d (longest_at w m d k) (lowest_at w m d k) (mark_at w m d k e) e

-- the same for e ≤ d: the headers of block 0 tell of the empty part
unfoldable pub tells : ℕ → List ℕ → ℕ → ℕ → ℕ → Bool
tells m w k d zero = is_set (get_or w (head_at m 0 k) 0)
tells m w k d (suc e) = has m w k d (suc e)
