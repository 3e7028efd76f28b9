-- What the work area tells (document 02, request 4): for every record and every part of the line, whether the record spells the part.
-- Assumes nothing.
use Rattle.std.specs.Prelude.{ℕ, ◌-◌, ◌≤◌, ◌<◌, ◌≡◌, List, length, take, drop}
use Rattle.posix.specs.Spells.{spells}
use Rattle.table.specs.Records.{count}
use Rattle.table.specs.Expression.{exp_of}
use Rattle.rows.specs.Layout.{tells}

-- the first e of the last d bytes of the line
unfoldable pub part : List ℕ → ℕ → ℕ → List ℕ
part s d e = take e (drop (length s - d) s)

-- the area tells the truth of every record and every part of the line. The area's layout does not go by the line's length: for the bytes
-- from one of a line's bytes on, this says that it tells the truth of every record and every part that starts at that byte or later.
pub record Told (t s w : List ℕ) : Type 0 where
  pub fact : (k d e : ℕ) → k < count t → d ≤ length s → e ≤ d → tells (count t) w k d e ≡ spells (exp_of t k) (part s d e)
