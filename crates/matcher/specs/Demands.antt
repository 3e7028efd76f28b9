-- Demand 3 of Read: no byte sequence that fits the start record and spells the line outranks what it writes.
-- Assumes nothing.
use Rattle.std.specs.Prelude.{ℕ, ◌*◌, ◌≤◌, ◌<◌, ◌≡◌, List, ◌++◌, ◌↔◌, length, drop}
use Rattle.posix.specs.Language.{Bytes}
use Rattle.table.specs.Records.{count}
use Rattle.table.specs.Faults.{Passes}
use Rattle.table.specs.Answers.{Said, gives, refuses}
use Rattle.reading.specs.Codec.{record_size}
use Rattle.reading.specs.Fitting.{Fits, spelled}
use Rattle.ranking.specs.Answers.{compare_says}
use Rattle.matcher.specs.Calls.{work_size}

-- a byte sequence that fits the start record and spells the line
pub record Rival (t : List ℕ) (k : ℕ) (s bs : List ℕ) : Type 0 where
  pub bytes : Bytes bs
  pub fits : Fits t k bs
  pub spells : spelled bs ≡ s

-- one that does both and that Compare, lent the two in either order, ranks ahead of every other that does
pub record Best (t : List ℕ) (k : ℕ) (s bs : List ℕ) : Type 0 where
  pub rival : Rival t k s bs
  pub ahead : (cs : List ℕ) → Rival t k s cs → ¬ (cs ≡ bs) → (compare_says t k bs cs ≡ gives 1) × (compare_says t k cs bs ≡ gives 2)

-- demand 3's setting: a table that Check passes, a start number in it, a line of at most 255 bytes, a work area long enough
pub record Setting (t : List ℕ) (k : ℕ) (s : List ℕ) (work : ℕ) : Type 0 where
  pub passes : Passes t
  pub inside : k < count t
  pub line : Bytes s
  pub short : length s ≤ 255
  pub enough : work_size (count t) (length s) ≤ work

-- what Read does where a byte sequence fits and spells the line: there is one best one; 11 exactly when the buffer is shorter than it, with
-- the bytes needed; otherwise it is written, the later bytes are left, and its record count is returned. `answered x` says that the answer is
-- x; out is the buffer before and final the buffer afterwards.
pub record ReadsBest (answered : Said → Type 0) (t : List ℕ) (k : ℕ) (s out final : List ℕ) : Type 0 where
  pub reading : List ℕ
  pub best : Best t k s reading
  pub only : (bs : List ℕ) → Best t k s bs → bs ≡ reading
  pub too_short : (d : ℕ) → answered (refuses 11 d) ↔ ((length out < length reading) × (d ≡ length reading))
  pub records : ℕ
  pub whole_records : length reading ≡ record_size * records
  pub written : length reading ≤ length out → answered (gives records) × (final ≡ reading ++ drop (length reading) out)

-- demand 3 of Read's answer and of the buffer's bytes: 8 exactly when no byte sequence fits the start record and spells the line, otherwise
-- the best one
pub record NoneOutranks (answered : Said → Type 0) (t : List ℕ) (k : ℕ) (s out final : List ℕ) : Type 0 where
  pub none : answered (refuses 8 0) ↔ ((bs : List ℕ) → ¬ (Rival t k s bs))
  pub otherwise : ¬ (answered (refuses 8 0)) → ReadsBest answered t k s out final
