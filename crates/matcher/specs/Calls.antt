-- What Read answers, and what it leaves in the output buffer and in the work area (document 01, "Read and its space", and the order of refusals
-- in "Who is refused, and by which number").
-- Assumes nothing.
use Rattle.std.specs.Prelude.{ℕ, ◌+◌, ◌*◌, ◌/◌, ◌≡◌, Bool, false, not, ◌||◌, List, ◌++◌, ltb, eqb, length, drop}
use Rattle.posix.specs.Values.{Val, records, Reads}
use Rattle.posix.specs.Relation.{Posix}
use Rattle.posix.specs.Precedence.{Ahead}
use Rattle.posix.specs.Decision.{Parsed, found, missing, parse}
use Rattle.table.specs.Records.{count}
use Rattle.table.specs.Answers.{Said, gives, refuses}
use Rattle.table.specs.Checked.{or_else}
use Rattle.table.specs.Expression.{exp_of}
use Rattle.reading.specs.Codec.{encode}
use Rattle.reading.specs.Fitting.{Fits, spelled}
use Rattle.table.specs.Buffers.{if_room, after}
use Rattle.reading.specs.Calls.{if_start, bytes_of}

-- "For a line of n bytes the work area has at least m times (n+1) times (n+2) / 2 bytes."
abbrev pub work_size : ℕ → ℕ → ℕ
work_size m n = m * (n + 1) * (n + 2) / 2

-- 8 where the record does not spell the line, otherwise 11 or the reading's record count
abbrev pub read_parsed : List ℕ → ℕ → Parsed → ℕ → Said
read_parsed t k missing room = refuses 8 0
read_parsed t k (found v) room = if_room room (encode t k v) (records v)

-- Read: 1 to 6, 9, 7, 10, 8, 11, or the record count of the reading that the relation gives the line (parse finds it: regex.proofs.Found)
unfoldable pub read_says : List ℕ → ℕ → List ℕ → ℕ → ℕ → Said
read_says t k s work room =
    if_start t k
    (or_else (ltb 255 (length s)) (refuses 7 0)
    (or_else (ltb work (work_size (count t) (length s))) (refuses 10 0) (read_parsed t k (parse (exp_of t k) s) room)))

-- the output buffer after Read: the reading in front and the later bytes left, or nothing changed
unfoldable pub read_leaves : List ℕ → ℕ → List ℕ → ℕ → List ℕ → List ℕ
read_leaves t k s work out = after (read_says t k s work (length out)) (bytes_of (parse (exp_of t k) s) (λ v. encode t k v)) out

-- "The work area is untouched by 1 to 7, 9 and 10; after 8, 11 or success its content is free."
abbrev pub keeps_work : Said → Bool
keeps_work (gives n) = false
keeps_work (refuses n d) = not (eqb n 8 || eqb n 11)

-- a result n of Read: the POSIX reading of the line by the start record stands at the front of the buffer, with the later bytes left, and n
-- is its record count
pub record PosixWritten (t : List ℕ) (k : ℕ) (s out final : List ℕ) (n : ℕ) : Type 0 where
  pub value : Val
  pub posix : Posix s (exp_of t k) value
  pub counted : n ≡ records value
  pub written : final ≡ encode t k value ++ drop (length (encode t k value)) out

-- no byte sequence that fits the start record and spells the line ranks ahead of the reading that stands at the front of the buffer
pub record Unbeaten (t : List ℕ) (k : ℕ) (s out final : List ℕ) : Type 0 where
  pub none_ahead :
      (v : Val) → Reads (exp_of t k) v → final ≡ encode t k v ++ drop (length (encode t k v)) out
      → (bs : List ℕ) (rival : Fits t k bs) → spelled bs ≡ s → ¬ (Ahead rival.value v)
