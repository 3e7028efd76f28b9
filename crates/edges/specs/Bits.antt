-- What the pass over a table keeps of a record in one byte: bit 128, the record spells the empty line; bit 1, a line of it may start with the
-- one byte that is asked for; bit 2, a line of it may end with the other.
-- Assumes nothing.
use Rattle.std.specs.Prelude.{ℕ, ◌+◌, ◌<◌, ◌≡◌, Bool, true, false, ◌&&◌, List, [], length, get_or}
use Rattle.posix.specs.Spells.{spells}
use Rattle.table.specs.Expression.{exp_of}
use Rattle.edges.specs.Edges.{edge_of_seq, edge}

-- the byte of the three bits
abbrev pub bits : (spells-empty starts ends : Bool) → ℕ
bits false false false = 0
bits true false false = 128
bits false true false = 1
bits true true false = 129
bits false false true = 2
bits true false true = 130
bits false true true = 3
bits true true true = 131

-- the byte of record k
abbrev pub bits_at : List ℕ → (first last : ℕ) (k : ℕ) → ℕ
bits_at t first last k = bits (spells (exp_of t k) []) (edge false (exp_of t k) first) (edge true (exp_of t k) last)

-- r is a Seq's byte by those of its two sides
abbrev pub SeqBits : (a b r : ℕ) → Type 0
SeqBits a b r =
    (e1 f1 l1 e2 f2 l2 : Bool) → a ≡ bits e1 f1 l1 → b ≡ bits e2 f2 l2
    → r ≡ bits (e1 && e2) (edge_of_seq f1 e1 f2) (edge_of_seq l2 e2 l1)

-- the bytes of the records below k are right
pub record Found (t : List ℕ) (first last k : ℕ) (found : List ℕ) : Type 0 where
  pub long : length found ≡ 256
  pub right : (i : ℕ) → i < k → get_or found i 0 ≡ bits_at t first last i

-- near is the byte of the record below k
abbrev pub Near : List ℕ → (k near : ℕ) → Type 0
Near found k near = (i : ℕ) → i + 1 ≡ k → near ≡ get_or found i 0
