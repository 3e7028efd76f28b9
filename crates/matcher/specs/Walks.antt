-- What the walk from a told part to its reading is given and leaves.
-- Assumes nothing.
use Rattle.std.specs.Prelude.{ℕ, ◌+◌, ◌-◌, ◌*◌, ◌≤◌, ◌<◌, max, ◌≡◌, Bool, true, List, length}
use Rattle.posix.specs.Values.{Val, records}
use Rattle.posix.specs.Relation.{Posix}
use Rattle.posix.specs.Spells.{spells}
use Rattle.table.specs.Records.{count}
use Rattle.table.specs.Faults.{Passes}
use Rattle.table.specs.Answers.{Said}
use Rattle.table.specs.Expression.{exp_of}
use Rattle.rows.specs.Layout.{area_size, tells}
use Rattle.area.specs.Area.{part, Told}
use Rattle.reading.specs.Codec.{record_size, argument_of, encode}
use Rattle.table.specs.Buffers.{if_room, after}
use Rattle.reading.specs.Writing.{wrote}

-- the bytes of the largest reading of a line of n bytes by a table of m records: "m times max(n, 1)" records
abbrev pub most_bytes : ℕ → ℕ → ℕ
most_bytes m n = record_size * (m * max n 1)

-- record k spells the first e of the last d bytes of the line, and the area tells the truth
pub record Here (t s w : List ℕ) (k d e : ℕ) : Type 0 where
  pub passes : Passes t
  pub told : Told t s w
  pub record_inside : k < count t
  pub short : length s ≤ 255
  pub left : d ≤ length s
  pub size : e ≤ d
  pub spelled : spells (exp_of t k) (part s d e) ≡ true

-- there is room for bytes at a position: nothing wraps, and the buffer holds them if they are written
pub record Room (bytes out : List ℕ) (at : ℕ) (writing : Bool) : Type 0 where
  pub small : at + length bytes ≤ 1000000
  pub inside : writing ≡ true → at + length bytes ≤ length out

-- bytes are stored, or only counted, at a position: the position behind them, and the buffer
pub record Stored (bytes out : List ℕ) (at : ℕ) (writing : Bool) (after : List ℕ) (end : ℕ) : Type 0 where
  pub next : end ≡ at + length bytes
  pub buffer : after ≡ wrote writing out at bytes

-- a cut of the first e of the last d bytes, at least at `lowest`, whose first part the area tells of a and whose rest it tells of b
pub record ToldCut (m : ℕ) (w : List ℕ) (a b d e lowest cut : ℕ) : Type 0 where
  pub above : lowest ≤ cut
  pub inside : cut ≤ e
  pub front : tells m w a d cut ≡ true
  pub back : tells m w b (d - cut) (e - cut) ≡ true

-- what the search for the longest first part is given: an area for a line of at least d bytes, and some cut
pub record Searched (m a b d e lowest : ℕ) (w : List ℕ) : Type 0 where
  pub records : m ≤ 65535
  pub first : a < m
  pub second : b < m
  pub left : d ≤ 255
  pub size : e ≤ d
  pub line : ℕ
  pub inside : d ≤ line
  pub held : area_size m line ≤ length w
  pub some : ℕ
  pub has_cut : ToldCut m w a b d e lowest some

-- the cut with the longest first part
pub record LongestCut (m : ℕ) (w : List ℕ) (a b d e lowest cut : ℕ) : Type 0 where
  pub found : ToldCut m w a b d e lowest cut
  pub none_larger : (f : ℕ) → cut < f → f ≤ e → tells m w a d f ≡ true → tells m w b (d - f) (e - f) ≡ true → ⊥

-- what a walk is given: its position, the area, and room for the bytes f of the part's reading
pub record Given (f : Val → List ℕ) (t s w : List ℕ) (k d e : ℕ) (out : List ℕ) (at : ℕ) (writing : Bool) : Type 0 where
  pub here : Here t s w k d e
  pub area : area_size (count t) (length s) ≤ length w
  pub room : (v : Val) → Posix (part s d e) (exp_of t k) v → Room (f v) out at writing

-- what a walk leaves: the bytes f of the part's POSIX reading, stored or counted
pub record Walked (f : Val → List ℕ) (t s : List ℕ) (k d e : ℕ) (out : List ℕ) (at : ℕ) (writing : Bool) (after : List ℕ) (end : ℕ) : Type 0 where
  pub stored : (v : Val) → Posix (part s d e) (exp_of t k) v → Stored (f v) out at writing after end

-- how many iterations the POSIX reading of a Star's part has
pub record Counted (t s : List ℕ) (k d e times : ℕ) : Type 0 where
  pub counted : (v : Val) → Posix (part s d e) (exp_of t k) v → times ≡ argument_of v

-- the answer for a line that record k spells: 11 and nothing changed, or the record count and the bytes of the POSIX reading
pub record Answered (t s : List ℕ) (k : ℕ) (out final : List ℕ) (said : Said) : Type 0 where
  pub answer : (v : Val) → Posix s (exp_of t k) v → said ≡ if_room (length out) (encode t k v) (records v)
  pub buffer : (v : Val) → Posix s (exp_of t k) v → final ≡ after (if_room (length out) (encode t k v) (records v)) (encode t k v) out
