-- The walk over a reading's records, in order, that lists its tokens: what it finds at each record, what it is given and what it leaves. It goes
-- twice: once to count, once to write.
-- Assumes nothing.
use Rattle.std.specs.Prelude.{ℕ, ◌+◌, ◌≤◌, ◌<◌, ◌≡◌, Bool, true, false, ◌&&◌, List, [], ◌∷◌, ◌++◌, eqb, leb, length}
use Rattle.table.specs.Records.{count, tag_at}
use Rattle.reading.specs.Codec.{Record, records_of}
use Rattle.reading.specs.Fitting.{spelled}
use Rattle.reading.specs.Writing.{wrote}
use Rattle.tokens.specs.declared.Listing.{Listing}
use Rattle.tokens.specs.Tokens.{Token, cons_if, positive, token_bytes}

-- how many bytes of the line a record of a kind is: a Byte one, the others none
abbrev pub one_if : Bool → ℕ
one_if true = 1
one_if false = 0

abbrev pub width : ℕ → ℕ
width kind = one_if (eqb kind 1)

-- a part by its tag, its length and its offset in the line is listed: it is tagged, it has a byte, and the token before it has ended
abbrev pub is_listed : ℕ → ℕ → ℕ → ℕ → Bool
is_listed tag size at end = positive tag && (positive size && leb end at)

-- the token of a record whose part starts at an offset, or none
abbrev pub token_at : List ℕ → Record → ℕ → ℕ → List Token
token_at t r at end =
    cons_if (is_listed (tag_at t r.number) r.size at end) (record { tag = tag_at t r.number; offset = at; size = r.size }) []

-- where the last token ends then
abbrev pub end_after : List Token → ℕ → ℕ
end_after [] end = end
end_after (x ∷ xs) end = x.offset + x.size

-- the tokens of records, from an offset of the line on and after a token that ends at one
abbrev pub list_records : List ℕ → List Record → ℕ → ℕ → List Token
list_records t [] at end = []
list_records t (r ∷ rs) at end =
    token_at t r at end ++ list_records t rs (at + width r.kind) (end_after (token_at t r at end) end)

abbrev pub list_reading : List ℕ → List ℕ → List Token
list_reading t bs = list_records t (records_of bs) 0 0

-- every record has the number of a record of the table
pub data Numbered (t : List ℕ) : List Record → Type 0 where
  numbered_none : Numbered t []
  numbered_more : {r : Record} {rs : List Record} → r.number < count t → Numbered t rs → Numbered t (r ∷ rs)

-- what the walk is given: offsets and lengths below 256, and room for the tokens where they are written
pub record Listable (t bs : List ℕ) (writing : Bool) (space : ℕ) : Type 0 where
  pub numbers : Numbered t (records_of bs)
  pub short : length (spelled bs) ≤ 255
  pub few : length (list_reading t bs) ≤ 255
  pub room : writing ≡ true → length (token_bytes (list_reading t bs)) ≤ space

-- what it is given before one record, and what it leaves behind it
pub record Passable (t : List ℕ) (r : Record) (writing : Bool) (space : ℕ) (x : Listing) : Type 0 where
  pub number : r.number < count t
  pub near : x.offset ≤ 255
  pub low : x.to ≤ 765
  pub room : writing ≡ true → x.to + length (token_bytes (token_at t r x.offset x.end)) ≤ space

pub record Passed (t : List ℕ) (r : Record) (writing : Bool) (old new : List ℕ) (x y : Listing) : Type 0 where
  pub moved : y.offset ≡ x.offset + width r.kind
  pub ends : y.end ≡ end_after (token_at t r x.offset x.end) x.end
  pub behind : y.to ≡ x.to + length (token_bytes (token_at t r x.offset x.end))
  pub holds : new ≡ wrote writing old x.to (token_bytes (token_at t r x.offset x.end))
