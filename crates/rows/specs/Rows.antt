-- What the functions on rows of the work area are given and leave. They know neither table nor line.
-- Assumes nothing.
use Rattle.std.specs.Prelude.{ℕ, ◌+◌, ◌-◌, ◌≤◌, ◌<◌, max, ◌≡◌, ◌⊎◌, Bool, true, false, ◌&&◌, ◌||◌, List, Option, MatchOption, leb, length, get_or}
use Rattle.rows.specs.Layout.{area_size, head_at, row_at, is_set, longest_at, lowest_at, mark_at, in_row, has, tells}
use Rattle.rows.specs.Cuts.{some, cut_at}

-- Bytes of the area.

-- byte e of the bytes from `start` on is set
abbrev pub row_set : List ℕ → ℕ → ℕ → Bool
row_set w start e = is_set (get_or w (start + e) 0)

-- w became w' by a change of n bytes from `to` on alone, and byte i of these is now set exactly where f says so
pub record Written (f : ℕ → Bool) (to n : ℕ) (w w' : List ℕ) : Type 0 where
  pub size : length w' ≡ length w
  pub before : (i : ℕ) → i < to → get_or w' i 0 ≡ get_or w i 0
  pub inside : (i : ℕ) → i < n → row_set w' to i ≡ f i
  pub after : (i : ℕ) → to + n ≤ i → get_or w' i 0 ≡ get_or w i 0

-- the bytes from `from` on are joined into those from `to` on
abbrev pub joined : List ℕ → (to from : ℕ) → ℕ → Bool
joined w to from e = row_set w to e || row_set w from e

-- r is the first set byte that is not before byte `from`, or `end` where there is none before `end`
pub record NextSet (w : List ℕ) (start from end r : ℕ) : Type 0 where
  pub not_before : from ≤ r
  pub not_behind : r ≤ end
  pub passed : (i : ℕ) → from ≤ i → i < r → row_set w start i ≡ false
  pub found : r < end → row_set w start r ≡ true

-- Rows.

-- the row is a run, and low its lowest length
pub record RunFrom (w : List ℕ) (m d k low : ℕ) : Type 0 where
  pub lowest : low ≡ lowest_at w m d k
  pub positive : 1 ≤ low
  pub byte : low < 256

-- low is the lowest length of the row's run, or None where the row is written out
abbrev pub RunTold : List ℕ → ℕ → ℕ → ℕ → Option ℕ → Type 0
RunTold w m d k low = MatchOption low (lowest_at w m d k ≡ 0) (RunFrom w m d k)

-- the header and the row of record k in block d stand inside the area
pub record Inside (m d k : ℕ) (w : List ℕ) : Type 0 where
  pub few : m ≤ 65535
  pub short : d ≤ 255
  pub known : k < m
  pub room : area_size m d ≤ length w

-- byte i of the area is record k's in block d: its header or a byte of its row
abbrev pub Own : (m d k i : ℕ) → Type 0
Own m d k i = (i ≡ head_at m d k) ⊎ ((row_at m d k ≤ i) × (i < row_at m d k + d))

-- a row as it is kept: no length beyond the block, a run that is not turned round, and no mark above the longest length
pub record Shaped (m d k : ℕ) (w : List ℕ) : Type 0 where
  pub small : longest_at w m d k ≤ d
  pub ordered : 1 ≤ longest_at w m d k → lowest_at w m d k ≤ longest_at w m d k
  pub clean :
      is_set (lowest_at w m d k) ≡ false → (e : ℕ) → longest_at w m d k < e → e < d → is_set (mark_at w m d k e) ≡ false

-- a row that may grow
pub record Growing (m d k : ℕ) (w : List ℕ) : Type 0 where
  pub inside : Inside m d k w
  pub some_byte : 1 ≤ d
  pub shape : Shaped m d k w

-- w became w' by a change of record k's bytes in block d alone, and its row now tells f
pub record Grown (m d k : ℕ) (f : ℕ → Bool) (w w' : List ℕ) : Type 0 where
  pub size : length w' ≡ length w
  pub kept : (i : ℕ) → ¬ (Own m d k i) → get_or w' i 0 ≡ get_or w i 0
  pub shape : Shaped m d k w'
  pub facts : (e : ℕ) → 1 ≤ e → e ≤ d → has m w' k d e ≡ f e

-- a row that is written out: its byte 0 is 0 and its marks tell f; its header is still to be raised. Only the row has changed.
pub record Explicit (m d k : ℕ) (f : ℕ → Bool) (w w' : List ℕ) : Type 0 where
  pub size : length w' ≡ length w
  pub before : (i : ℕ) → i < row_at m d k → get_or w' i 0 ≡ get_or w i 0
  pub after : (i : ℕ) → row_at m d k + d ≤ i → get_or w' i 0 ≡ get_or w i 0
  pub no_run : get_or w' (row_at m d k) 0 ≡ 0
  pub marks : (e : ℕ) → 1 ≤ e → e < d → is_set (mark_at w' m d k e) ≡ f e

-- the marks of a row that is written out are now those of f; byte 0 of the row and all else is kept
pub record Marked (m d k : ℕ) (f : ℕ → Bool) (w w' : List ℕ) : Type 0 where
  pub size : length w' ≡ length w
  pub before : (i : ℕ) → i ≤ row_at m d k → get_or w' i 0 ≡ get_or w i 0
  pub after : (i : ℕ) → row_at m d k + d ≤ i → get_or w' i 0 ≡ get_or w i 0
  pub marks : (e : ℕ) → 1 ≤ e → e < d → is_set (mark_at w' m d k e) ≡ f e

-- the marks of the row as it is
abbrev pub mark_set : ℕ → List ℕ → ℕ → ℕ → ℕ → Bool
mark_set m w k d e = is_set (mark_at w m d k e)

-- the lengths from low to high
abbrev pub in_run : ℕ → ℕ → ℕ → Bool
in_run low high e = leb low e && leb e high

-- what record s spells of the last p bytes, as a part of the last d bytes behind the first d - p of them
abbrev pub behind : ℕ → List ℕ → ℕ → (d p : ℕ) → ℕ → Bool
behind m w s d p e = leb (d - p) e && tells m w s p (e - (d - p))

-- the same without the empty part
abbrev pub behind_non_empty : ℕ → List ℕ → ℕ → (d p : ℕ) → ℕ → Bool
behind_non_empty m w s d p e = leb (d - p + 1) e && has m w s p (e - (d - p))

-- a row that stands before record k's in block d: in a block of fewer bytes, or of a lower record
pub record Earlier (m d k s p : ℕ) (w : List ℕ) : Type 0 where
  pub known : s < m
  pub within : p ≤ d
  pub before : (p < d) ⊎ (s < k)
  pub shape : 1 ≤ p → Shaped m p s w

-- what the row of record s, for each start behind c bytes, tells of the e bytes from there on
abbrev pub second : ℕ → List ℕ → ℕ → ℕ → ℕ → ℕ → Bool
second m w s d c e = tells m w s (d - c) e

-- record k's row joined with record s's rows for each cut behind c bytes, from ≤ c < end, that record f's row has
abbrev pub cuts_joined : ℕ → List ℕ → (d k f s from end : ℕ) → ℕ → Bool
cuts_joined m w d k f s from end e = has m w k d e || some (cut_at (has m w f d) (second m w s d) from e) end

-- r is the least length that is not below `from` and that the row has, or above d where there is none
pub record NextLength (m : ℕ) (w : List ℕ) (k d from r : ℕ) : Type 0 where
  pub not_before : from ≤ r
  pub passed : (e : ℕ) → from ≤ e → e < r → e ≤ d → has m w k d e ≡ false
  pub found : r ≤ d → has m w k d r ≡ true

-- P holds of the length r, or of d + 1 where there is none
abbrev pub OfLength : ℕ → (ℕ → Type 0) → Option ℕ → Type 0
OfLength d P r = MatchOption r (P (d + 1)) (λ l. (l ≤ d) × P l)

-- what cutting needs: the rows that are read stand before the one that grows; and where cuts that the row already has are left out, the
-- second sides follow on one another and the row is closed under them
pub record Cutting (m d k f s : ℕ) (star : Bool) (w : List ℕ) : Type 0 where
  pub growing : Growing m d k w
  pub first_lower : f < k
  pub first_shape : Shaped m d f w
  pub second_known : s < m
  pub second_shape : (p : ℕ) → 1 ≤ p → p < d → Shaped m p s w
  pub chained :
      star ≡ true → (a c e : ℕ) → 1 ≤ a → a ≤ c → c ≤ e → e ≤ d → second m w s d a (c - a) ≡ true → second m w s d c (e - c) ≡ true
      → second m w s d a (e - a) ≡ true
  pub closed :
      star ≡ true → (c e : ℕ) → 1 ≤ c → c ≤ e → e ≤ d → has m w k d c ≡ true → second m w s d c (e - c) ≡ true → has m w k d e ≡ true

-- r is not below c, and a cut from c up to r may be left out: the row has it and `star` says so, or the row is full
pub record Skipped (m : ℕ) (w : List ℕ) (k d c : ℕ) (star : Bool) (r : ℕ) : Type 0 where
  pub not_before : c ≤ r
  pub held : (i : ℕ) → c ≤ i → i < r → i ≤ d → has m w k d i ≡ true
  pub free : c < r → (star ≡ true) ⊎ ((e : ℕ) → 1 ≤ e → e ≤ d → has m w k d e ≡ true)

-- where r is true, every byte from `from` up to `end` is set
abbrev pub AllSet : List ℕ → (start from end : ℕ) → Bool → Type 0
AllSet w start from end r = r ≡ true → (i : ℕ) → from ≤ i → i < end → row_set w start i ≡ true

-- r is not below c, and the row has whatever a cut from c up to r adds
pub record Covered (m : ℕ) (w : List ℕ) (k s d c r : ℕ) : Type 0 where
  pub not_before : c ≤ r
  pub not_behind : r ≤ d + 1
  pub held : (i e : ℕ) → c ≤ i → i < r → i ≤ e → e ≤ d → second m w s d i (e - i) ≡ true → has m w k d e ≡ true

-- the row has every length from t on
abbrev pub Tail : ℕ → List ℕ → (k d t : ℕ) → Type 0
Tail m w k d t = (e : ℕ) → t ≤ e → e ≤ d → has m w k d e ≡ true

-- Rows that are written out.

-- what a row tells that is written out, where h is its longest length
abbrev pub open_has : ℕ → List ℕ → (k d h : ℕ) → ℕ → Bool
open_has m w k d h e = in_row d h 0 (mark_at w m d k e) e

-- a row that is written out and may grow: its byte 0 is 0, and it has no mark above h. Its header is still to be raised to h.
pub record Open (m d k h : ℕ) (w : List ℕ) : Type 0 where
  pub inside : Inside m d k w
  pub some_byte : 1 ≤ d
  pub no_run : get_or w (row_at m d k) 0 ≡ 0
  pub small : h ≤ d
  pub clean : (e : ℕ) → h < e → e < d → is_set (mark_at w m d k e) ≡ false

-- a row that is written out, its header too, and whose longest length is h
pub record WrittenOut (m d k h : ℕ) (w : List ℕ) : Type 0 where
  pub long : h ≡ longest_at w m d k
  pub no_run : lowest_at w m d k ≡ 0

-- Runs behind cuts.

-- what record s spells of the last p bytes, the empty part included, are the lengths from low to h
pub record LowBehind (m : ℕ) (w : List ℕ) (s p h low : ℕ) : Type 0 where
  pub ordered : low ≤ h
  pub told : (e : ℕ) → e ≤ p → tells m w s p e ≡ in_run low h e

-- the lengths from low to high and those from a to b are together those from r to the larger end
pub record JoinedRun (low high a b r : ℕ) : Type 0 where
  pub positive : 1 ≤ r
  pub ordered : r ≤ max high b
  pub same : (e : ℕ) → in_run r (max high b) e ≡ (in_run low high e || in_run a b e)

-- the first e of the last d bytes may be cut behind `place` bytes, a number from c on that is neither above `end` nor reaches `next`: record s
-- spells the rest
pub record CutBehind (m : ℕ) (w : List ℕ) (s d c end next e : ℕ) : Type 0 where
  pub place : ℕ
  pub not_before : c ≤ place
  pub not_behind : place ≤ end
  pub done : place < next
  pub within : place ≤ e
  pub spelled : second m w s d place (e - place) ≡ true

-- the lengths from low' to high' are those from low to high, some that cuts from c up to `end` add, and all that cuts from c up to `next` add
pub record Reached (m : ℕ) (w : List ℕ) (d s c end low high low' high' next : ℕ) : Type 0 where
  pub not_before : c ≤ next
  pub not_behind : next ≤ d + 1
  pub positive : 1 ≤ low'
  pub small : high' ≤ d
  pub ordered : 1 ≤ high' → low' ≤ high'
  pub kept : (e : ℕ) → in_run low high e ≡ true → in_run low' high' e ≡ true
  pub found : (e : ℕ) → in_run low' high' e ≡ true → (in_run low high e ≡ true) ⊎ (CutBehind m w s d c end next e)
  pub held : (i e : ℕ) → c ≤ i → i < next → i ≤ e → e ≤ d → second m w s d i (e - i) ≡ true → in_run low' high' e ≡ true
