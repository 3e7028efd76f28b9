-- The runs of a page's lines and its class bytes (document 02, request 8): "a run of alike lines counts as its first line .. The class bytes, in order".
-- Assumes nothing.
use Rattle.std.specs.Prelude.{ℕ, ◌≡◌, true, false, cond, List, [], ◌∷◌, ◌++◌, map}
use Rattle.page.specs.Entries.{Entry, alike, likeness, class_of}

-- neighbouring lines of which each is alike to the one before it
pub record Run : Type 0 where
  pub first : Entry
  pub others : List Entry

-- its lines
abbrev pub members : Run → List Entry
members r = r.first ∷ r.others

-- a line alone, a line in front of a run, and a line behind it
abbrev pub alone : Entry → Run
alone e = record { first = e; others = [] }

abbrev pub in_front : Entry → Run → Run
in_front e r = record { first = e; others = r.first ∷ r.others }

abbrev pub behind : Run → Entry → Run
behind r e = record { first = r.first; others = r.others ++ (e ∷ []) }

-- a line in front of the runs of the lines behind it: it belongs to the first of them where it is alike to its neighbour
abbrev pub on_runs : Entry → List Run → List Run
on_runs e [] = alone e ∷ []
on_runs e (r ∷ rs) = cond (alike e r.first) (in_front e r ∷ rs) (alone e ∷ (r ∷ rs))

-- the runs of lines, neighbours compared
abbrev pub runs : List Entry → List Run
runs [] = []
runs (e ∷ es) = on_runs e (runs es)

-- the same, where each line is compared with the first line of the run before it
abbrev pub runs_from : Run → List Entry → List Run
runs_from r [] = r ∷ []
runs_from r (e ∷ es) = cond (alike r.first e) (runs_from (behind r e) es) (r ∷ runs_from (alone e) es)

abbrev pub runs_by_first : List Entry → List Run
runs_by_first [] = []
runs_by_first (e ∷ es) = runs_from (alone e) es

-- the class bytes: that of the first line of each run
abbrev pub class_bytes : List Entry → List ℕ
class_bytes es = map (λ r. class_of r.first) (runs es)

-- What makes runs the only division of a page's lines. Each line of a run is alike to the one before it,
abbrev pub AlikeFrom : Entry → List Entry → Type 0
AlikeFrom e [] = Unit {0}
AlikeFrom e (x ∷ xs) = (alike e x ≡ true) × AlikeFrom x xs

abbrev pub AlikeInside : List Run → Type 0
AlikeInside [] = Unit {0}
AlikeInside (r ∷ rs) = AlikeFrom r.first r.others × AlikeInside rs

-- so that each has in common with the run's first line what alike lines have in common,
abbrev pub LikeAll : Entry → List Entry → Type 0
LikeAll e [] = Unit {0}
LikeAll e (x ∷ xs) = (likeness x ≡ likeness e) × LikeAll e xs

abbrev pub LikeFirst : List Run → Type 0
LikeFirst [] = Unit {0}
LikeFirst (r ∷ rs) = LikeAll r.first r.others × LikeFirst rs

-- and the last line of a run is not alike to the first of the next
abbrev pub last_from : Entry → List Entry → Entry
last_from e [] = e
last_from e (x ∷ xs) = last_from x xs

abbrev pub Apart : List Run → Type 0
Apart [] = Unit {0}
Apart (r ∷ []) = Unit {0}
Apart (r ∷ (q ∷ rs)) = (alike (last_from r.first r.others) q.first ≡ false) × Apart (q ∷ rs)
