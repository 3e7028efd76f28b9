-- What the functions behind the call are given and leave: how the numbers of a walk and the buffer show a state of the decision. The parts held
-- so far stand in the buffer one after the other, each whole.
-- Assumes nothing.
use Rattle.std.specs.Prelude.{ℕ, ◌+◌, ◌*◌, ◌-◌, ◌≤◌, ◌%◌, ◌≡◌, cond, List, [], ◌∷◌, ◌++◌, Option, Some, None, Result, Ok, Err}
use Rattle.std.specs.Prelude.{leb, eqb, length, get_or, drop, set}
use Rattle.std.proofs.lemmas.List.Edits.{sets}
use Rattle.table.specs.Records.{record_bytes}
use Rattle.notation.specs.declared.Word.{Word}
use Rattle.notation.specs.declared.Word.TheVariants.{Letter, Open, Close, Star, Bar, Tag}
use Rattle.notation.specs.declared.Walk.{Walk}
use Rattle.notation.specs.declared.Marks.{Marks}
use Rattle.notation.specs.declared.Item.{Item}
use Rattle.notation.specs.declared.Item.TheVariants.{Absent, Untagged, Tagged}
use Rattle.notation.specs.Trees.{Tree, tag_of}
use Rattle.notation.specs.Tables.{size, records_from}
use Rattle.notation.specs.Decision.{Held, none, some, Frame, frame, state, Stepped, on, stop, Outcome, whole, stuck}

-- the trees held, in the order of the text
abbrev pub held : Held → List Tree
held none = []
held (some t) = t ∷ []

abbrev pub outer_parts : List Frame → List Tree
outer_parts [] = []
outer_parts (frame l r ∷ fs) = outer_parts fs ++ held l ++ held r

abbrev pub parts : List Frame → Held → Held → Held → List Tree
parts fs l r i = outer_parts fs ++ held l ++ held r ++ held i

-- how many records they have, and their records where the first has number k
abbrev pub total : List Tree → ℕ
total [] = 0
total (t ∷ ts) = size t + total ts

abbrev pub layout : ℕ → List Tree → List ℕ
layout k [] = []
layout k (t ∷ ts) = records_from k t ++ layout (k + size t) ts

-- the mark of a part with so many records before it: the record count behind it, or 0 where there is none
abbrev pub mark_of : ℕ → Held → ℕ
mark_of k none = 0
mark_of k (some t) = k + size t

-- the marks of the alternatives and of the row behind some parts
abbrev pub marks_of : List Tree → Held → Held → Marks
marks_of ts l r = record { left = mark_of (total ts) l; row = mark_of (total (ts ++ held l)) r }

-- the last item
abbrev pub item_of : Held → Item
item_of none = Absent
item_of (some t) = cond (eqb (tag_of t) 0) Untagged Tagged

-- the array for the marks of the open parentheses, and these marks, the innermost last
abbrev pub Marked : List Frame → List Marks → Type 0
Marked [] stack = length stack ≡ 4096
Marked (frame l r ∷ fs) stack =
    (get_or stack (length fs) (record { left = 0; row = 0 }) ≡ marks_of (outer_parts fs) l r) × Marked fs stack

-- the buffer, which was `entry`, holds the parts' records where it has room for them and their numbers fit a byte
pub record Laid (ts : List Tree) (entry out : List ℕ) : Type 0 where
  pub long : length out ≡ length entry
  pub front : 4 * total ts ≤ length entry → total ts ≤ 255 → out ≡ layout 0 ts ++ drop (4 * total ts) entry

-- the part h stands behind the others as the last; n is its mark
pub record LastPart (ts : List Tree) (h : Held) (n : ℕ) (entry out : List ℕ) : Type 0 where
  pub mark_right : n ≡ mark_of (total ts) h
  pub laid : Laid (ts ++ held h) entry out

-- the walk and the buffers show the state
pub record Shows (fs : List Frame) (l r i : Held) (w : Walk) (stack : List Marks) (entry out : List ℕ) : Type 0 where
  pub count_right : w.count ≡ total (parts fs l r i)
  pub marks_right : w.marks ≡ marks_of (outer_parts fs) l r
  pub item_right : w.item ≡ item_of i
  pub depth_right : w.depth ≡ length fs
  pub outer : Marked fs stack
  pub laid : Laid (parts fs l r i) entry out

-- what a word leaves: the next state shown, or no walk
abbrev pub Took : Stepped → Option Walk → List Marks → List ℕ → List ℕ → Type 0
Took (on (state fs l r i)) (Some w) stack entry out = Shows fs l r i w stack entry out
Took (on st) None stack entry out = ⊥
Took stop (Some w) stack entry out = ⊥
Took stop None stack entry out = Unit {0}

-- the walk's numbers after n bytes of the text fit their types, and an item has a record
pub record Fit (w : Walk) (n : ℕ) : Type 0 where
  pub count_fits : w.count ≤ 2 * n
  pub depth_fits : w.depth ≤ n
  pub item_counted : ¬ (w.item ≡ Absent) → 1 ≤ w.count

-- a record stored where the buffer has room for it
abbrev pub stored : List ℕ → ℕ → List ℕ → List ℕ
stored out k bytes = cond (leb (4 * k + 4) (length out)) (sets out (4 * k) bytes) out

abbrev pub tag_stored : List ℕ → ℕ → ℕ → List ℕ
tag_stored out k tag = cond (leb (4 * k + 4) (length out)) (set out (4 * k + 3) tag) out

-- two parts joined by a record of a kind, where there is a part before the last: what the buffer and the record count are then
abbrev pub join_leaves : ℕ → ℕ → ℕ → List ℕ → List ℕ
join_leaves kind mark count out = cond (eqb mark 0) out (stored out count (record_bytes kind ((mark - 1) % 256) ((count - 1) % 256) 0))

abbrev pub join_count : ℕ → ℕ → ℕ
join_count mark count = cond (eqb mark 0) count (count + 1)

-- the numbers of a walk r whose last item has joined the row, from those of w before
pub record ItemEnded (w r : Walk) : Type 0 where
  pub count_near : r.count ≤ w.count + 1
  pub left_kept : r.marks.left ≡ w.marks.left
  pub none_left : r.item ≡ Absent
  pub depth_kept : r.depth ≡ w.depth

-- a group as an item: the last item where nothing stands before that, otherwise one without a tag
abbrev pub group_item : Walk → Item
group_item w = cond (eqb w.marks.left 0) (cond (eqb w.marks.row 0) w.item Untagged) Untagged

-- a word that is a tag has a number other than 0
abbrev pub TagGiven : Option Word → Type 0
TagGiven (Some (Letter p q n)) = Unit {0}
TagGiven (Some Open) = Unit {0}
TagGiven (Some Close) = Unit {0}
TagGiven (Some Star) = Unit {0}
TagGiven (Some Bar) = Unit {0}
TagGiven (Some (Tag n)) = 1 ≤ n
TagGiven None = Unit {0}

-- what the walk over a text of n bytes says of it, the record count or the offset where it stops, and what it leaves in the buffer where the text is
-- whole
abbrev pub counted : ℕ → Outcome → Result ℕ ℕ
counted n (whole t) = Ok (size t)
counted n (stuck m) = Err (n - m)

abbrev pub LaidBy : Outcome → List ℕ → List ℕ → Type 0
LaidBy (whole t) entry out = Laid (t ∷ []) entry out
LaidBy (stuck m) entry out = Unit {0}

abbrev pub WalkedTo : Outcome → ℕ → Result ℕ ℕ → List ℕ → List ℕ → Type 0
WalkedTo x n r entry out = (r ≡ counted n x) × LaidBy x entry out

-- the same at the end of a text
abbrev pub finishes : Outcome → Option ℕ
finishes (whole t) = Some (size t)
finishes (stuck m) = None

abbrev pub Ended : Outcome → Option ℕ → List ℕ → List ℕ → Type 0
Ended x r entry out = (r ≡ finishes x) × LaidBy x entry out
