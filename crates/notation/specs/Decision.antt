-- Which tree a text stands for, if any, as a computation: the text is taken word by word, and each word shifts or reduces. That it finds a tree
-- just where the grammar does, and that one, is proved.
-- Assumes nothing.
use Rattle.std.specs.Prelude.{ℕ, zero, suc, ◌+◌, ◌*◌, ◌-◌, Bool, cond, ◌&&◌, List, [], ◌∷◌, Option, Some, None, leb, ltb, eqb, length, get_or}
use Rattle.notation.specs.declared.Word.{Word}
use Rattle.notation.specs.declared.Word.TheVariants.{Letter, Open, Close, Star, Bar, Tag}
use Rattle.notation.specs.Trees.{Tree, unit, range, alt, cat, many, tag_of, with_tag}
use Rattle.notation.specs.Grammar.{bar, asterisk, opening, closing, bracket, bracket_end, backslash, hash, hyphen}

-- The words, and None where there is none. A Letter has its bounds and how many bytes it takes beyond the first; the other words' are known.
abbrev pub later : Option Word → ℕ
later (Some (Letter p q n)) = n
later (Some Open) = 0
later (Some Close) = 0
later (Some Star) = 0
later (Some Bar) = 0
later (Some (Tag n)) = 3
later None = 0

-- behind a backslash: the next byte, plain
abbrev pub escaped_word : List ℕ → Option Word
escaped_word s = cond (ltb 0 (length s)) (Some (Letter (get_or s 0 0) (get_or s 0 0) 1)) None

-- behind [: p-q] with p ≤ q
abbrev pub is_range : List ℕ → Bool
is_range s = ltb 3 (length s) && (eqb (get_or s 1 0) hyphen && (eqb (get_or s 3 0) bracket_end && leb (get_or s 0 0) (get_or s 2 0)))

abbrev pub range_word : List ℕ → Option Word
range_word s = cond (is_range s) (Some (Letter (get_or s 0 0) (get_or s 2 0) 4)) None

-- behind #: three digits of a number from 1 to 255
abbrev pub is_digit : ℕ → Bool
is_digit c = leb 48 c && leb c 57

abbrev pub numeral : List ℕ → ℕ
numeral s = 100 * (get_or s 0 0 - 48) + 10 * (get_or s 1 0 - 48) + (get_or s 2 0 - 48)

abbrev pub is_tag : List ℕ → Bool
is_tag s =
    ltb 2 (length s)
    && (is_digit (get_or s 0 0) && (is_digit (get_or s 1 0) && (is_digit (get_or s 2 0) && (leb 1 (numeral s) && leb (numeral s) 255))))

abbrev pub tag_word : List ℕ → Option Word
tag_word s = cond (is_tag s) (Some (Tag (numeral s))) None

-- any other byte
abbrev pub byte_word : ℕ → Option Word
byte_word c =
    cond (eqb c bar) (Some Bar)
    (cond (eqb c asterisk) (Some Star)
    (cond (eqb c opening) (Some Open) (cond (eqb c closing) (Some Close) (cond (eqb c bracket_end) None (Some (Letter c c 0))))))

-- the word of a byte and those behind it
unfoldable pub word_at : ℕ → List ℕ → Option Word
word_at c s =
    cond (eqb c backslash) (escaped_word s) (cond (eqb c bracket) (range_word s) (cond (eqb c hash) (tag_word s) (byte_word c)))

-- a tree, or none yet
pub data Held : Type 0 where
  none : Held
  some : Tree → Held

-- one part beside another, under a constructor
abbrev pub joined : (Tree → Tree → ℕ → Tree) → Held → Held → Held
joined f none h = h
joined f (some t) none = some t
joined f (some t) (some u) = some (f t u 0)

-- a parenthesis that is open: the alternatives and the row before it
pub data Frame : Type 0 where
  frame : Held → Held → Frame

-- the open parentheses, the innermost first; and inside that the alternatives up to the last |, the row since and the last item
pub data State : Type 0 where
  state : List Frame → Held → Held → Held → State

-- the row with the last item, the alternatives with that row
abbrev pub row_with : Held → Held → Held
row_with r i = joined cat r i

abbrev pub all_with : Held → Held → Held → Held
all_with l r i = joined alt l (row_with r i)

-- the state after a word, or none: the word cannot stand there
pub data Stepped : Type 0 where
  on : State → Stepped
  stop : Stepped

-- ) inside a frame: the item is Empty where nothing stands between the parentheses, otherwise the alternatives
abbrev pub closed : List Frame → Held → Held → Held → Held → Held → Stepped
closed fs l' r' none none none = on (state fs l' r' (some (unit 0)))
closed fs l' r' none (some t) none = stop
closed fs l' r' (some t) r none = stop
closed fs l' r' l r (some t) = on (state fs l' r' (all_with l r (some t)))

abbrev pub closed_in : List Frame → Held → Held → Held → Stepped
closed_in [] l r i = stop
closed_in (frame l' r' ∷ fs) l r i = closed fs l' r' l r i

-- * and a tag change the last item, | ends the row with it
abbrev pub starred : List Frame → Held → Held → Held → Stepped
starred fs l r none = stop
starred fs l r (some t) = on (state fs l r (some (many t 0)))

abbrev pub tagged : List Frame → Held → Held → Held → ℕ → Stepped
tagged fs l r none n = stop
tagged fs l r (some t) n = cond (eqb (tag_of t) 0) (on (state fs l r (some (with_tag t n)))) stop

abbrev pub parted : List Frame → Held → Held → Held → Stepped
parted fs l r none = stop
parted fs l r (some t) = on (state fs (all_with l r (some t)) none none)

abbrev pub step : Option Word → State → Stepped
step (Some (Letter p q n)) (state fs l r i) = on (state fs l (row_with r i) (some (range p q 0)))
step (Some Open) (state fs l r i) = on (state (frame l (row_with r i) ∷ fs) none none none)
step (Some Close) (state fs l r i) = closed_in fs l r i
step (Some Star) (state fs l r i) = starred fs l r i
step (Some Bar) (state fs l r i) = parted fs l r i
step (Some (Tag n)) (state fs l r i) = tagged fs l r i n
step None (state fs l r i) = stop

-- what a text comes to: its tree; or the number of bytes from the first word on that cannot stand where it does, 0 where the text ends too early
pub data Outcome : Type 0 where
  whole : Tree → Outcome
  stuck : ℕ → Outcome

-- the end of the text: every parenthesis is closed, and neither the last row nor the whole text is missing
abbrev pub finished : Held → Outcome
finished none = stuck 0
finished (some t) = whole t

abbrev pub ended : State → Outcome
ended (state [] l r none) = stuck 0
ended (state [] l r (some t)) = finished (all_with l r (some t))
ended (state (f ∷ fs) l r i) = stuck 0

-- what comes of a step, with n bytes from its word on
abbrev pub and_then : Stepped → ℕ → (State → Outcome) → Outcome
and_then (on st) n f = f st
and_then stop n f = stuck n

-- what the text comes to from a state on, behind so many bytes that belong to the last word
abbrev pub run : List ℕ → ℕ → State → Outcome
run [] skip st = ended st
run (c ∷ s) (suc skip) st = run s skip st
run (c ∷ s) zero st = and_then (step (word_at c s) st) (suc (length s)) (λ next. run s (later (word_at c s)) next)

-- what the text comes to
unfoldable pub outcome : List ℕ → Outcome
outcome s = run s 0 (state [] none none none)
