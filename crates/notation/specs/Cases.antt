-- Texts of the notation, the trees that they come to and the tables that they are written as: sentences of document 02, request 3, and what was decided where it leaves a
-- point open.
-- Assumes nothing.
use Rattle.std.specs.Prelude.{ℕ, List, [], ◌∷◌}
use Rattle.notation.specs.Trees.{Tree, unit, range, alt, cat, many}
use Rattle.notation.specs.Decision.{Outcome, whole, stuck, outcome}
use Rattle.notation.specs.Calls.{limited, table_bytes}

-- a case: a text, and its tree or how many bytes are left where it stops
pub record Case : Type 0 where
  pub text : List ℕ
  pub comes_to : Outcome

abbrev case : List ℕ → Outcome → Case
case s o = record { text = s; comes_to = o }

-- the letters a, b, c and d, without a tag
abbrev a : Tree
a = range 0x61 0x61 0

abbrev b : Tree
b = range 0x62 0x62 0

abbrev c : Tree
c = range 0x63 0x63 0

abbrev d : Tree
d = range 0x64 0x64 0

-- what is stated, and what the definitions compute
abbrev pub stated : Case → Outcome
stated x = x.comes_to

unfoldable pub computed : Case → Outcome
computed x = outcome x.text

-- the cases, a sentence above each group
abbrev pub cases : List Case
cases =
    -- A byte stands for itself, and a space and byte 10 are bytes like any other
    -- `a`, ` `, byte 10, `-`
    case (0x61 ∷ []) (whole a)
    ∷ case (0x20 ∷ []) (whole (range 0x20 0x20 0))
    ∷ case (0x0a ∷ []) (whole (range 0x0a 0x0a 0))
    ∷ case (0x2d ∷ []) (whole (range 0x2d 0x2d 0))
    -- A backslash makes the next byte plain; at the end of the text it stands for nothing
    -- `\|`, `\a`, `\`
    ∷ case (0x5c ∷ 0x7c ∷ []) (whole (range 0x7c 0x7c 0))
    ∷ case (0x5c ∷ 0x61 ∷ []) (whole a)
    ∷ case (0x5c ∷ []) (stuck 1)
    -- [p-q] with any bytes p ≤ q, with no escape inside; any other [ and any other ] are outside the grammar
    -- `[a-d]`, `[]-]]`, `[--#]`, `[#--]`, `[b-a]`, `[a-d`, `[ab]`, `a]`
    ∷ case (0x5b ∷ 0x61 ∷ 0x2d ∷ 0x64 ∷ 0x5d ∷ []) (whole (range 0x61 0x64 0))
    ∷ case (0x5b ∷ 0x5d ∷ 0x2d ∷ 0x5d ∷ 0x5d ∷ []) (whole (range 0x5d 0x5d 0))
    ∷ case (0x5b ∷ 0x2d ∷ 0x2d ∷ 0x23 ∷ 0x5d ∷ []) (stuck 5)
    ∷ case (0x5b ∷ 0x23 ∷ 0x2d ∷ 0x2d ∷ 0x5d ∷ []) (whole (range 0x23 0x2d 0))
    ∷ case (0x5b ∷ 0x62 ∷ 0x2d ∷ 0x61 ∷ 0x5d ∷ []) (stuck 5)
    ∷ case (0x5b ∷ 0x61 ∷ 0x2d ∷ 0x64 ∷ []) (stuck 4)
    ∷ case (0x5b ∷ 0x61 ∷ 0x62 ∷ 0x5d ∷ []) (stuck 4)
    ∷ case (0x61 ∷ 0x5d ∷ []) (stuck 1)
    -- () is Empty, and parentheses group
    -- `()`, `(())`, `( )`, `(a)`, `(a`, `a)`, `)`
    ∷ case (0x28 ∷ 0x29 ∷ []) (whole (unit 0))
    ∷ case (0x28 ∷ 0x28 ∷ 0x29 ∷ 0x29 ∷ []) (whole (unit 0))
    ∷ case (0x28 ∷ 0x20 ∷ 0x29 ∷ []) (whole (range 0x20 0x20 0))
    ∷ case (0x28 ∷ 0x61 ∷ 0x29 ∷ []) (whole a)
    ∷ case (0x28 ∷ 0x61 ∷ []) (stuck 0)
    ∷ case (0x61 ∷ 0x29 ∷ []) (stuck 1)
    ∷ case (0x29 ∷ []) (stuck 1)
    -- Side by side is Seq, | is Or, both grouped to the left, and Seq binds tighter
    -- `abc`, `a(bc)`, `a|b|c`, `a|(b|c)`, `ab|cd`, `a(b|c)d`
    ∷ case (0x61 ∷ 0x62 ∷ 0x63 ∷ []) (whole (cat (cat a b 0) c 0))
    ∷ case (0x61 ∷ 0x28 ∷ 0x62 ∷ 0x63 ∷ 0x29 ∷ []) (whole (cat a (cat b c 0) 0))
    ∷ case (0x61 ∷ 0x7c ∷ 0x62 ∷ 0x7c ∷ 0x63 ∷ []) (whole (alt (alt a b 0) c 0))
    ∷ case (0x61 ∷ 0x7c ∷ 0x28 ∷ 0x62 ∷ 0x7c ∷ 0x63 ∷ 0x29 ∷ []) (whole (alt a (alt b c 0) 0))
    ∷ case (0x61 ∷ 0x62 ∷ 0x7c ∷ 0x63 ∷ 0x64 ∷ []) (whole (alt (cat a b 0) (cat c d 0) 0))
    ∷ case (0x61 ∷ 0x28 ∷ 0x62 ∷ 0x7c ∷ 0x63 ∷ 0x29 ∷ 0x64 ∷ []) (whole (cat (cat a (alt b c 0) 0) d 0))
    -- Neither side of | may be missing, nor the whole text
    -- no byte, `a|`, `|a`, `a||b`, `(a|)`, `(|a)`, `a|()`
    ∷ case [] (stuck 0)
    ∷ case (0x61 ∷ 0x7c ∷ []) (stuck 0)
    ∷ case (0x7c ∷ 0x61 ∷ []) (stuck 2)
    ∷ case (0x61 ∷ 0x7c ∷ 0x7c ∷ 0x62 ∷ []) (stuck 2)
    ∷ case (0x28 ∷ 0x61 ∷ 0x7c ∷ 0x29 ∷ []) (stuck 1)
    ∷ case (0x28 ∷ 0x7c ∷ 0x61 ∷ 0x29 ∷ []) (stuck 3)
    ∷ case (0x61 ∷ 0x7c ∷ 0x28 ∷ 0x29 ∷ []) (whole (alt a (unit 0) 0))
    -- * follows an item, and the two are an item again
    -- `ab*`, `(ab)*`, `a**`, `*a`, `a|*b`, `(*)`
    ∷ case (0x61 ∷ 0x62 ∷ 0x2a ∷ []) (whole (cat a (many b 0) 0))
    ∷ case (0x28 ∷ 0x61 ∷ 0x62 ∷ 0x29 ∷ 0x2a ∷ []) (whole (many (cat a b 0) 0))
    ∷ case (0x61 ∷ 0x2a ∷ 0x2a ∷ []) (whole (many (many a 0) 0))
    ∷ case (0x2a ∷ 0x61 ∷ []) (stuck 2)
    ∷ case (0x61 ∷ 0x7c ∷ 0x2a ∷ 0x62 ∷ []) (stuck 2)
    ∷ case (0x28 ∷ 0x2a ∷ 0x29 ∷ []) (stuck 2)
    -- A tag follows an item, with exactly three digits, 001 to 255; a digit after its last one is a plain byte
    -- `a#001`, `ab#002`, `(ab)#002`, `()#255`, `a#0015`, `a#000`, `a#256`, `a#01`, `a#01b`, `#001`, `(#001`
    ∷ case (0x61 ∷ 0x23 ∷ 0x30 ∷ 0x30 ∷ 0x31 ∷ []) (whole (range 0x61 0x61 1))
    ∷ case (0x61 ∷ 0x62 ∷ 0x23 ∷ 0x30 ∷ 0x30 ∷ 0x32 ∷ []) (whole (cat a (range 0x62 0x62 2) 0))
    ∷ case (0x28 ∷ 0x61 ∷ 0x62 ∷ 0x29 ∷ 0x23 ∷ 0x30 ∷ 0x30 ∷ 0x32 ∷ []) (whole (cat a b 2))
    ∷ case (0x28 ∷ 0x29 ∷ 0x23 ∷ 0x32 ∷ 0x35 ∷ 0x35 ∷ []) (whole (unit 255))
    ∷ case (0x61 ∷ 0x23 ∷ 0x30 ∷ 0x30 ∷ 0x31 ∷ 0x35 ∷ []) (whole (cat (range 0x61 0x61 1) (range 0x35 0x35 0) 0))
    ∷ case (0x61 ∷ 0x23 ∷ 0x30 ∷ 0x30 ∷ 0x30 ∷ []) (stuck 4)
    ∷ case (0x61 ∷ 0x23 ∷ 0x32 ∷ 0x35 ∷ 0x36 ∷ []) (stuck 4)
    ∷ case (0x61 ∷ 0x23 ∷ 0x30 ∷ 0x31 ∷ []) (stuck 3)
    ∷ case (0x61 ∷ 0x23 ∷ 0x30 ∷ 0x31 ∷ 0x62 ∷ []) (stuck 4)
    ∷ case (0x23 ∷ 0x30 ∷ 0x30 ∷ 0x31 ∷ []) (stuck 4)
    ∷ case (0x28 ∷ 0x23 ∷ 0x30 ∷ 0x30 ∷ 0x31 ∷ []) (stuck 4)
    -- The tag is that of the item's own record, which takes no other, bare or in parentheses; a Star is another record
    -- `a#001#002`, `(a#001)#002`, `((a)#001)#002`, `a*#001`, `a#001*#002`, `(a#001b)#002`
    ∷ case (0x61 ∷ 0x23 ∷ 0x30 ∷ 0x30 ∷ 0x31 ∷ 0x23 ∷ 0x30 ∷ 0x30 ∷ 0x32 ∷ []) (stuck 4)
    ∷ case (0x28 ∷ 0x61 ∷ 0x23 ∷ 0x30 ∷ 0x30 ∷ 0x31 ∷ 0x29 ∷ 0x23 ∷ 0x30 ∷ 0x30 ∷ 0x32 ∷ []) (stuck 4)
    ∷ case (0x28 ∷ 0x28 ∷ 0x61 ∷ 0x29 ∷ 0x23 ∷ 0x30 ∷ 0x30 ∷ 0x31 ∷ 0x29 ∷ 0x23 ∷ 0x30 ∷ 0x30 ∷ 0x32 ∷ []) (stuck 4)
    ∷ case (0x61 ∷ 0x2a ∷ 0x23 ∷ 0x30 ∷ 0x30 ∷ 0x31 ∷ []) (whole (many a 1))
    ∷ case (0x61 ∷ 0x23 ∷ 0x30 ∷ 0x30 ∷ 0x31 ∷ 0x2a ∷ 0x23 ∷ 0x30 ∷ 0x30 ∷ 0x32 ∷ []) (whole (many (range 0x61 0x61 1) 2))
    ∷ case (0x28 ∷ 0x61 ∷ 0x23 ∷ 0x30 ∷ 0x30 ∷ 0x31 ∷ 0x62 ∷ 0x29 ∷ 0x23 ∷ 0x30 ∷ 0x30 ∷ 0x32 ∷ []) (whole (cat (range 0x61 0x61 1) b 2))
    ∷ []

-- a text and the table that it is written as
pub record Written : Type 0 where
  pub text : List ℕ
  pub bytes : List ℕ

abbrev written : List ℕ → List ℕ → Written
written s bs = record { text = s; bytes = bs }

abbrev pub stated_bytes : Written → List ℕ
stated_bytes x = x.bytes

unfoldable pub computed_bytes : Written → List ℕ
computed_bytes x = table_bytes (limited x.text)

-- "Children are written before parents, each side whole, left before right, the root last": `ab`, `()*#007`, `[a_c]*|bc#002`
abbrev pub tables : List Written
tables =
    written (0x61 ∷ 0x62 ∷ []) (2 ∷ 0x61 ∷ 0x61 ∷ 0 ∷ 2 ∷ 0x62 ∷ 0x62 ∷ 0 ∷ 4 ∷ 0 ∷ 1 ∷ 0 ∷ [])
    ∷ written (0x28 ∷ 0x29 ∷ 0x2a ∷ 0x23 ∷ 0x30 ∷ 0x30 ∷ 0x37 ∷ []) (1 ∷ 0 ∷ 0 ∷ 0 ∷ 5 ∷ 0 ∷ 0 ∷ 7 ∷ [])
    ∷ written (0x5b ∷ 0x61 ∷ 0x2d ∷ 0x63 ∷ 0x5d ∷ 0x2a ∷ 0x7c ∷ 0x62 ∷ 0x63 ∷ 0x23 ∷ 0x30 ∷ 0x30 ∷ 0x32 ∷ [])
    (2 ∷ 0x61 ∷ 0x63 ∷ 0 ∷ 5 ∷ 0 ∷ 0 ∷ 0 ∷ 2 ∷ 0x62 ∷ 0x62 ∷ 0 ∷ 2 ∷ 0x63 ∷ 0x63 ∷ 2 ∷ 4 ∷ 2 ∷ 3 ∷ 0 ∷ 3 ∷ 1 ∷ 4 ∷ 0 ∷ [])
    ∷ []
