-- Document 01's lines on the bench, as expressions and values: T1, T2, T3 and the cases A to D (D's reading), E, F, G and I; and lines for the
-- letters, Other among them (document 02, request 1).
-- Assumes nothing.
use Rattle.std.specs.Prelude.{ℕ, ◌≡◌, List, [], ◌∷◌}
use Rattle.posix.specs.Expressions.{within, outside, Exp, empty, letter, or, seq, star}
use Rattle.posix.specs.Values.{Val, void, byte, left, right, pair, none, more, flat, Reads}
use Rattle.posix.specs.Language.{L}
use Rattle.posix.specs.Relation.{Posix}
use Rattle.posix.specs.Decision.{Parsed, found, missing, parse}
use Rattle.posix.specs.Ranking.{Verdict, first, rank, Ranked}

-- the letter of one byte
abbrev pub only : ℕ → Exp
only c = letter (within c c)

-- T1, (a + ab + bc)*
abbrev pub T1 : Exp
T1 = star (or (or (only 0x61) (seq (only 0x61) (only 0x62))) (seq (only 0x62) (only 0x63)))

-- T2, (a + ε)·(b + ab)
abbrev pub T2 : Exp
T2 = seq (or (only 0x61) empty) (or (only 0x62) (seq (only 0x61) (only 0x62)))

-- T3, ε*
abbrev pub T3 : Exp
T3 = star empty

-- a remark and its semicolon: Other from ; to ; under a Star, then the semicolon
abbrev pub Remark : Exp
Remark = seq (star (letter (outside 0x3b 0x3b))) (only 0x3b)

-- every byte but 5, and no byte at all
abbrev pub AllBut5 : Exp
AllBut5 = letter (outside 5 5)

abbrev pub NoByte : Exp
NoByte = letter (outside 0 255)

-- the three alternatives of T1, as an iteration reads them
abbrev a : Val
a = left (left (byte 0x61))

abbrev ab : Val
ab = left (right (pair (byte 0x61) (byte 0x62)))

abbrev bc : Val
bc = right (pair (byte 0x62) (byte 0x63))

-- case F's reading
abbrev pub F-reading : Val
F-reading = pair (left (byte 0x61)) (left (byte 0x62))

-- the rival that case G sets against it
abbrev pub G-rival : Val
G-rival = pair (right void) (right (pair (byte 0x61) (byte 0x62)))

-- a case: a line and what the expression reads it as, or two readings and how they rank
pub data Case : Type 0 where
  reads_as : Exp → List ℕ → Parsed → Case
  ranks_as : Exp → Val → Val → Verdict → Case

pub data Outcome : Type 0 where
  reading : Parsed → Outcome
  verdict : Verdict → Outcome

-- what is stated for the case
abbrev pub stated : Case → Outcome
stated (reads_as r s p) = reading p
stated (ranks_as r v w d) = verdict d

-- what the definitions compute
abbrev pub computed : Case → Outcome
computed (reads_as r s p) = reading (parse r s)
computed (ranks_as r v w d) = verdict (rank v w)

-- what a case says of the relation and of the precedence
abbrev pub Meaning : Case → Type 0
Meaning (reads_as r s (found v)) = Posix s r v
Meaning (reads_as r s missing) = ¬ (L r s)
Meaning (ranks_as r v w d) = Reads r v → Reads r w → flat v ≡ flat w → Ranked v w d

abbrev pub cases : List Case
cases =
    reads_as T1 [] (found none)
    ∷ reads_as T1 (0x61 ∷ 0x62 ∷ []) (found (more ab none))
    ∷ reads_as T1 (0x61 ∷ 0x62 ∷ 0x63 ∷ []) (found (more a (more bc none)))
    ∷ reads_as T1 (0x61 ∷ 0x62 ∷ 0x63 ∷ 0x61 ∷ 0x62 ∷ []) (found (more a (more bc (more ab none))))
    ∷ reads_as T1 (0x62 ∷ []) missing
    ∷ reads_as T2 (0x61 ∷ 0x62 ∷ []) (found F-reading)
    ∷ ranks_as T2 F-reading G-rival first
    ∷ reads_as T3 [] (found none)
    -- Other
    ∷ reads_as Remark (0x61 ∷ 0x62 ∷ 0x3b ∷ []) (found (pair (more (byte 0x61) (more (byte 0x62) none)) (byte 0x3b)))
    ∷ reads_as Remark (0x3b ∷ []) (found (pair none (byte 0x3b)))
    ∷ reads_as Remark (0x61 ∷ 0x3b ∷ 0x62 ∷ 0x3b ∷ []) missing
    ∷ reads_as AllBut5 (4 ∷ []) (found (byte 4))
    ∷ reads_as AllBut5 (5 ∷ []) missing
    ∷ reads_as AllBut5 (6 ∷ []) (found (byte 6))
    ∷ reads_as (letter (outside 5 7)) (7 ∷ []) missing
    ∷ reads_as NoByte [] missing
    ∷ reads_as NoByte (0 ∷ []) missing
    ∷ reads_as NoByte (255 ∷ []) missing
    -- no letter holds a number that is no byte
    ∷ reads_as NoByte (256 ∷ []) missing
    ∷ reads_as AllBut5 (255 ∷ []) (found (byte 255))
    ∷ reads_as AllBut5 (256 ∷ []) missing
    ∷ reads_as (letter (within 0 256)) (256 ∷ []) missing
    ∷ []
