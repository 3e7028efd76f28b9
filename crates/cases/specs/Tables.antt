-- The tables T1 to T4 of document 01, "Lines on the bench", byte for byte, tables for the kind of document 02, request 1, and T1 and T2 as texts of
-- its request 3.
-- Assumes nothing.
use Rattle.std.specs.Prelude.{ℕ, List, [], ◌∷◌}
use Rattle.notation.specs.Calls.{limited, table_bytes}

-- T1, (a + ab + bc)*, start 9
abbrev pub T1 : List ℕ
T1 =
    2 ∷ 0x61 ∷ 0x61 ∷ 1
    ∷ 2 ∷ 0x61 ∷ 0x61 ∷ 0
    ∷ 2 ∷ 0x62 ∷ 0x62 ∷ 0
    ∷ 4 ∷ 1 ∷ 2 ∷ 2
    ∷ 2 ∷ 0x62 ∷ 0x62 ∷ 0
    ∷ 2 ∷ 0x63 ∷ 0x63 ∷ 0
    ∷ 4 ∷ 4 ∷ 5 ∷ 3
    ∷ 3 ∷ 0 ∷ 3 ∷ 0
    ∷ 3 ∷ 7 ∷ 6 ∷ 0
    ∷ 5 ∷ 8 ∷ 0 ∷ 0
    ∷ []

-- T2, (a + ε)·(b + ab), start 8
abbrev pub T2 : List ℕ
T2 =
    2 ∷ 0x61 ∷ 0x61 ∷ 0
    ∷ 1 ∷ 0 ∷ 0 ∷ 0
    ∷ 3 ∷ 0 ∷ 1 ∷ 0
    ∷ 2 ∷ 0x62 ∷ 0x62 ∷ 0
    ∷ 2 ∷ 0x61 ∷ 0x61 ∷ 0
    ∷ 2 ∷ 0x62 ∷ 0x62 ∷ 0
    ∷ 4 ∷ 4 ∷ 5 ∷ 0
    ∷ 3 ∷ 3 ∷ 6 ∷ 0
    ∷ 4 ∷ 2 ∷ 7 ∷ 0
    ∷ []

-- T3, ε*, start 1
abbrev pub T3 : List ℕ
T3 = 1 ∷ 0 ∷ 0 ∷ 0 ∷ 5 ∷ 0 ∷ 0 ∷ 0 ∷ []

-- T4, start 0
abbrev pub T4 : List ℕ
T4 = 1 ∷ 0 ∷ 0 ∷ 7 ∷ []

-- free text up to the semicolon, token 9, and the semicolon: a Star over an Other from ; to ;, then ;. Start 3
abbrev pub Remark : List ℕ
Remark =
    6 ∷ 0x3b ∷ 0x3b ∷ 0
    ∷ 5 ∷ 0 ∷ 0 ∷ 9
    ∷ 2 ∷ 0x3b ∷ 0x3b ∷ 0
    ∷ 4 ∷ 1 ∷ 2 ∷ 0
    ∷ []

-- a, an optional g and b, tokens 1, 2 and 3. Start 6
abbrev pub Gust : List ℕ
Gust =
    2 ∷ 0x61 ∷ 0x61 ∷ 1
    ∷ 2 ∷ 0x67 ∷ 0x67 ∷ 0
    ∷ 1 ∷ 0 ∷ 0 ∷ 0
    ∷ 3 ∷ 1 ∷ 2 ∷ 2
    ∷ 2 ∷ 0x62 ∷ 0x62 ∷ 3
    ∷ 4 ∷ 3 ∷ 4 ∷ 0
    ∷ 4 ∷ 0 ∷ 5 ∷ 0
    ∷ []

-- two tagged Empties in a tagged Seq. Start 2
abbrev pub Blank : List ℕ
Blank =
    1 ∷ 0 ∷ 0 ∷ 7
    ∷ 1 ∷ 0 ∷ 0 ∷ 8
    ∷ 4 ∷ 0 ∷ 1 ∷ 9
    ∷ []

-- Other from 0 to 255, start 0
abbrev pub NoByte : List ℕ
NoByte = 6 ∷ 0 ∷ 255 ∷ 0 ∷ []

-- Other from 5 to 5, start 0
abbrev pub AllBut5 : List ℕ
AllBut5 = 6 ∷ 5 ∷ 5 ∷ 0 ∷ []

-- Other with a above b
abbrev pub Crossed : List ℕ
Crossed = 6 ∷ 6 ∷ 5 ∷ 0 ∷ []

-- a kind above all
abbrev pub Kind7 : List ℕ
Kind7 = 7 ∷ 0 ∷ 0 ∷ 0 ∷ []

-- (a#001|(ab)#002|(bc)#003)*: T1 as a text, and the table that it stands for. Start 9
abbrev pub T1-text : List ℕ
T1-text = 0x28 ∷ 0x61 ∷ 0x23 ∷ 0x30 ∷ 0x30 ∷ 0x31 ∷ 0x7c ∷ 0x28 ∷ 0x61 ∷ 0x62 ∷ 0x29 ∷ 0x23 ∷ 0x30 ∷ 0x30 ∷ 0x32 ∷ 0x7c ∷ 0x28 ∷ 0x62 ∷ 0x63 ∷ 0x29 ∷ 0x23 ∷ 0x30 ∷ 0x30 ∷ 0x33 ∷ 0x29 ∷ 0x2a ∷ []

unfoldable pub T1-written : List ℕ
T1-written = table_bytes (limited T1-text)

-- (a|())(b|ab): T2 as a text, and the table that it stands for. Start 8
abbrev pub T2-text : List ℕ
T2-text = 0x28 ∷ 0x61 ∷ 0x7c ∷ 0x28 ∷ 0x29 ∷ 0x29 ∷ 0x28 ∷ 0x62 ∷ 0x7c ∷ 0x61 ∷ 0x62 ∷ 0x29 ∷ []

unfoldable pub T2-written : List ℕ
T2-written = table_bytes (limited T2-text)
