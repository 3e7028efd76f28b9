-- Tables, exchanges at some of their records and lines, with the table that they give, what Check says of both, and the line's tokens by each.
-- Assumes nothing.
use Rattle.std.specs.Prelude.{ℕ, Bool, true, false, List, [], ◌∷◌, ◌++◌}
use Rattle.posix.specs.Decision.{parse}
use Rattle.table.specs.Records.{record_bytes}
use Rattle.table.specs.Answers.{Said, gives, refuses}
use Rattle.table.specs.Checked.{checked}
use Rattle.table.specs.Expression.{exp_of}
use Rattle.reading.specs.Codec.{encode}
use Rattle.reading.specs.Calls.{bytes_of}
use Rattle.tokens.specs.Tokens.{token_bytes}
use Rattle.lexer.specs.Lexing.{tokens_of}
use Rattle.reorder.specs.Exchanges.{reordered, changed}
use Rattle.reorder.specs.Readings.{mirrored}
use Rattle.reorder.specs.Tests.{seen_apart}

pub record Case : Type 0 where
  pub table : List ℕ
  pub exchanges : List ℕ
  pub start : ℕ
  pub line : List ℕ

-- what is said of one
pub record Outcome : Type 0 where
  pub becomes : List ℕ
  pub checks : Said
  pub checks_after : Said
  pub tokens : List ℕ
  pub tokens_after : List ℕ

abbrev pub computed : Case → Outcome
computed c =
    record {
      becomes = reordered c.table c.exchanges;
      checks = checked c.table;
      checks_after = checked (reordered c.table c.exchanges);
      tokens = token_bytes (tokens_of c.table c.start c.line);
      tokens_after = token_bytes (tokens_of (reordered c.table c.exchanges) c.start c.line);
    }

-- document 01's T1, (a + ab + bc)*, with the fields of its two Or records, 7 and 8
abbrev pub T1With : ℕ → ℕ → ℕ → ℕ → List ℕ
T1With a7 b7 a8 b8 =
    record_bytes 2 0x61 0x61 1
    ++ record_bytes 2 0x61 0x61 0
    ++ record_bytes 2 0x62 0x62 0
    ++ record_bytes 4 1 2 2
    ++ record_bytes 2 0x62 0x62 0
    ++ record_bytes 2 0x63 0x63 0
    ++ record_bytes 4 4 5 3
    ++ record_bytes 3 a7 b7 0
    ++ record_bytes 3 a8 b8 0
    ++ record_bytes 5 8 0 0

abbrev pub T1 : List ℕ
T1 = T1With 0 3 7 6

-- a keyword, brake, named 1, and names of letters, named 2: alternatives of record 11, which both spell the keyword
abbrev pub KeywordWith : ℕ → ℕ → List ℕ
KeywordWith a b =
    record_bytes 2 0x62 0x62 0
    ++ record_bytes 2 0x72 0x72 0
    ++ record_bytes 4 0 1 0
    ++ record_bytes 2 0x61 0x61 0
    ++ record_bytes 4 2 3 0
    ++ record_bytes 2 0x6b 0x6b 0
    ++ record_bytes 4 4 5 0
    ++ record_bytes 2 0x65 0x65 0
    ++ record_bytes 4 6 7 1
    ++ record_bytes 2 0x61 0x7a 0
    ++ record_bytes 5 9 0 2
    ++ record_bytes 3 a b 0

abbrev pub Keyword : List ℕ
Keyword = KeywordWith 8 10

abbrev pub brake : List ℕ
brake = 0x62 ∷ 0x72 ∷ 0x61 ∷ 0x6b ∷ 0x65 ∷ []

-- an Or of letters, named 1 and 2, the record's own tag being 3
abbrev TaggedWith : ℕ → ℕ → List ℕ
TaggedWith a b = record_bytes 2 0x61 0x61 1 ++ record_bytes 2 0x61 0x62 2 ++ record_bytes 3 a b 3

-- refused tables: a child twice, a child that is not below its parent, a byte over
abbrev TwiceWith : ℕ → ℕ → List ℕ
TwiceWith a b = record_bytes 1 0 0 0 ++ record_bytes 1 0 0 0 ++ record_bytes 5 0 0 0 ++ record_bytes 3 a b 0

abbrev AboveWith : ℕ → ℕ → List ℕ
AboveWith a b = record_bytes 1 0 0 0 ++ record_bytes 3 a b 0

-- what is stated
pub record Stated : Type 0 where
  pub case : Case
  pub outcome : Outcome

abbrev stated : List ℕ → List ℕ → ℕ → List ℕ → List ℕ → Said → List ℕ → List ℕ → Stated
stated t ks k s u said before after =
    record {
      case = record { table = t; exchanges = ks; start = k; line = s };
      outcome = record { becomes = u; checks = said; checks_after = said; tokens = before; tokens_after = after };
    }

abbrev pub cases : List Stated
cases =
    -- T1 and abcab: one exchange, the other, both, and one twice
    stated T1 (7 ∷ []) 9 (0x61 ∷ 0x62 ∷ 0x63 ∷ 0x61 ∷ 0x62 ∷ []) (T1With 3 0 7 6) (gives 10) (1 ∷ 0 ∷ 1 ∷ 3 ∷ 1 ∷ 2 ∷ 2 ∷ 3 ∷ 2 ∷ [])
    (1 ∷ 0 ∷ 1 ∷ 3 ∷ 1 ∷ 2 ∷ 2 ∷ 3 ∷ 2 ∷ [])
    ∷ stated T1 (8 ∷ []) 9 (0x61 ∷ 0x62 ∷ 0x63 ∷ 0x61 ∷ 0x62 ∷ []) (T1With 0 3 6 7) (gives 10) (1 ∷ 0 ∷ 1 ∷ 3 ∷ 1 ∷ 2 ∷ 2 ∷ 3 ∷ 2 ∷ [])
    (1 ∷ 0 ∷ 1 ∷ 3 ∷ 1 ∷ 2 ∷ 2 ∷ 3 ∷ 2 ∷ [])
    ∷ stated T1 (7 ∷ 8 ∷ []) 9 (0x61 ∷ 0x62 ∷ 0x63 ∷ 0x61 ∷ 0x62 ∷ []) (T1With 3 0 6 7) (gives 10) (1 ∷ 0 ∷ 1 ∷ 3 ∷ 1 ∷ 2 ∷ 2 ∷ 3 ∷ 2 ∷ [])
    (1 ∷ 0 ∷ 1 ∷ 3 ∷ 1 ∷ 2 ∷ 2 ∷ 3 ∷ 2 ∷ [])
    ∷ stated T1 (8 ∷ 7 ∷ 8 ∷ []) 9 (0x61 ∷ 0x62 ∷ []) (T1With 3 0 7 6) (gives 10) (2 ∷ 0 ∷ 2 ∷ []) (2 ∷ 0 ∷ 2 ∷ [])
    -- the keyword: its name changes; another word, and no word at all, keep theirs
    ∷ stated Keyword (11 ∷ []) 11 brake (KeywordWith 10 8) (gives 12) (1 ∷ 0 ∷ 5 ∷ []) (2 ∷ 0 ∷ 5 ∷ [])
    ∷ stated Keyword (11 ∷ []) 11 (0x62 ∷ 0x72 ∷ []) (KeywordWith 10 8) (gives 12) (2 ∷ 0 ∷ 2 ∷ []) (2 ∷ 0 ∷ 2 ∷ [])
    ∷ stated Keyword (11 ∷ []) 11 [] (KeywordWith 10 8) (gives 12) [] []
    -- a shared line under a tag keeps its token
    ∷ stated (TaggedWith 0 1) (2 ∷ []) 2 (0x61 ∷ []) (TaggedWith 1 0) (gives 3) (3 ∷ 0 ∷ 1 ∷ []) (3 ∷ 0 ∷ 1 ∷ [])
    -- refused tables
    ∷ stated (TwiceWith 0 1) (3 ∷ []) 3 [] (TwiceWith 1 0) (refuses 6 3) [] []
    ∷ stated (AboveWith 0 1) (1 ∷ []) 1 [] (AboveWith 1 0) (refuses 5 1) [] []
    ∷ stated (AboveWith 0 7 ++ (9 ∷ [])) (1 ∷ []) 1 [] (AboveWith 7 0 ++ (9 ∷ [])) (refuses 1 0) [] []
    ∷ []

-- a case with the readings of its line, and what exchanging Left and Right makes of the first
pub record Written : Type 0 where
  pub case : Case
  pub reading : List ℕ
  pub reading_after : List ℕ

abbrev reading_by : List ℕ → ℕ → List ℕ → List ℕ
reading_by t k s = bytes_of (parse (exp_of t k) s) (λ v. encode t k v)

abbrev pub readings : Written → List (List ℕ)
readings x =
    reading_by x.case.table x.case.start x.case.line
    ∷ reading_by (reordered x.case.table x.case.exchanges) x.case.start x.case.line
    ∷ mirrored (changed x.case.exchanges) x.reading
    ∷ []

abbrev pub readings_stated : Written → List (List ℕ)
readings_stated x = x.reading ∷ x.reading_after ∷ x.reading_after ∷ []

-- T1 and ab, which is a Right of record 7 in a Left of record 8; a reading's records have 4 bytes as a table's have
abbrev ab_reading : ℕ → ℕ → List ℕ
ab_reading at8 at7 =
    record_bytes 5 1 2 9
    ++ record_bytes at8 0 2 8
    ++ record_bytes at7 0 2 7
    ++ record_bytes 4 0 2 3
    ++ record_bytes 1 0x61 1 1
    ++ record_bytes 1 0x62 1 2

abbrev ab : List ℕ → ℕ → ℕ → Written
ab ks at8 at7 =
    record {
      case = record { table = T1; exchanges = ks; start = 9; line = 0x61 ∷ 0x62 ∷ [] };
      reading = ab_reading 2 3;
      reading_after = ab_reading at8 at7;
    }

abbrev pub written : List Written
written = ab [] 2 3 ∷ ab (7 ∷ []) 2 2 ∷ ab (8 ∷ []) 3 3 ∷ ab (7 ∷ 8 ∷ []) 3 2 ∷ ab (8 ∷ 7 ∷ 8 ∷ []) 2 2 ∷ []

-- records of which the test says that they are Or records with alternatives that share no line, or not
pub record Tried : Type 0 where
  pub table : List ℕ
  pub record_number : ℕ
  pub answer : Bool

abbrev tried : List ℕ → ℕ → Bool → Tried
tried t k y = record { table = t; record_number = k; answer = y }

-- an Or of two letters, each of one byte, and of two lines of two bytes
abbrev Letters : ℕ → ℕ → List ℕ
Letters a b = record_bytes 2 a a 0 ++ record_bytes 2 b b 0 ++ record_bytes 3 0 1 0

abbrev Pairs : ℕ → ℕ → ℕ → ℕ → List ℕ
Pairs a b c d =
    record_bytes 2 a a 0
    ++ record_bytes 2 b b 0
    ++ record_bytes 4 0 1 0
    ++ record_bytes 2 c c 0
    ++ record_bytes 2 d d 0
    ++ record_bytes 4 3 4 0
    ++ record_bytes 3 2 5 0

-- an Or of Empty and a Star
abbrev Blank : List ℕ
Blank = record_bytes 1 0 0 0 ++ record_bytes 2 0x61 0x61 0 ++ record_bytes 5 1 0 0 ++ record_bytes 3 0 2 0

abbrev pub tries : List Tried
tries =
    tried T1 7 true
    ∷ tried T1 8 true
    ∷ tried T1 3 false
    ∷ tried T1 9 false
    ∷ tried Keyword 11 false
    ∷ tried (Letters 0 1) 2 true
    ∷ tried (Letters 0 0) 2 false
    ∷ tried (Letters 254 255) 2 true
    ∷ tried (Letters 255 255) 2 false
    -- ab and cb by their first bytes, ab and ac by their last ones
    ∷ tried (Pairs 0x61 0x62 0x63 0x62) 6 true
    ∷ tried (Pairs 0x61 0x62 0x61 0x63) 6 true
    ∷ tried (Pairs 0x61 0x62 0x61 0x62) 6 false
    ∷ tried Blank 3 false
    ∷ []

abbrev pub answered : Tried → Bool
answered x = seen_apart x.table x.record_number
