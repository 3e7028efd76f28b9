-- What the page's call says and leaves (document 02, request 8): "Turned away, naming line rules, page rules, one line or the page: 1 to 6 and 9 for
-- the line rules, then for the page rules; then 20 for over 255 lines; then the lines in order, each by Read's refusals and Tokens' 11; then the
-- page's class bytes."
-- Assumes nothing.
use Rattle.std.specs.Prelude.{ℕ, suc, ◌%◌, ◌≤◌, ◌≡◌, Bool, cond, ◌||◌, List, [], ◌∷◌, map, eqb, ltb, length}
use Rattle.posix.specs.Decision.{parse}
use Rattle.table.specs.Records.{count}
use Rattle.table.specs.Answers.{Said, gives, refuses, is_refused}
use Rattle.table.specs.Checked.{or_else}
use Rattle.table.specs.Expression.{exp_of}
use Rattle.table.specs.Buffers.{after}
use Rattle.reading.specs.Codec.{encode}
use Rattle.reading.specs.Calls.{if_start, bytes_of}
use Rattle.matcher.specs.Calls.{read_says}
use Rattle.lines.specs.Lines.{lines_of}
use Rattle.lexer.specs.Lexing.{lex_says}
use Rattle.page.specs.Entries.{Rules, Entry, entry_of}
use Rattle.page.specs.Runs.{class_bytes}
use Rattle.page.specs.Outcomes.{Who, the_page, line_rules, page_rules, one_line, PageSaid, names, said_of, at_line}

-- the lengths of the work area, of the buffer for line readings and of the two for tokens
pub record Sizes : Type 0 where
  pub work : ℕ
  pub reading : ℕ
  pub first : ℕ
  pub second : ℕ

-- "lines 0, 2, 4 and so on using the first and the others the second": the first of two for an even number
abbrev pub by_parity : {A : Type 0} → ℕ → A → A → A
by_parity i a b = cond (eqb (i % 2) 0) a b

-- what is said of one, or where it is no refusal what is said behind
abbrev pub if_taken : Who → Said → PageSaid → PageSaid
if_taken who (gives n) said = said
if_taken who (refuses n d) said = names who (refuses n d)

-- what is said of line i: Read's refusals, then Tokens' 11, which is judged on the line's own buffer
abbrev pub line_says : Rules → Sizes → ℕ → List ℕ → Said
line_says l z i s = lex_says l.table l.start s z.work z.reading (by_parity i z.first z.second)

-- of the lines in order, from line i on
abbrev pub lines_say : Rules → Sizes → ℕ → List (List ℕ) → PageSaid → PageSaid
lines_say l z i [] said = said
lines_say l z i (s ∷ ss) said = if_taken one_line (at_line i (line_says l z i s)) (lines_say l z (suc i) ss said)

-- the lines of a page with their tokens, and its class bytes
abbrev pub entries_of : Rules → List ℕ → List Entry
entries_of l page = map (entry_of l) (lines_of page)

abbrev pub classes_of : Rules → List ℕ → List ℕ
classes_of l page = class_bytes (entries_of l page)

-- 1 to 6 and 9 of rules; 20 of a number of lines
abbrev pub rules_say : Rules → Said
rules_say l = if_start l.table l.start (gives (count l.table))

abbrev pub count_says : ℕ → Said
count_says n = or_else (ltb 255 n) (refuses 20 0) (gives n)

-- the page's answer by the line rules, the page rules, the page, and the lengths of the buffers, the output's last
unfoldable pub page_says : Rules → Rules → List ℕ → Sizes → ℕ → PageSaid
page_says l p page z room =
    if_taken line_rules (rules_say l)
    (if_taken page_rules (rules_say p)
    (if_taken the_page (count_says (length (lines_of page)))
    (lines_say l z 0 (lines_of page)
    (names the_page (read_says p.table p.start (classes_of l page) z.work room)))))

-- the output buffer afterwards: the reading of the class bytes in front and the later bytes left, or nothing changed
unfoldable pub page_leaves : Rules → Rules → List ℕ → Sizes → List ℕ → List ℕ
page_leaves l p page z out =
    after (said_of (page_says l p page z (length out)))
    (bytes_of (parse (exp_of p.table p.start) (classes_of l page)) (λ v. encode p.table p.start v)) out

-- "Scratch and work area are untouched where either rules or the line count are refused, and free in every other case"
unfoldable pub keeps_scratch : Rules → Rules → List ℕ → Bool
keeps_scratch l p page =
    is_refused (rules_say l) || (is_refused (rules_say p) || is_refused (count_says (length (lines_of page))))

-- lines that are taken, the first of them with number i
abbrev pub AllTaken : Rules → Sizes → ℕ → List (List ℕ) → Type 0
AllTaken l z i [] = Unit {0}
AllTaken l z i (s ∷ ss) = ((m : ℕ) × (line_says l z i s ≡ gives m)) × AllTaken l z (suc i) ss

-- both rules, the number of lines and every line are taken, so that the class bytes are read
pub record PageTaken (l p : Rules) (page : List ℕ) (z : Sizes) : Type 0 where
  pub by_lines : rules_say l ≡ gives (count l.table)
  pub by_page : rules_say p ≡ gives (count p.table)
  pub few : length (lines_of page) ≤ 255
  pub lines : AllTaken l z 0 (lines_of page)
