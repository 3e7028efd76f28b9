-- The page's answer: a result or a refusal, and the one that is refused (document 02, request 8): "Turned away, naming line rules, page rules, one
-- line or the page". And its number for a C caller.
-- Assumes nothing.
use Rattle.std.specs.Prelude.{ℕ, ◌+◌, ◌*◌, Result, Ok, Err}
use Rattle.table.specs.Answers.{Said, gives, refuses, refusal, number}
use Rattle.page.specs.declared.PageRefusal.{PageRefusal}
use Rattle.page.specs.declared.PageRefusal.TheVariants.{LineRules, PageRules, OneLine, WholePage}

pub data Who : Type 0 where
  the_page : Who
  line_rules : Who
  page_rules : Who
  one_line : Who

-- an answer in the paper's numbers, and the one it is of
pub data PageSaid : Type 0 where
  names : Who → Said → PageSaid

abbrev pub said_of : PageSaid → Said
said_of (names who said) = said

-- "A single line's refusal has that line's number, from 0, as detail."
abbrev pub at_line : ℕ → Said → Said
at_line i (gives n) = gives n
at_line i (refuses n d) = refuses n i

-- every refusal in the paper's numbers
abbrev pub refusal_says : PageRefusal → PageSaid
refusal_says (LineRules why) = names line_rules (refusal why)
refusal_says (PageRules why) = names page_rules (refusal why)
refusal_says (OneLine why i) = names one_line (at_line i (refusal why))
refusal_says (WholePage why) = names the_page (refusal why)

-- and every answer
abbrev pub outcome_says : Result ℕ PageRefusal → PageSaid
outcome_says (Ok n) = names the_page (gives n)
outcome_says (Err why) = refusal_says why

-- the number for C: the one named times 2^56, plus the number of what is said of it
abbrev pub who_number : Who → ℕ
who_number the_page = 0
who_number line_rules = 1
who_number page_rules = 2
who_number one_line = 3

abbrev pub page_number : PageSaid → ℕ
page_number (names who said) = who_number who * 72057594037927936 + number said
