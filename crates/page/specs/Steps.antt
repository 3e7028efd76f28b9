-- What the functions that read a page's lines are given and leave.
-- Assumes nothing.
use Rattle.std.specs.Prelude.{ℕ, suc, ◌+◌, ◌/◌, ◌≤◌, ◌≡◌, Bool, not, ◌||◌, List, [], ◌∷◌, ◌++◌, eqb, length, take, Result, Ok, Err, IfOk}
use Rattle.table.specs.declared.Refusal.{Refusal}
use Rattle.table.specs.Answers.{Said, gives, refusal}
use Rattle.tokens.specs.Tokens.{Token, cons_if, token_bytes}
use Rattle.lexer.specs.Lexing.{tokens_of, lex_says}
use Rattle.lines.specs.Lines.{lines_of}
use Rattle.page.specs.declared.PageRefusal.{PageRefusal}
use Rattle.page.specs.declared.Reader.{Reader}
use Rattle.page.specs.declared.Step.{Step}
use Rattle.page.specs.Entries.{Rules, Entry, entry_of, alike, class_of}
use Rattle.page.specs.Outcomes.{PageSaid, refusal_says}
use Rattle.page.specs.Pages.{Sizes, lines_say, classes_of}

-- line i opens a run: it is the first, or not alike to the line before
abbrev pub opens_run : ℕ → Entry → Entry → Bool
opens_run i before e = eqb i 0 || not (alike before e)

-- the class bytes of lines from line i on
abbrev pub classes_from : ℕ → Entry → List Entry → List ℕ
classes_from i before [] = []
classes_from i before (e ∷ es) = cons_if (opens_run i before e) (class_of e) (classes_from (suc i) e es)

-- the rules that a reader holds
abbrev pub rules_of : Reader → Rules
rules_of r = record { table = r.table.now; start = r.start }

-- what is said of a line by its step: a token takes 3 bytes
abbrev pub step_says : Result Step Refusal → Said
step_says (Ok x) = gives (x.size / 3)
step_says (Err why) = refusal why

-- a line s with number i is read: its tokens go into the buffer `own`, and its class behind `n` class bytes where it opens a run. The line before is u,
-- and its tokens stand in `before`.
pub record Stepped (l : Rules) (work room i : ℕ) (s u before own own' classes : List ℕ) (n : ℕ) (classes' : List ℕ) (r : Result Step Refusal) : Type 0 where
  pub said : step_says r ≡ lex_says l.table l.start s work room (length own)
  pub held : IfOk r (λ x. x.size ≤ length own)
  pub listed : IfOk r (λ x. take x.size own' ≡ token_bytes (tokens_of l.table l.start s))
  pub few : IfOk r (λ x. x.count ≤ n + 1)
  pub classed :
      IfOk r
      (λ x.
      (xs : List Token) → before ≡ token_bytes xs
      → take x.count classes' ≡ take n classes ++ cons_if (opens_run i (record { text = u; tokens = xs }) (entry_of l s)) (class_of (entry_of l s)) [])

-- what is said of the lines, and then of the page
abbrev pub lines_then : Result ℕ PageRefusal → PageSaid → PageSaid
lines_then (Ok n) said = said
lines_then (Err why) said = refusal_says why

-- a page's lines are read: its class bytes stand in front of `classes`
pub record LinesRead (l : Rules) (z : Sizes) (page classes : List ℕ) (r : Result ℕ PageRefusal) : Type 0 where
  pub said : (said : PageSaid) → lines_say l z 0 (lines_of page) said ≡ lines_then r said
  pub few : IfOk r (λ n. n ≤ 255)
  pub classed : IfOk r (λ n. take n classes ≡ classes_of l page)
