-- The page's answers as the 64-bit number that a C caller is given: they fit it, and no two of them have one number.
-- Assumes nothing.
use Prim.Native.Nat.{ℕ, suc, ◌+◌, ◌*◌, ◌≤◌, ◌<◌}
use mathlib.Core.Path.{◌≡◌, refl, sym, ◌∙◌, ap, ap₂, subst}
use mathlib.Core.Bool.{Bool, true, false}
use mathlib.Core.List.{List, [], ◌∷◌}
use native.Mathlib.Omega.{arith}
use borrow.Author.Tests.{ltb-false}
use lib.Dec.{ltb}
use lib.ListN.{length}
use Rattle.posix.specs.Language.{Bytes}
use Rattle.table.specs.declared.Refusal.{Refusal}
use Rattle.table.specs.Records.{count}
use Rattle.table.specs.Answers.{Said, gives, refuses, refusal, number}
use Rattle.table.specs.Checked.{or_else}
use Rattle.table.proofs.Passing.{count-bound}
use Rattle.reading.specs.Calls.{if_passed}
use Rattle.matcher.specs.Calls.{work_size, read_says}
use Rattle.matcher.specs.Demands.{NoneOutranks}
use Rattle.matcher.proofs.Rivals.{read-outranks}
use Rattle.tokens.specs.Tokens.{token_bytes}
use Rattle.lines.specs.Lines.{lines_of}
use Rattle.lexer.specs.Lexing.{tokens_of, lex_says}
use Rattle.std.specs.Prelude.{Result}
use Rattle.page.specs.declared.PageRefusal.{PageRefusal}
use Rattle.page.specs.Entries.{Rules}
use Rattle.page.specs.Outcomes.{Who, the_page, line_rules, page_rules, one_line, PageSaid, names, at_line, outcome_says, who_number, page_number}
use Rattle.page.specs.Pages.{Sizes, by_parity, if_taken, line_says, lines_say, classes_of, rules_say, page_says, page_leaves, PageTaken}
use Rattle.page.proofs.Meaning.{page-said, page-left, page-setting}
use Rattle.trace.specs.Numbers.{Small, Encodable, SmallPage}
use Rattle.trace.proofs.Bounds.{small-start, small-read}
use Rattle.trace.proofs.Numbers.{same_number}
use Rattle.trace.proofs.Numbered.{read-numbered}

-- a small answer is an answer that fits
small-fits : (x : Said) → Small x → Encodable x
small-fits (gives n) h = tt
small-fits (refuses n d) h = h

-- refusals that stand before an answer
taken-small : (who : Who) (x : Said) (said : PageSaid) → Encodable x → SmallPage said → SmallPage (if_taken who x said)
taken-small who (gives n) said h g = g
taken-small who (refuses n d) said h g = h

-- of rules, of a number of lines, and of a line, whose number is the detail
rules-fit : (l : Rules) → Encodable (rules_say l)
rules-fit l =
    small-fits (rules_say l)
    (small-start l.table l.start (gives (count l.table)) (λ p _. omega (arith, count-bound l.table p)))

at-fits : (i : ℕ) (x : Said) → i < 4294967296 → Encodable x → Encodable (at_line i x)
at-fits i (gives n) l h = tt
at-fits i (refuses n d) l h = (h.0, h.1, h.2, l)

room_fits : (i : ℕ) (b : Bool) (d n : ℕ) → i < 4294967296 → Encodable (at_line i (or_else b (refuses 11 d) (gives n)))
room_fits i true d n l = (omega arith, omega arith, (λ e. omega arith), l)
room_fits i false d n l = tt

line-fits : (l : Rules) (z : Sizes) (i : ℕ) (s : List ℕ) → i < 4294967296 → Encodable (at_line i (line_says l z i s))
unfolding lex_says
line-fits l z i s h =
    go (read_says l.table l.start s z.work z.reading) _
    (small-fits (read_says l.table l.start s z.work z.reading) (small-read l.table l.start s z.work z.reading))
    (room_fits i
    (ltb (by_parity i z.first z.second) (length (token_bytes (tokens_of l.table l.start s))))
    (length (token_bytes (tokens_of l.table l.start s))) (length (tokens_of l.table l.start s)) h)
  where
    go : (x y : Said) → Encodable x → Encodable (at_line i y) → Encodable (at_line i (if_passed x y))
    go (gives m) y e f = f
    go (refuses m d) y e f = at-fits i (refuses m d) h e

lines-small :
    (l : Rules) (z : Sizes) (i : ℕ) (ss : List (List ℕ)) (said : PageSaid) → i + length ss < 4294967296 → SmallPage said → SmallPage (lines_say l z i ss said)
lines-small l z i [] said h g = g
lines-small l z i (s ∷ ss) said h g =
    taken-small one_line (at_line i (line_says l z i s)) (lines_say l z (suc i) ss said) (line-fits l z i s (omega arith))
    (lines-small l z (suc i) ss said (omega arith) g)

-- every answer fits
pub small-page : (l p : Rules) (page : List ℕ) (z : Sizes) (room : ℕ) → SmallPage (page_says l p page z room)
unfolding page_says
small-page l p page z room =
    taken-small line_rules (rules_say l) _ (rules-fit l)
    (taken-small page_rules (rules_say p) _ (rules-fit p) (go (ltb 255 (length (lines_of page))) refl))
  where
    said : PageSaid
    said =
        lines_say l z 0 (lines_of page) (names the_page (read_says p.table p.start (classes_of l page) z.work room))

    go :
        (b : Bool) → ltb 255 (length (lines_of page)) ≡ b
        → SmallPage (if_taken the_page (or_else b (refuses 20 0) (gives (length (lines_of page)))) said)
    go true e = (omega arith, omega arith, (λ e. omega arith), omega arith)
    go false e =
        lines-small l z 0 (lines_of page) _ (omega (arith, ltb-false 255 (length (lines_of page)) e))
        (small-read p.table p.start (classes_of l page) z.work room)

-- its number is below 2^56 times the one named and one more
pub number-low : (x : Said) → Small x → number x < 72057594037927936
number-low (gives n) h = omega arith
number-low (refuses n d) h = omega arith

who-one : (a b : Who) → who_number a ≡ who_number b → a ≡ b
who-one the_page the_page e = refl
who-one the_page line_rules e = absurd (omega arith)
who-one the_page page_rules e = absurd (omega arith)
who-one the_page one_line e = absurd (omega arith)
who-one line_rules the_page e = absurd (omega arith)
who-one line_rules line_rules e = refl
who-one line_rules page_rules e = absurd (omega arith)
who-one line_rules one_line e = absurd (omega arith)
who-one page_rules the_page e = absurd (omega arith)
who-one page_rules line_rules e = absurd (omega arith)
who-one page_rules page_rules e = refl
who-one page_rules one_line e = absurd (omega arith)
who-one one_line the_page e = absurd (omega arith)
who-one one_line line_rules e = absurd (omega arith)
who-one one_line page_rules e = absurd (omega arith)
who-one one_line one_line e = refl

pub same-page-number : (x y : PageSaid) → SmallPage x → SmallPage y → page_number x ≡ page_number y → x ≡ y
same-page-number (names a x) (names b y) h g e =
    let whos : who_number a ≡ who_number b = omega (arith, number-low x h, number-low y g) in
    let numbers : number x ≡ number y = omega (arith, whos) in
    ap₂ names (who-one a b whos) (same_number x y h g numbers)

-- what is said of the page has the number that it has by itself
page-alone : (x : Said) → page_number (names the_page x) ≡ number x
page-alone x = omega arith

-- the refusal that an answer tells, and its number
module _ (o : Result ℕ PageRefusal) (pre : SmallPage (outcome_says o)) where
  pub told-small : (who : Who) (said : Said) → outcome_says o ≡ names who said → Small said
  told-small who said e = subst (λ (x : PageSaid). SmallPage x) e pre

  pub told-low : (who : Who) (said : Said) (n : ℕ) → outcome_says o ≡ names who said → n ≡ number said → n < 72057594037927936
  told-low who said n e f = omega (arith, number-low said (told-small who said e))

  pub told-number :
      (k : ℕ) (who : Who) (said : Said) (n : ℕ) → outcome_says o ≡ names who said → n ≡ number said → k ≡ who_number who * 72057594037927936
      → k + n ≡ page_number (outcome_says o)
  told-number k who said n e f g = rw e (omega arith)

  pub told-page : (said : Said) (n : ℕ) → outcome_says o ≡ names the_page said → n ≡ number said → n ≡ page_number (outcome_says o)
  told-page said n e f = f ∙ sym (page-alone said) ∙ sym (ap page_number e)

  pub line_small : (why : Refusal) (i n d : ℕ) → outcome_says o ≡ names one_line (at_line i (refusal why)) → refuses n d ≡ refusal why → Small (refuses n i)
  line_small why i n d e f = told-small one_line (refuses n i) (e ∙ ap (λ (x : Said). names one_line (at_line i x)) (sym f))

  pub line-number :
      (why : Refusal) (i n d : ℕ) → outcome_says o ≡ names one_line (at_line i (refusal why)) → refuses n d ≡ refusal why
      → 216172782113783808 + n * 4294967296 + i ≡ page_number (outcome_says o)
  line-number why i n d e f =
      let g : outcome_says o ≡ names one_line (refuses n i) = e ∙ ap (λ (x : Said). names one_line (at_line i x)) (sym f) in
      rw g (omega arith)

-- demand 3 of the number
pub page-numbered :
    (l p : Rules) (page : List ℕ) (z : Sizes) (out final : List ℕ) (r : ℕ) → r ≡ page_number (page_says l p page z (length out))
    → final ≡ page_leaves l p page z out
    → PageTaken l p page z
    → Bytes l.table
    → work_size (count p.table) (length (classes_of l page)) ≤ z.work
    → NoneOutranks (λ x. r ≡ number x) p.table p.start (classes_of l page) out final
page-numbered l p page z out final r e f h b w =
    rw (f, page-left l p page z h out)
    (read-numbered (e ∙ ap page_number (page-said l p page z h (length out)) ∙ page-alone (read_says p.table p.start (classes_of l page) z.work (length out))) (small-read p.table p.start (classes_of l page) z.work (length out))
    (read-outranks p.table p.start (classes_of l page) z.work (page-setting l p page z h b w) out))
