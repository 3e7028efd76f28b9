-- What is said of a page is the same by rules with alternatives exchanged that share no line (document 02, request 9), of the lines and of the page;
-- and exchanges in the line rules alone leave the same bytes.
-- Assumes nothing.
use Prim.Native.Nat.{ℕ, suc}
use mathlib.Core.Path.{◌≡◌, refl, ◌∙◌, ap, ap₂}
use mathlib.Core.List.{List, [], ◌∷◌, map}
use lib.ListN.{length}
use Rattle.posix.specs.Decision.{parse}
use Rattle.table.specs.Answers.{Said, gives, refuses}
use Rattle.table.specs.Buffers.{after}
use Rattle.table.specs.Expression.{exp_of}
use Rattle.tokens.specs.Tokens.{Token}
use Rattle.reading.specs.Codec.{encode}
use Rattle.reading.specs.Calls.{bytes_of}
use Rattle.matcher.specs.Calls.{read_says}
use Rattle.lines.specs.Lines.{lines_of}
use Rattle.reorder.specs.Exchanges.{reordered, Apart, Each, each_none}
use Rattle.reorder.proofs.Reordering.{each_or, reordered-start, reordered-read, reordered-reading}
use Rattle.reorder.proofs.Lines.{same_line, line-tokens}
use Rattle.page.specs.Entries.{Rules, Entry, entry_of}
use Rattle.page.specs.Runs.{class_bytes}
use Rattle.page.specs.Outcomes.{the_page, line_rules, page_rules, one_line, PageSaid, names, said_of, at_line}
use Rattle.page.specs.Pages.{Sizes, by_parity, if_taken, line_says, lines_say, classes_of, rules_say, count_says, page_says, page_leaves, AllTaken}
use Rattle.page.specs.Sorted.{sorted}
use Rattle.page.proofs.Meaning.{page-gives}

module _ (l : Rules) (ks : List ℕ) (apart : Each (Apart l.table) ks) (z : Sizes) where
  -- one line
  line_same : (i : ℕ) (s : List ℕ) → line_says (sorted l ks) z i s ≡ line_says l z i s
  line_same i s = same_line (reordered-reading l.table ks apart l.start) s z.work z.reading (by_parity i z.first z.second)

  -- the lines; what is said behind them counts where all are taken
  same_lines :
      (i : ℕ) (ss : List (List ℕ)) (said said' : PageSaid) → (AllTaken l z i ss → said ≡ said')
      → lines_say (sorted l ks) z i ss said ≡ lines_say l z i ss said'
  same_lines i [] said said' f = f (record {})
  same_lines i (s ∷ ss) said said' f =
      ap (λ (y : Said). if_taken one_line (at_line i y) (lines_say (sorted l ks) z (suc i) ss said)) (line_same i s)
      ∙ go (line_says l z i s) refl (λ g. same_lines (suc i) ss said said' g)
    where
      go :
          (y : Said) → line_says l z i s ≡ y
          → ((AllTaken l z (suc i) ss → said ≡ said') → lines_say (sorted l ks) z (suc i) ss said ≡ lines_say l z (suc i) ss said')
          → if_taken one_line (at_line i y) (lines_say (sorted l ks) z (suc i) ss said) ≡ if_taken one_line (at_line i y) (lines_say l z (suc i) ss said')
      go (gives m) e more = more (λ a. f ((m, e), a))
      go (refuses n d) e more = refl

  -- the class bytes of lines that are all taken
  same_entries : (i : ℕ) (ss : List (List ℕ)) → AllTaken l z i ss → map (entry_of (sorted l ks)) ss ≡ map (entry_of l) ss
  same_entries i [] a = refl
  same_entries i (s ∷ ss) a =
      ap₂ (λ (xs : List Token) (es : List Entry). (record { text = s; tokens = xs }) ∷ es)
      (line-tokens (reordered-reading l.table ks apart l.start) s z.work z.reading (by_parity i z.first z.second) a.0.0 a.0.1)
      (same_entries (suc i) ss a.1)

  same-classes : (page : List ℕ) → AllTaken l z 0 (lines_of page) → classes_of (sorted l ks) page ≡ classes_of l page
  same-classes page a = ap class_bytes (same_entries 0 (lines_of page) a)

  same-rules : rules_say (sorted l ks) ≡ rules_say l
  same-rules = reordered-start l.table ks (each_or apart) l.start

pub same-page :
    (l p : Rules) (ks ms : List ℕ) → Each (Apart l.table) ks → Each (Apart p.table) ms → (page : List ℕ) (z : Sizes) (room : ℕ)
    → page_says (sorted l ks) (sorted p ms) page z room ≡ page_says l p page z room
unfolding page_says
same-page l p ks ms apart apart' page z room =
    ap₂ (if_taken line_rules) (same-rules l ks apart z)
    (ap₂ (if_taken page_rules) (same-rules p ms apart' z)
    (ap (if_taken the_page (count_says (length (lines_of page))))
    (same_lines l ks apart z 0 (lines_of page) _ _
    (λ a.
    ap (names the_page)
    (ap (λ (cs : List ℕ). read_says (reordered p.table ms) p.start cs z.work room) (same-classes l ks apart z page a)
    ∙ reordered-read p.table ms apart' p.start (classes_of l page) z.work room)))))

-- and with the page rules as they were the page's reading is the same bytes
pub same-page-left :
    (l p : Rules) (ks : List ℕ) → Each (Apart l.table) ks → (page : List ℕ) (z : Sizes) (out : List ℕ) (n : ℕ)
    → page_says l p page z (length out) ≡ names the_page (gives n)
    → page_leaves (sorted l ks) p page z out ≡ page_leaves l p page z out
unfolding page_leaves
same-page-left l p ks apart page z out n e =
    ap₂
    (λ (x : PageSaid) (cs : List ℕ). after (said_of x) (bytes_of (parse (exp_of p.table p.start) cs) (λ v. encode p.table p.start v)) out)
    (same-page l p ks [] apart each_none page z (length out))
    (same-classes l ks apart z page (page-gives l p page z (length out) n e).0.lines)
