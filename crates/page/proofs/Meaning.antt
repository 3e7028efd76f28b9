-- What the page's call says and leaves: where it refuses, the buffer is as it was; where it gives a result, the relation's reading of the class bytes
-- stands there; where the rules and the lines are taken, what Read says of the class bytes is said, and no rival outranks it; and otherwise the first
-- line that is refused is named.
-- Assumes nothing.
use Prim.Native.Nat.{ℕ, suc, ◌+◌, ◌≤◌, ◌<◌}
use native.Mathlib.Omega.{arith}
use mathlib.Core.Path.{◌≡◌, refl, sym, ◌∙◌, ap}
use mathlib.Core.List.{List, [], ◌∷◌, ◌++◌}
use mathlib.Core.Logic.{◌↔◌}
use borrow.Author.Tests.{lt-ltb, le-ltb, ltb-false}
use lib.Dec.{ltb}
use lib.ListN.{length, length-map}
use Rattle.posix.specs.Language.{Bytes}
use Rattle.posix.specs.Decision.{parse}
use Rattle.table.specs.Records.{count}
use Rattle.table.specs.Answers.{Said, gives, refuses}
use Rattle.table.specs.Expression.{exp_of}
use Rattle.table.specs.Buffers.{after}
use Rattle.reading.specs.Codec.{encode}
use Rattle.reading.specs.Calls.{bytes_of}
use Rattle.reading.proofs.Admission.{Admitted, or-gives, start_gives}
use Rattle.matcher.specs.Calls.{work_size, read_says, read_leaves, PosixWritten}
use Rattle.matcher.specs.Demands.{Setting, ReadsBest, NoneOutranks}
use Rattle.matcher.proofs.Written.{after-refusal, read-writes}
use Rattle.matcher.proofs.Rivals.{read-outranks}
use Rattle.lines.specs.Lines.{lines_of}
use Rattle.page.specs.Entries.{Rules, entry_of}
use Rattle.page.specs.Outcomes.{Who, the_page, line_rules, page_rules, one_line, PageSaid, names, said_of, at_line}
use Rattle.page.specs.Pages.{Sizes, if_taken, line_says, lines_say, entries_of, classes_of, rules_say, count_says, page_says, page_leaves, AllTaken, PageTaken}
use Rattle.page.proofs.Runs.{classes-few}
use Rattle.page.proofs.Classes.{classes-bytes}

-- rules that are taken give the record count
pub rules-counted : (l : Rules) (m : ℕ) → rules_say l ≡ gives m → rules_say l ≡ gives (count l.table)
rules-counted l m e = (start_gives l.table l.start (gives (count l.table)) m e).said_on (gives (count l.table))

-- no refusal: what is said behind is said
if-taken : (who : Who) (x : Said) (m : ℕ) (said : PageSaid) → x ≡ gives m → if_taken who x said ≡ said
if-taken who x m said e = ap (λ (y : Said). if_taken who y said) e

-- a result: there was no refusal
taken-gives :
    (who : Who) (x : Said) (said : PageSaid) (w : Who) (n : ℕ) → if_taken who x said ≡ names w (gives n)
    → ((m : ℕ) × (x ≡ gives m)) × (said ≡ names w (gives n))
taken-gives who (gives m) said w n e = ((m, refl), e)
taken-gives who (refuses a d) said w n e = let z : ◌≡◌ {A = ℕ} 0 1 = cc in absurd (omega arith)

at_gives : (i : ℕ) (x : Said) (m : ℕ) → at_line i x ≡ gives m → x ≡ gives m
at_gives i (gives n) m e = e
at_gives i (refuses n d) m e = let z : ◌≡◌ {A = ℕ} 0 1 = cc in absurd (omega arith)

module _ (l : Rules) (z : Sizes) where
  -- the lines are taken exactly when what is said behind them is said
  pub all_said : (i : ℕ) (ss : List (List ℕ)) → AllTaken l z i ss → (said : PageSaid) → lines_say l z i ss said ≡ said
  all_said i [] h said = refl
  all_said i (s ∷ ss) h said =
      if-taken one_line (at_line i (line_says l z i s)) h.0.0 (lines_say l z (suc i) ss said) (ap (at_line i) h.0.1)
      ∙ all_said (suc i) ss h.1 said

  lines-gives :
      (i : ℕ) (ss : List (List ℕ)) (said : PageSaid) (w : Who) (n : ℕ) → lines_say l z i ss said ≡ names w (gives n)
      → AllTaken l z i ss × (said ≡ names w (gives n))
  lines-gives i [] said w n e = (tt, e)
  lines-gives i (s ∷ ss) said w n e =
      let h : ((m : ℕ) × (at_line i (line_says l z i s) ≡ gives m)) × (lines_say l z (suc i) ss said ≡ names w (gives n)) =
      taken-gives one_line (at_line i (line_says l z i s)) (lines_say l z (suc i) ss said) w n e in
      let g : AllTaken l z (suc i) ss × (said ≡ names w (gives n)) = lines-gives (suc i) ss said w n h.1 in
      (((h.0.0, at_gives i (line_says l z i s) h.0.0 h.0.1), g.0), g.1)

  pub said_all : (i : ℕ) (ss : List (List ℕ)) → ((said : PageSaid) → lines_say l z i ss said ≡ said) → AllTaken l z i ss
  said_all i ss h = (lines-gives i ss (names the_page (gives 0)) the_page 0 (h (names the_page (gives 0)))).0

  -- the first line that is refused
  first-refused :
      (i j : ℕ) (us : List (List ℕ)) (s : List ℕ) (ss : List (List ℕ)) (n d : ℕ) → AllTaken l z i us → i + length us ≡ j
      → line_says l z j s ≡ refuses n d
      → (said : PageSaid) → lines_say l z i (us ++ (s ∷ ss)) said ≡ names one_line (refuses n j)
  first-refused i j [] s ss n d h e f said =
      let g : i ≡ j = omega arith in
      ap (λ (k : ℕ). if_taken one_line (at_line k (line_says l z k s)) (lines_say l z (suc k) ss said)) g
      ∙ ap (λ (x : Said). if_taken one_line (at_line j x) (lines_say l z (suc j) ss said)) f
  first-refused i j (u ∷ us) s ss n d h e f said =
      if-taken one_line (at_line i (line_says l z i u)) h.0.0 (lines_say l z (suc i) (us ++ (s ∷ ss)) said) (ap (at_line i) h.0.1)
      ∙ first-refused (suc i) j us s ss n d h.1 (omega arith) f said

-- an answer of the page that is Read's: demand 3 of the one is that of the other
module _ {said : PageSaid} {x : Said} (e : said ≡ names the_page x) where
  told : (y : Said) → (x ≡ y) ↔ (said ≡ names the_page y)
  told y = ((λ f. e ∙ ap (names the_page) f), λ f. let g : names the_page x ≡ names the_page y = sym e ∙ f in cc)

  module _ {t : List ℕ} {k : ℕ} {s out final : List ℕ} where
    best-told : ReadsBest (λ y. x ≡ y) t k s out final → ReadsBest (λ y. said ≡ names the_page y) t k s out final
    best-told b =
        record {
          reading = b.reading;
          best = b.best;
          only = b.only;
          too_short = λ d. ((λ f. (b.too_short d).0 ((told (refuses 11 d)).1 f)), λ g. (told (refuses 11 d)).0 ((b.too_short d).1 g));
          records = b.records;
          whole_records = b.whole_records;
          written = λ h. ((told (gives b.records)).0 (b.written h).0, (b.written h).1);
        }

    outranks-told : NoneOutranks (λ y. x ≡ y) t k s out final → NoneOutranks (λ y. said ≡ names the_page y) t k s out final
    outranks-told r =
        record {
          none = ((λ f. r.none.0 ((told (refuses 8 0)).1 f)), λ g. (told (refuses 8 0)).0 (r.none.1 g));
          otherwise = λ m. best-told (r.otherwise (λ f. m ((told (refuses 8 0)).0 f)));
        }

module _ (l p : Rules) (page : List ℕ) (z : Sizes) where
  -- what is said of the class bytes, and what is said where both rules are taken
  abbrev read-classes : ℕ → PageSaid
  read-classes room = names the_page (read_says p.table p.start (classes_of l page) z.work room)

  behind-rules : ℕ → PageSaid
  behind-rules room =
      if_taken the_page (count_says (length (lines_of page))) (lines_say l z 0 (lines_of page) (read-classes room))

  rules-taken : (m n : ℕ) → rules_say l ≡ gives m → rules_say p ≡ gives n → (room : ℕ) → page_says l p page z room ≡ behind-rules room
  unfolding page_says behind-rules
  rules-taken m n e f room =
      if-taken line_rules (rules_say l) m (if_taken page_rules (rules_say p) (behind-rules room)) e
      ∙ if-taken page_rules (rules_say p) n (behind-rules room) f

  count-taken : length (lines_of page) ≤ 255 → (room : ℕ) → behind-rules room ≡ lines_say l z 0 (lines_of page) (read-classes room)
  unfolding behind-rules
  count-taken h room = rw (le-ltb 255 (length (lines_of page)) h)

  -- a refusal leaves the output buffer as it was
  pub page-refused :
      (out : List ℕ) (who : Who) (n d : ℕ) → page_says l p page z (length out) ≡ names who (refuses n d) → page_leaves l p page z out ≡ out
  unfolding page_leaves
  page-refused out who n d e = after-refusal (said_of (page_says l p page z (length out))) n d _ out (ap said_of e)

  -- where it is Read's answer on the class bytes, the buffer is Read's, too
  left_so :
      (out : List ℕ)
      → page_says l p page z (length out) ≡ read-classes (length out)
      → page_leaves l p page z out ≡ read_leaves p.table p.start (classes_of l page) z.work out
  unfolding page_leaves read_leaves
  left_so out e =
      ap
      (λ (y : PageSaid).
      after (said_of y) (bytes_of (parse (exp_of p.table p.start) (classes_of l page)) (λ v. encode p.table p.start v)) out) e

  -- a result: all was taken, and Read gave it on the class bytes
  pub page-gives :
      (room n : ℕ) → page_says l p page z room ≡ names the_page (gives n)
      → PageTaken l p page z × (read_says p.table p.start (classes_of l page) z.work room ≡ gives n)
  unfolding page_says
  page-gives room n e =
      let said : PageSaid = lines_say l z 0 (lines_of page) (read-classes room) in
      let counted : PageSaid = if_taken the_page (count_says (length (lines_of page))) said in
      let a : ((m : ℕ) × (rules_say l ≡ gives m)) × (if_taken page_rules (rules_say p) counted ≡ names the_page (gives n)) =
      taken-gives line_rules (rules_say l) (if_taken page_rules (rules_say p) counted) the_page n e in
      let b : ((m : ℕ) × (rules_say p ≡ gives m)) × (counted ≡ names the_page (gives n)) =
      taken-gives page_rules (rules_say p) counted the_page n a.1 in
      let c : ((m : ℕ) × (count_says (length (lines_of page)) ≡ gives m)) × (said ≡ names the_page (gives n)) =
      taken-gives the_page (count_says (length (lines_of page))) said the_page n b.1 in
      let d : AllTaken l z 0 (lines_of page) × (read-classes room ≡ names the_page (gives n)) =
      lines-gives l z 0 (lines_of page) (read-classes room) the_page n c.1 in (
        record {
          by_lines = rules-counted l a.0.0 a.0.1;
          by_page = rules-counted p b.0.0 b.0.1;
          few = ltb-false 255 (length (lines_of page)) (or-gives (ltb 255 (length (lines_of page))) 20 0 _ c.0.0 c.0.1).0;
          lines = d.0;
        },
        ap said_of d.1,
      )

  -- where all is taken, the page's answer is what Read says of the class bytes, and it leaves what Read leaves
  pub page-said :
      PageTaken l p page z
      → (room : ℕ)
      → page_says l p page z room ≡ names the_page (read_says p.table p.start (classes_of l page) z.work room)
  page-said h room =
      rules-taken (count l.table) (count p.table) h.by_lines h.by_page room
      ∙ count-taken h.few room
      ∙ all_said l z 0 (lines_of page) h.lines (read-classes room)

  pub page-left :
      PageTaken l p page z
      → (out : List ℕ)
      → page_leaves l p page z out ≡ read_leaves p.table p.start (classes_of l page) z.work out
  page-left h out = left_so out (page-said h (length out))

  -- a result is the record count of the relation's reading of the class bytes, which stands in front of the output buffer
  pub page-reads :
      (out : List ℕ) (n : ℕ) → page_says l p page z (length out) ≡ names the_page (gives n)
      → PosixWritten p.table p.start (classes_of l page) out (page_leaves l p page z out) n
  page-reads out n e =
      let h : PageTaken l p page z × (read_says p.table p.start (classes_of l page) z.work (length out) ≡ gives n) =
      page-gives (length out) n e in
      rw (page-left h.0 out) (read-writes p.table p.start (classes_of l page) z.work out n h.1)

  -- the class bytes are in demand 3's setting
  pub page-setting :
      PageTaken l p page z
      → Bytes l.table
      → work_size (count p.table) (length (classes_of l page)) ≤ z.work
      → Setting p.table p.start (classes_of l page) z.work
  page-setting h b w =
      let a : Admitted p.table p.start = start_gives p.table p.start (gives (count p.table)) (count p.table) h.by_page in
      record {
        passes = a.passes;
        inside = a.inside;
        line = classes-bytes l page b;
        short = omega (arith, classes-few (entries_of l page), length-map (lines_of page) (entry_of l), h.few);
        enough = w;
      }

  -- demand 3 of them
  pub page-outranks :
      PageTaken l p page z
      → Bytes l.table
      → work_size (count p.table) (length (classes_of l page)) ≤ z.work
      → (out : List ℕ)
      → NoneOutranks (λ x. page_says l p page z (length out) ≡ names the_page x) p.table p.start (classes_of l page) out
      (page_leaves l p page z out)
  page-outranks h b w out =
      rw (page-left h out)
      (outranks-told (page-said h (length out))
      (read-outranks p.table p.start (classes_of l page) z.work (page-setting h b w) out))

  -- the refusals in their order
  pub page-line-rules : (room n d : ℕ) → rules_say l ≡ refuses n d → page_says l p page z room ≡ names line_rules (refuses n d)
  unfolding page_says behind-rules
  page-line-rules room n d e = ap (λ (x : Said). if_taken line_rules x (if_taken page_rules (rules_say p) (behind-rules room))) e

  pub page-page-rules :
      (room m n d : ℕ) → rules_say l ≡ gives m → rules_say p ≡ refuses n d → page_says l p page z room ≡ names page_rules (refuses n d)
  unfolding page_says behind-rules
  page-page-rules room m n d e f =
      if-taken line_rules (rules_say l) m (if_taken page_rules (rules_say p) (behind-rules room)) e
      ∙ ap (λ (x : Said). if_taken page_rules x (behind-rules room)) f

  module _ (room m m' : ℕ) (e : rules_say l ≡ gives m) (f : rules_say p ≡ gives m') where
    pub page-many : 255 < length (lines_of page) → page_says l p page z room ≡ names the_page (refuses 20 0)
    unfolding behind-rules
    page-many h = rules-taken m m' e f room ∙ rw (lt-ltb 255 (length (lines_of page)) h)

    -- what is said of the lines, where both rules and their number are taken
    pub page-lines-said :
        length (lines_of page) ≤ 255
        → page_says l p page z room
        ≡ lines_say l z 0 (lines_of page) (names the_page (read_says p.table p.start (classes_of l page) z.work room))
    page-lines-said h = rules-taken m m' e f room ∙ count-taken h room

    pub page-first-refused :
        (us : List (List ℕ)) (s : List ℕ) (ss : List (List ℕ)) (n d : ℕ) → length (lines_of page) ≤ 255
        → lines_of page ≡ us ++ (s ∷ ss)
        → AllTaken l z 0 us
        → line_says l z (length us) s ≡ refuses n d
        → page_says l p page z room ≡ names one_line (refuses n (length us))
    page-first-refused us s ss n d h g a r =
        page-lines-said h
        ∙ ap (λ (lines : List (List ℕ)). lines_say l z 0 lines (read-classes room)) g
        ∙ first-refused l z 0 (length us) us s ss n d a (omega arith) r (read-classes room)

-- an empty page reads as the empty line
pub page-empty :
    (l p : Rules) (z : Sizes) (room : ℕ)
    → page_says l p [] z room
    ≡ if_taken line_rules (rules_say l)
    (if_taken page_rules (rules_say p) (names the_page (read_says p.table p.start [] z.work room)))
unfolding page_says
page-empty l p z room = refl
