-- What is printed for a table and for a line, by what is said of them.
-- Assumes nothing.
use Prim.Native.Nat.{ℕ, ◌≤◌}
use mathlib.Core.Path.{◌≡◌, refl, sym, ◌∙◌, ap}
use mathlib.Core.List.{List, [], ◌∷◌, ◌++◌}
use native.Mathlib.Omega.{arith}
use lib.ListN.{length, drop}
use Rattle.table.specs.declared.Refusal.{Refusal}
use Rattle.std.specs.Prelude.{Result, Ok, Err}
use Rattle.table.specs.Answers.{Said, refuses, refusal, says}
use Rattle.table.specs.Checked.{checked}
use Rattle.reading.proofs.Admission.{refusal-numbers}
use Rattle.lexer.specs.Lexing.{tokens_of, lex_says}
use Rattle.printing.specs.Decimal.{decimal}
use Rattle.printing.specs.Writes.{Wrote}
use Rattle.printing.proofs.Writes.{wrote_as, wrote_then, wrote-front}
use Rattle.report.specs.Text.{ok_word, refused_word, table_word}
use Rattle.report.specs.Report.{work_length, reading_length, token_length, token_lines, refused_line, reported, line_report, table_said, table_report}
use Rattle.report.specs.Writes.{line_with}
use Rattle.report.proofs.TokenLines.{ok-line}

-- a refusal's number
abbrev pub NumberOf : Refusal → ℕ → Type 0
NumberOf why n = (i d : ℕ) → refusal why ≡ refuses i d → n ≡ i

refused-number :
    {r : Result ℕ Refusal} {why : Refusal} {said : Said} {n : ℕ} → says r ≡ said → r ≡ Err why → NumberOf why n → (d : ℕ) × (said ≡ refuses n d)
refused-number {r} {why} {said} {n} e f h =
    let x : (i : ℕ) × (d : ℕ) × (refusal why ≡ refuses i d) = refusal-numbers why in
    (x.1, sym e ∙ ap says f ∙ x.2 ∙ ap (λ (i : ℕ). refuses i x.1) (sym (h x.0 x.1 x.2)))

-- the contract of a call that writes a text to the front
abbrev pub Printed : List ℕ → List ℕ → ℕ → ℕ → List ℕ → Type 0
Printed a b most n text = (n ≤ most) × ((n ≡ length text) × (b ≡ text ++ drop (length text) a))

pub printed : {a b : List ℕ} {n : ℕ} {xs text : List ℕ} (most : ℕ) → Wrote a b 0 n xs → n ≤ most → most ≤ length a → xs ≡ text → Printed a b most n text
printed most w l h e = (l, wrote-front (wrote_as w e) (omega arith))

-- a table
pub table-passes : (t a : List ℕ) {r : Result ℕ Refusal} {m : ℕ} → says r ≡ checked t → r ≡ Ok m → Printed a a 64 0 (table_report t)
unfolding table_report
table-passes t a e f = let g : checked t ≡ says (Ok _) = sym e ∙ ap says f in rw g (omega arith, (refl, refl))

pub table-refused :
    (t a b : List ℕ) {r : Result ℕ Refusal} {why : Refusal} {n m : ℕ} → says r ≡ checked t → r ≡ Err why → NumberOf why n
    → Wrote a b 0 m (table_word ++ (refused_word ++ (decimal n ++ (10 ∷ [])))) → m ≤ 64 → 64 ≤ length a → Printed a b 64 m (table_report t)
unfolding table_report
table-refused t a b {r} {why} {n} {m} e f h w l room = printed 64 w l room (sym (ap table_said (refused-number e f h).1))

-- a line, with the program's buffers
module _ (t : List ℕ) (k : ℕ) (s : List ℕ) {work room space : ℕ} (number : ℕ) (p : work ≡ work_length) (q : room ≡ reading_length) (l : space ≡ token_length) where
  line-printed : reported t k number s (lex_says t k s work room space) ≡ line_report t k number s
  unfolding line_report
  line-printed =
      ap (reported t k number s)
      (ap (lex_says t k s work room) l ∙ ap (λ (i : ℕ). lex_says t k s work i token_length) q
      ∙ ap (λ (i : ℕ). lex_says t k s i reading_length token_length) p)

  pub line_refused :
      {r : Result ℕ Refusal} {why : Refusal} {n m : ℕ} {a b : List ℕ} → says r ≡ lex_says t k s work room space → r ≡ Err why → NumberOf why n
      → Wrote a b 0 m (refused_line number n)
      → m ≤ 64
      → 32768 ≤ length a
      → Printed a b 32768 m (line_report t k number s)
  line_refused e f h w few free = printed 32768 w (omega arith) free (sym (ap (reported t k number s) (refused-number e f h).1) ∙ line-printed)

  -- the line's own line and the tokens'
  pub line_read :
      {r : Result ℕ Refusal} {n at m : ℕ} {a b c : List ℕ} → says r ≡ lex_says t k s work room space → r ≡ Ok n → n ≡ length (tokens_of t k s)
      → Wrote a b 0 at (line_with number ok_word n)
      → Wrote b c at m (token_lines (tokens_of t k s))
      → m ≤ 32768
      → 32768 ≤ length a
      → Printed a c 32768 m (line_report t k number s)
  line_read e f counted w v few free =
      printed 32768 (wrote_then w v) few free
      (ap (λ (i : ℕ). line_with number ok_word i ++ token_lines (tokens_of t k s)) counted ∙ ok-line number (tokens_of t k s)
      ∙ ap (reported t k number s) (sym (ap says f) ∙ e) ∙ line-printed)
