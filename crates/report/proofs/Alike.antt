-- What the program prints for a line by a table that passes, by the line's length, the table's record count, whether the line is spelled and its tokens. So
-- two tables that agree in these print the same, whatever their readings' record counts: no line is refused by 11.
-- Assumes nothing.
use Prim.Native.Nat.{ℕ, ◌≤◌, ◌<◌}
use mathlib.Core.Path.{◌≡◌, refl, sym, ◌∙◌, ap, subst}
use mathlib.Core.Logic.{◌↔◌}
use mathlib.Core.Bool.{Bool, true, false, cond}
use mathlib.Core.List.{List}
use borrow.Author.Tests.{ltb-false}
use lib.Dec.{ltb}
use lib.ListN.{length}
use Rattle.posix.specs.Language.{L}
use Rattle.posix.specs.Decision.{Parsed, found, missing, parse}
use Rattle.posix.proofs.Flats.{posix-spelled}
use Rattle.posix.proofs.Parse.{parse-sound, parse-missing}
use Rattle.table.specs.Records.{count}
use Rattle.table.specs.Faults.{Passes}
use Rattle.table.specs.Answers.{Said, gives, refuses}
use Rattle.table.specs.Checked.{or_else}
use Rattle.table.specs.Expression.{exp_of}
use Rattle.table.specs.Buffers.{if_room}
use Rattle.reading.specs.Codec.{encode}
use Rattle.reading.specs.Calls.{if_passed}
use Rattle.reading.proofs.Admission.{start_inside}
use Rattle.reading.proofs.Saying.{NotBuffer}
use Rattle.tokens.specs.Tokens.{Token, token_bytes}
use Rattle.matcher.specs.Calls.{work_size, read_parsed, read_says}
use Rattle.lexer.specs.Lexing.{tokens_of, lex_says}
use Rattle.report.specs.Report.{work_length, reading_length, token_length, refused_line, ok_line, reported, line_report}
use Rattle.report.proofs.Room.{never-buffer}

-- what is printed for a line by a table that passes: the program refuses it by 7, 10 or 8, or prints its tokens
abbrev parsed_report : ℕ → List Token → Parsed → List ℕ
parsed_report n xs (found v) = ok_line n xs
parsed_report n xs missing = refused_line n 8

abbrev plain_report : ℕ → List Token → Bool → Bool → Parsed → List ℕ
plain_report n xs long much x = cond long (refused_line n 7) (cond much (refused_line n 10) (parsed_report n xs x))

module _ (t : List ℕ) (k n : ℕ) (s : List ℕ) where
  -- Read's answer, and behind it that of Tokens
  abbrev read_by : Bool → Bool → Parsed → Said
  read_by long much x = or_else long (refuses 7 0) (or_else much (refuses 10 0) (read_parsed t k x reading_length))

  abbrev lex_by : Said → Said
  lex_by y = if_passed y (if_room token_length (token_bytes (tokens_of t k s)) (length (tokens_of t k s)))

  -- neither buffer is too short
  with-room :
      (a b : Bool) (d d' m m' : ℕ)
      → NotBuffer (if_passed (or_else a (refuses 11 d) (gives m)) (or_else b (refuses 11 d') (gives m')))
      → reported t k n s (if_passed (or_else a (refuses 11 d) (gives m)) (or_else b (refuses 11 d') (gives m'))) ≡ ok_line n (tokens_of t k s)
  with-room true b d d' m m' h = absurd (h d refl)
  with-room false true d d' m m' h = absurd (h d' refl)
  with-room false false d d' m m' h = refl

  by-parsed :
      (long much : Bool) (x : Parsed) → NotBuffer (lex_by (read_by long much x))
      → reported t k n s (lex_by (read_by long much x)) ≡ plain_report n (tokens_of t k s) long much x
  by-parsed true much x h = refl
  by-parsed false true x h = refl
  by-parsed false false missing h = refl
  by-parsed false false (found v) h =
      with-room (ltb reading_length (length (encode t k v))) (ltb token_length (length (token_bytes (tokens_of t k s)))) _ _ _ _ h

  plain-report :
      Passes t → k < count t
      → line_report t k n s
      ≡ plain_report n (tokens_of t k s) (ltb 255 (length s)) (ltb work_length (work_size (count t) (length s))) (parse (exp_of t k) s)
  unfolding line_report lex_says read_says
  plain-report p l =
      let e = (start_inside t k p l).said_on (read_by (ltb 255 (length s)) (ltb work_length (work_size (count t) (length s))) (parse (exp_of t k) s)) in
      ap (λ (y : Said). reported t k n s (lex_by y)) e
      ∙ by-parsed (ltb 255 (length s)) (ltb work_length (work_size (count t) (length s))) (parse (exp_of t k) s)
      (subst (λ (y : Said). NotBuffer (lex_by y)) e (never-buffer t k s))

-- two tables that pass, with as many records, that spell the same lines with the same tokens
module _
    {t u : List ℕ} {k j : ℕ} (p : Passes t) (p' : Passes u) (l : k < count t) (l' : j < count u) (same_count : count u ≡ count t)
    (lines : (s : List ℕ) → L (exp_of t k) s ↔ L (exp_of u j) s) (tokens : (s : List ℕ) → length s ≤ 255 → tokens_of u j s ≡ tokens_of t k s)
  where
    pub spelled-report : (n : ℕ) (s : List ℕ) → line_report u j n s ≡ line_report t k n s
    spelled-report n s =
        plain-report u j n s p' l'
        ∙ ap
        (λ (m : ℕ). plain_report n (tokens_of u j s) (ltb 255 (length s)) (ltb work_length (work_size m (length s))) (parse (exp_of u j) s))
        same_count
        ∙ by_length (ltb 255 (length s)) refl
        ∙ sym (plain-report t k n s p l)
      where
        both : (xs : List Token) (x y : Parsed) → parse (exp_of t k) s ≡ x → parse (exp_of u j) s ≡ y → parsed_report n xs y ≡ parsed_report n xs x
        both xs (found v) (found w) e f = refl
        both xs (found v) missing e f =
            absurd (parse-missing (exp_of u j) s f ((lines s).0 (posix-spelled (parse-sound (exp_of t k) s v e))))
        both xs missing (found w) e f =
            absurd (parse-missing (exp_of t k) s e ((lines s).1 (posix-spelled (parse-sound (exp_of u j) s w f))))
        both xs missing missing e f = refl

        by_length :
            (b : Bool) → ltb 255 (length s) ≡ b
            → plain_report n (tokens_of u j s) b (ltb work_length (work_size (count t) (length s))) (parse (exp_of u j) s)
            ≡ plain_report n (tokens_of t k s) b (ltb work_length (work_size (count t) (length s))) (parse (exp_of t k) s)
        by_length true e = refl
        by_length false e =
            ap (cond (ltb work_length (work_size (count t) (length s))) (refused_line n 10))
            (ap (λ (xs : List Token). parsed_report n xs (parse (exp_of u j) s)) (tokens s (ltb-false 255 (length s) e))
            ∙ both (tokens_of t k s) (parse (exp_of t k) s) (parse (exp_of u j) s) refl refl)
