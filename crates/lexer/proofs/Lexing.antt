-- Read, then Tokens on what it wrote, by what each says: the tokens of the line's reading, or the refusal.
-- Assumes nothing.
use Prim.Native.Nat.{ℕ, ◌*◌, ◌≤◌}
use mathlib.Core.Path.{◌≡◌, refl, sym, ◌∙◌, ap}
use mathlib.Core.Bool.{false}
use mathlib.Core.List.{List}
use native.Mathlib.Omega.{arith}
use borrow.Author.Tests.{ltb-false}
use lib.Dec.{ltb}
use lib.ListN.{length, take, drop, replicate, length-append, length-replicate}
use lib.Seq.{take_at}
use Rattle.posix.specs.Values.{flat, Reads}
use Rattle.posix.specs.Decision.{Parsed, found, missing, parse}
use Rattle.posix.proofs.Flats.{posix-flat, posix-reads}
use Rattle.posix.proofs.Found.{parse-found}
use Rattle.table.specs.declared.Refusal.{Refusal}
use Rattle.std.specs.Prelude.{Result, Ok, Err}
use Rattle.table.specs.Answers.{Said, gives, refuses, refusal, says}
use Rattle.table.specs.Expression.{exp_of}
use Rattle.table.specs.Buffers.{if_room, after}
use Rattle.reading.specs.Codec.{record_size, encode}
use Rattle.reading.specs.Fitting.{reading_of}
use Rattle.reading.specs.Calls.{if_passed, if_fits, bytes_of}
use Rattle.reading.proofs.Fitting.{reading-complete}
use Rattle.reading.proofs.Lengths.{encode-length}
use Rattle.reading.proofs.Admission.{Admitted, or-gives, start_gives, refusal-numbers}
use Rattle.tokens.specs.Tokens.{Token, tokens_from, token_bytes, Inside}
use Rattle.tokens.specs.Listed.{tokens_says, tokens_leaves}
use Rattle.tokens.proofs.Counts.{tokens-count, bytes_count}
use Rattle.tokens.proofs.Places.{tokens-inside}
use Rattle.matcher.specs.Calls.{read_says, read_leaves, PosixWritten}
use Rattle.matcher.proofs.Written.{read-writes, few-records}
use Rattle.lexer.specs.Lexing.{reading_tokens, tokens_of, lex_says, lex_leaves}

-- a reading that Read gave as a result, at the front of the buffer
module _ {t : List ℕ} {k : ℕ} {s reading final : List ℕ} {n : ℕ} (x : PosixWritten t k s reading final n) where
  reads : Reads (exp_of t k) x.value
  reads = posix-reads x.posix

  written-length : length (encode t k x.value) ≡ record_size * n
  written-length = encode-length t k reads ∙ ap (λ (m : ℕ). record_size * m) (sym x.counted)

  pub reading-room : record_size * n ≤ length final
  reading-room =
      omega (arith, written-length, ap length x.written ∙ length-append (encode t k x.value) (drop (length (encode t k x.value)) reading))

  front-reading : take (record_size * n) final ≡ encode t k x.value
  front-reading =
      ap (take (record_size * n)) x.written
      ∙ take_at (encode t k x.value) (drop (length (encode t k x.value)) reading) (record_size * n) written-length

  line-tokens : tokens_of t k s ≡ tokens_from t k x.value 0
  line-tokens = ap (reading_tokens t k) ((parse-found (exp_of t k) s x.value).1 x.posix)

  -- the line has at most 255 bytes
  module _ (work room : ℕ) (said : read_says t k s work room ≡ gives n) where
    short-value : Admitted t k × (length (flat x.value) ≤ 255)
    unfolding read_says
    short-value =
        let a : Admitted t k = start_gives t k _ n said in
        let short : ltb 255 (length s) ≡ false = (or-gives (ltb 255 (length s)) 7 0 _ n (sym (a.said_on _) ∙ said)).0 in
        (a, omega (arith, ap length (posix-flat x.posix), ltb-false 255 (length s) short))

    pub record-count : n ≤ 65025
    record-count =
        omega
        (arith, x.counted, few-records t k x.value short-value.0.passes short-value.0.inside reads short-value.1)

    pub few-tokens : length (tokens_of t k s) ≤ 255
    few-tokens = omega (arith, ap length line-tokens, tokens-count t k x.value 0, short-value.1)

    -- what stands in front is read back
    found-again : reading_of t k (take (record_size * n) final) ≡ found x.value
    found-again = ap (reading_of t k) front-reading ∙ reading-complete t k reads short-value.1

    -- so Tokens on it says and leaves what is said and left of the line
    tokens-said : (space : ℕ) → tokens_says t k (take (record_size * n) final) space ≡ lex_says t k s work room space
    unfolding tokens_says lex_says
    tokens-said space =
        short-value.0.said_on _
        ∙ ap
        (λ (p : Parsed). if_fits p (λ v. if_room space (token_bytes (tokens_from t k v 0)) (length (tokens_from t k v 0)))) found-again
        ∙ sym
        (ap (λ (a : Said). if_passed a (if_room space (token_bytes (tokens_of t k s)) (length (tokens_of t k s)))) said
        ∙ ap (λ (xs : List Token). if_room space (token_bytes xs) (length xs)) line-tokens)

    tokens-left : (list : List ℕ) → tokens_leaves t k (take (record_size * n) final) list ≡ lex_leaves t k s work room list
    unfolding tokens_leaves lex_leaves
    tokens-left list =
        ap
        (λ (p : Parsed).
        after (tokens_says t k (take (record_size * n) final) (length list)) (bytes_of p (λ v. token_bytes (tokens_from t k v 0))) list) found-again
        ∙ ap (λ (a : Said). after a (token_bytes (tokens_from t k x.value 0)) list) (tokens-said (length list))
        ∙ ap (λ (xs : List Token). after (lex_says t k s work room (length list)) (token_bytes xs) list) (sym line-tokens)

    -- of bytes that are what stands in front
    pub front-said :
        {x : Said} (bs : List ℕ) (space : ℕ) → x ≡ tokens_says t k bs space → bs ≡ take (record_size * n) final → x ≡ lex_says t k s work room space
    front-said bs space e f = e ∙ ap (λ (y : List ℕ). tokens_says t k y space) f ∙ tokens-said space

    pub front-left :
        {x : List ℕ} (bs list : List ℕ) → x ≡ tokens_leaves t k bs list → bs ≡ take (record_size * n) final → x ≡ lex_leaves t k s work room list
    front-left bs list e f = e ∙ ap (λ (y : List ℕ). tokens_leaves t k y list) f ∙ tokens-left list

-- every token of a line lies inside it
pub line-inside : (t : List ℕ) (k : ℕ) (s : List ℕ) → Inside (length s) (tokens_of t k s)
line-inside t k s = go (parse (exp_of t k) s) refl
  where
    go : (p : Parsed) → parse (exp_of t k) s ≡ p → Inside (length s) (reading_tokens t k p)
    go missing e = tt
    go (found v) e =
        rw (ap length (sym (posix-flat ((parse-found (exp_of t k) s v).0 e)))) (tokens-inside t k v)

-- what is said and left is what Tokens says and leaves of the reading that Read wrote
pub lex-by-tokens :
    (t : List ℕ) (k : ℕ) (s : List ℕ) (work : ℕ) (reading list : List ℕ) (n : ℕ) → read_says t k s work (length reading) ≡ gives n
    → (lex_says t k s work (length reading) (length list) ≡ tokens_says t k (take (record_size * n) (read_leaves t k s work reading)) (length list))
    × (lex_leaves t k s work (length reading) list ≡ tokens_leaves t k (take (record_size * n) (read_leaves t k s work reading)) list)
lex-by-tokens t k s work reading list n e =
    let x : PosixWritten t k s reading (read_leaves t k s work reading) n = read-writes t k s work reading n e in
    (sym (tokens-said x work (length reading) e (length list)), sym (tokens-left x work (length reading) e list))

-- where Read refuses the line, so does this
pub lex-refused :
    (t : List ℕ) (k : ℕ) (s : List ℕ) (work room space n d : ℕ) → read_says t k s work room ≡ refuses n d → lex_says t k s work room space ≡ refuses n d
unfolding lex_says
lex-refused t k s work room space n d e = rw e

pub line_refused :
    (t : List ℕ) (k : ℕ) (s : List ℕ) (work room : ℕ) (list : List ℕ) {r : Result ℕ Refusal} {why : Refusal} → says r ≡ read_says t k s work room
    → r ≡ Err why
    → (refusal why ≡ lex_says t k s work room (length list)) × (list ≡ lex_leaves t k s work room list)
unfolding lex_says lex_leaves
line_refused t k s work room list {r} {why} e f =
    let x : (n : ℕ) × (d : ℕ) × (refusal why ≡ refuses n d) = refusal-numbers why in
    let g : read_says t k s work room ≡ refuses x.0 x.1 = sym e ∙ ap says f ∙ x.2 in
    rw g (x.2, refl)

-- where it gives a result, that is the token count, and the tokens stand in front of the buffer
pub record Lexed (t : List ℕ) (k : ℕ) (s list final : List ℕ) (n : ℕ) : Type 0 where
  pub counted : n ≡ length (tokens_of t k s)
  pub few : n ≤ 255
  pub room : 3 * n ≤ length list
  pub front : take (3 * n) final ≡ token_bytes (tokens_of t k s)

-- the reading that Read gave before
passed-gives : (a said : Said) (n : ℕ) → if_passed a said ≡ gives n → (m : ℕ) × (a ≡ gives m)
passed-gives (gives m) said n e = (m, refl)
passed-gives (refuses m d) said n e = let z : ◌≡◌ {A = ℕ} 0 1 = cc in absurd (omega arith)

lexed-left :
    (t : List ℕ) (k : ℕ) (s : List ℕ) (work room : ℕ) (list : List ℕ) (n : ℕ) → lex_says t k s work room (length list) ≡ gives n
    → Lexed t k s list (lex_leaves t k s work room list) n
unfolding lex_says lex_leaves
lexed-left t k s work room list n e =
    let m : (m : ℕ) × (read_says t k s work room ≡ gives m) = passed-gives (read_says t k s work room) _ n e in
    let some : List ℕ = replicate room 0 in
    let said : read_says t k s work (length some) ≡ gives m.0 = ap (read_says t k s work) (length-replicate room 0) ∙ m.1 in
    let w : PosixWritten t k s some (read_leaves t k s work some) m.0 = read-writes t k s work some m.0 said in
    let xs : List Token = tokens_of t k s in
    let f : if_room (length list) (token_bytes xs) (length xs) ≡ gives n =
    sym (ap (λ (a : Said). if_passed a (if_room (length list) (token_bytes xs) (length xs))) m.1) ∙ e in
    let g : (ltb (length list) (length (token_bytes xs)) ≡ false) × (gives (length xs) ≡ gives n) =
    or-gives (ltb (length list) (length (token_bytes xs))) 11 (length (token_bytes xs)) _ n f in
    let counted : n ≡ length xs = cc in
    record {
      counted = counted;
      few = omega (arith, counted, few-tokens w work room m.1);
      room = omega (arith, counted, bytes_count xs, ltb-false (length list) (length (token_bytes xs)) g.0);
      front = rw e (take_at (token_bytes xs) (drop (length (token_bytes xs)) list) (3 * n) (omega (arith, counted, bytes_count xs)));
    }

pub lexed :
    (t : List ℕ) (k : ℕ) (s : List ℕ) (work room : ℕ) (list : List ℕ) {final : List ℕ} {r : Result ℕ Refusal} {n : ℕ}
    → says r ≡ lex_says t k s work room (length list)
    → r ≡ Ok n
    → final ≡ lex_leaves t k s work room list
    → Lexed t k s list final n
lexed t k s work room list {n = n} e f g = rw g (lexed-left t k s work room list n (sym e ∙ ap says f))
