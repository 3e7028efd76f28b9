-- Two tables and start numbers of which Read says the same and by which lines have the same tokens: what is said of a line by its tokens is the same, and
-- Tokens says and leaves the same of what Read wrote.
-- Assumes nothing.
use Prim.Native.Nat.{ℕ, ◌*◌, ◌≤◌, ◌<◌}
use native.Mathlib.Omega.{arith}
use mathlib.Core.Path.{◌≡◌, refl, sym, ◌∙◌, ap}
use mathlib.Core.Bool.{false}
use mathlib.Core.List.{List}
use borrow.Author.Tests.{ltb-false}
use lib.Dec.{ltb}
use lib.ListN.{length, take}
use Rattle.table.specs.Records.{count}
use Rattle.table.specs.Faults.{Passes}
use Rattle.table.specs.Answers.{Said, gives, refuses}
use Rattle.table.specs.Buffers.{if_room, after}
use Rattle.reading.specs.Codec.{record_size}
use Rattle.reading.specs.Calls.{if_passed}
use Rattle.reading.proofs.Admission.{Admitted, or-gives, start_gives}
use Rattle.tokens.specs.Tokens.{Token, token_bytes}
use Rattle.tokens.specs.Listed.{tokens_says, tokens_leaves}
use Rattle.matcher.specs.Calls.{read_says, read_leaves}
use Rattle.lexer.specs.Lexing.{tokens_of, lex_says, lex_leaves}
use Rattle.lexer.proofs.Lexing.{lex-by-tokens}

-- by table t from record k and by table u from record j
pub record SameReading (t : List ℕ) (k : ℕ) (u : List ℕ) (j : ℕ) : Type 0 where
  pub reads : (s : List ℕ) (work room : ℕ) → read_says u j s work room ≡ read_says t k s work room
  pub tokens : (s : List ℕ) → length s ≤ 255 → Passes t → k < count t → tokens_of u j s ≡ tokens_of t k s

-- it goes from table to table
pub same_then : {t u w : List ℕ} {k j i : ℕ} → SameReading t k u j → SameReading u j w i → Passes u → j < count u → SameReading t k w i
same_then x y p l =
    record {
      reads = λ s work room. y.reads s work room ∙ x.reads s work room;
      tokens = λ s h q m. y.tokens s h p l ∙ x.tokens s h q m;
    }

-- what is said of tokens behind Read's answer
abbrev listed : Said → ℕ → List Token → Said
listed y space xs = if_passed y (if_room space (token_bytes xs) (length xs))

module _ {t : List ℕ} {k : ℕ} {u : List ℕ} {j : ℕ} (same : SameReading t k u j) where
  -- a line that Read answers has at most 255 bytes, and so the same tokens
  read-tokens : (s : List ℕ) (work room n : ℕ) → read_says t k s work room ≡ gives n → tokens_of u j s ≡ tokens_of t k s
  unfolding read_says
  read-tokens s work room n f =
      let m : Admitted t k = start_gives t k _ n f in
      let g : (ltb 255 (length s) ≡ false) × _ = or-gives (ltb 255 (length s)) 7 0 _ n (sym (m.said_on _) ∙ f) in
      same.tokens s (ltb-false 255 (length s) g.0) m.passes m.inside

  -- what is said of a line by its tokens; where that is a result, these are the same
  pub same_line : (s : List ℕ) (work room space : ℕ) → lex_says u j s work room space ≡ lex_says t k s work room space
  unfolding lex_says
  same_line s work room space = ap (λ (y : Said). listed y space (tokens_of u j s)) (same.reads s work room) ∙ go (read_says t k s work room) refl
    where
      go : (y : Said) → read_says t k s work room ≡ y → listed y space (tokens_of u j s) ≡ listed y space (tokens_of t k s)
      go (gives n) f = ap (listed (gives n) space) (read-tokens s work room n f)
      go (refuses n d) f = refl

  pub line-tokens : (s : List ℕ) (work room space n : ℕ) → lex_says t k s work room space ≡ gives n → tokens_of u j s ≡ tokens_of t k s
  unfolding lex_says
  line-tokens s work room space n f = go (read_says t k s work room) refl f
    where
      go : (y : Said) → read_says t k s work room ≡ y → listed y space (tokens_of t k s) ≡ gives n → tokens_of u j s ≡ tokens_of t k s
      go (gives m) g h = read-tokens s work room m g
      go (refuses m d) g h = let z : ◌≡◌ {A = ℕ} 0 1 = cc in absurd (omega arith)

  left-line : (s : List ℕ) (work room : ℕ) (list : List ℕ) → lex_leaves u j s work room list ≡ lex_leaves t k s work room list
  unfolding lex_leaves
  left-line s work room list =
      ap (λ (y : Said). after y (token_bytes (tokens_of u j s)) list) (same_line s work room (length list)) ∙ go (lex_says t k s work room (length list)) refl
    where
      go :
          (y : Said) → lex_says t k s work room (length list) ≡ y
          → after y (token_bytes (tokens_of u j s)) list ≡ after y (token_bytes (tokens_of t k s)) list
      go (gives n) f = ap (λ (xs : List Token). after (gives n) (token_bytes xs) list) (line-tokens s work room (length list) n f)
      go (refuses n d) f = refl

  -- Tokens on what Read wrote
  pub same_lists :
      (s : List ℕ) (work : ℕ) (reading list : List ℕ) (n : ℕ) → read_says t k s work (length reading) ≡ gives n
      → (tokens_says u j (take (record_size * n) (read_leaves u j s work reading)) (length list)
      ≡ tokens_says t k (take (record_size * n) (read_leaves t k s work reading)) (length list))
      × (tokens_leaves u j (take (record_size * n) (read_leaves u j s work reading)) list
      ≡ tokens_leaves t k (take (record_size * n) (read_leaves t k s work reading)) list)
  same_lists s work reading list n f =
      let g : read_says u j s work (length reading) ≡ gives n = same.reads s work (length reading) ∙ f in
      let first = lex-by-tokens t k s work reading list n f in
      let then = lex-by-tokens u j s work reading list n g in
      (sym then.0 ∙ same_line s work (length reading) (length list) ∙ first.0, sym then.1 ∙ left-line s work (length reading) list ∙ first.1)
