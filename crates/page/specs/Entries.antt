-- A line with its tokens; when two of them are alike (document 02, request 10): "the same names in order and, for each token, the same bytes of text.
-- Offsets don't count."; and its class (request 8): "The class of a line is its first token's name, or 0 if it has none."
-- Assumes nothing.
use Rattle.std.specs.Prelude.{ℕ, ◌+◌, ◌*◌, ◌≤◌, ◌<◌, Bool, true, false, ◌&&◌, List, [], ◌∷◌, map, eqb, length}
use Rattle.tokens.specs.Tokens.{Token, Named, text_at, nth_token}
use Rattle.lexer.specs.Lexing.{tokens_of}

-- the rules that lines are read by: a table and a start number
pub record Rules : Type 0 where
  pub table : List ℕ
  pub start : ℕ

-- a line and its tokens
pub record Entry : Type 0 where
  pub text : List ℕ
  pub tokens : List Token

abbrev pub entry_of : Rules → List ℕ → Entry
entry_of l s = record { text = s; tokens = tokens_of l.table l.start s }

-- the tokens of a list's bytes lie inside a line
abbrev pub Within : List ℕ → List ℕ → Type 0
Within s ts = (i : ℕ) → 3 * i + 2 < length ts → (nth_token ts i).offset + (nth_token ts i).size ≤ length s

-- lists of one length whose elements pass a test, each with the one at its place
abbrev pub pointwise : {A : Type 0} → (A → A → Bool) → List A → List A → Bool
pointwise p [] [] = true
pointwise p [] (y ∷ ys) = false
pointwise p (x ∷ xs) [] = false
pointwise p (x ∷ xs) (y ∷ ys) = p x y && pointwise p xs ys

-- the same bytes
abbrev pub same_text : List ℕ → List ℕ → Bool
same_text = pointwise eqb

-- the same name and the same bytes of text
abbrev pub same_named : Named → Named → Bool
same_named x y = eqb x.tag y.tag && same_text x.text y.text

-- what alike lines have in common: the names of their tokens in order, each with its bytes of text
abbrev pub likeness : Entry → List Named
likeness e = map (text_at e.text) e.tokens

-- two lines are alike
unfoldable pub alike : Entry → Entry → Bool
alike a b = pointwise same_named (likeness a) (likeness b)

-- the class of a line
abbrev pub first_name : List Token → ℕ
first_name [] = 0
first_name (x ∷ xs) = x.tag

abbrev pub class_of : Entry → ℕ
class_of e = first_name e.tokens
