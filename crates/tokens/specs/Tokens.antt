-- The tokens of a reading (document 01, "Tokens"): "Tokens walks a fitting reading from the start record, parent first. At a tagged record it
-- writes 3 bytes (tag, offset of the part in the line, length) and doesn't go inside." And request 2: "Tokens leaves out a tagged part that
-- spells no byte."
-- Assumes nothing.
use Rattle.std.specs.Prelude.{ℕ, zero, suc, ◌+◌, ◌*◌, ◌≤◌, Bool, true, false, List, [], ◌∷◌, ◌++◌, length, get_or, take, drop}
use Rattle.posix.specs.Values.{Val, void, byte, left, right, pair, none, more, flat}
use Rattle.table.specs.Records.{a_at, b_at, tag_at}

-- a tagged part by its place, as a token gives it: the tag, and the part's offset in the line and its length
pub record Token : Type 0 where
  pub tag : ℕ
  pub offset : ℕ
  pub size : ℕ

-- the tagged parts of a part by its record's tag: those below it if there is none (0), otherwise the part alone
abbrev pub outermost : ℕ → ℕ → ℕ → List Token → List Token
outermost zero at n below = below
outermost (suc tag) at n below = record { tag = suc tag; offset = at; size = n } ∷ []

-- the outermost tagged parts below record k, of a reading whose part starts at an offset of the line, each with its place there. What follows
-- an iteration is a reading of the same Star.
abbrev pub placed_below : List ℕ → ℕ → Val → ℕ → List Token
placed_below t k void at = []
placed_below t k (byte c) at = []
placed_below t k (left v) at = outermost (tag_at t (a_at t k)) at (length (flat v)) (placed_below t (a_at t k) v at)
placed_below t k (right v) at = outermost (tag_at t (b_at t k)) at (length (flat v)) (placed_below t (b_at t k) v at)
placed_below t k (pair v w) at =
    outermost (tag_at t (a_at t k)) at (length (flat v)) (placed_below t (a_at t k) v at)
    ++ outermost (tag_at t (b_at t k)) (at + length (flat v)) (length (flat w)) (placed_below t (b_at t k) w (at + length (flat v)))
placed_below t k none at = []
placed_below t k (more v w) at =
    outermost (tag_at t (a_at t k)) at (length (flat v)) (placed_below t (a_at t k) v at) ++ placed_below t k w (at + length (flat v))

-- the outermost tagged parts of record k's reading v whose part starts at an offset of the line, each with its place there
abbrev pub placed_parts : List ℕ → ℕ → Val → ℕ → List Token
placed_parts t k v at = outermost (tag_at t k) at (length (flat v)) (placed_below t k v at)

abbrev pub cons_if : {A : Type 0} → Bool → A → List A → List A
cons_if true x xs = x ∷ xs
cons_if false x xs = xs

-- those of a list that pass a test, in order
abbrev pub filter : {A : Type 0} → (A → Bool) → List A → List A
filter p [] = []
filter p (x ∷ xs) = cons_if (p x) x (filter p xs)

-- at least one
abbrev pub positive : ℕ → Bool
positive zero = false
positive (suc n) = true

-- a part of at least one byte
abbrev pub has_size : Token → Bool
has_size x = positive x.size

-- the tokens of record k's reading v: its outermost tagged parts of at least one byte
abbrev pub tokens_from : List ℕ → ℕ → Val → ℕ → List Token
tokens_from t k v at = filter has_size (placed_parts t k v at)

-- a token's 3 bytes
abbrev pub token_bytes : List Token → List ℕ
token_bytes [] = []
token_bytes (x ∷ xs) = x.tag ∷ (x.offset ∷ (x.size ∷ token_bytes xs))

-- token i of a list, from its bytes
abbrev pub nth_token : List ℕ → ℕ → Token
nth_token bs i = record { tag = get_or bs (3 * i) 0; offset = get_or bs (3 * i + 1) 0; size = get_or bs (3 * i + 2) 0 }

-- every token of a list has P
abbrev pub Every : (Token → Type 0) → List Token → Type 0
Every P [] = Unit {0}
Every P (x ∷ xs) = P x × Every P xs

-- every token of a list lies inside a line of n bytes
abbrev pub Inside : ℕ → List Token → Type 0
Inside n = Every (λ x. x.offset + x.size ≤ n)

-- a tagged part: its tag and its value
pub record Tagged : Type 0 where
  pub tag : ℕ
  pub value : Val

-- the outermost tagged parts of record k's reading v, parent first, without their places in the line
abbrev pub outermost_part : ℕ → Val → List Tagged → List Tagged
outermost_part zero v below = below
outermost_part (suc tag) v below = record { tag = suc tag; value = v } ∷ []

abbrev pub tagged_below : List ℕ → ℕ → Val → List Tagged
tagged_below t k void = []
tagged_below t k (byte c) = []
tagged_below t k (left v) = outermost_part (tag_at t (a_at t k)) v (tagged_below t (a_at t k) v)
tagged_below t k (right v) = outermost_part (tag_at t (b_at t k)) v (tagged_below t (b_at t k) v)
tagged_below t k (pair v w) =
    outermost_part (tag_at t (a_at t k)) v (tagged_below t (a_at t k) v) ++ outermost_part (tag_at t (b_at t k)) w (tagged_below t (b_at t k) w)
tagged_below t k none = []
tagged_below t k (more v w) = outermost_part (tag_at t (a_at t k)) v (tagged_below t (a_at t k) v) ++ tagged_below t k w

abbrev pub tagged_parts : List ℕ → ℕ → Val → List Tagged
tagged_parts t k v = outermost_part (tag_at t k) v (tagged_below t k v)

-- a tagged part that spells at least one byte
abbrev pub has_bytes : Tagged → Bool
has_bytes x = positive (length (flat x.value))

-- a token with the bytes of the line that stand at its place, and a tagged part with the bytes that it spells
pub record Named : Type 0 where
  pub tag : ℕ
  pub text : List ℕ

abbrev pub text_at : List ℕ → Token → Named
text_at s x = record { tag = x.tag; text = take x.size (drop x.offset s) }

abbrev pub text_of : Tagged → Named
text_of x = record { tag = x.tag; text = flat x.value }
