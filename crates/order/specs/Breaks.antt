-- Which tokens break a pair of names (document 02, request 5): "every token with a second name has, earlier in the list, a token with its first
-- name". A token is 3 bytes, of which the first is its name; the others, its offset and length, are not looked at.
-- Assumes nothing.
use Rattle.std.specs.Prelude.{ℕ, zero, suc, ◌*◌, ◌/◌, ◌<◌, ◌≡◌, ◌⊎◌, Bool, false, not, ◌&&◌, ◌||◌, List, [], ◌∷◌, eqb, length, get_or}
use Rattle.order.specs.declared.Pair.{Pair}

-- the token count of a list, and the name of token i
abbrev pub token_count : List ℕ → ℕ
token_count ts = length ts / 3

abbrev pub name_at : List ℕ → ℕ → ℕ
name_at ts i = get_or ts (3 * i) 0

-- token i breaks a pair: its name is the second name, and no earlier token has the first name
pub record Breaks (ts : List ℕ) (p : Pair) (i : ℕ) : Type 0 where
  pub named : name_at ts i ≡ p.second
  pub without : (j : ℕ) → j < i → name_at ts j ≡ p.first → ⊥

-- a pair of a list
abbrev pub Among : Pair → List Pair → Type 0
Among p [] = ⊥
Among p (q ∷ ps) = (p ≡ q) ⊎ Among p ps

-- every token with the second name of a pair has, earlier in the list, a token with its first name
abbrev pub Keeps : List ℕ → List Pair → Type 0
Keeps ts ps =
    (p : Pair) → Among p ps → (i : ℕ) → i < token_count ts → name_at ts i ≡ p.second → (j : ℕ) × (j < i) × (name_at ts j ≡ p.first)

-- token i is the first that breaks some pair
pub record FirstToBreak (ts : List ℕ) (ps : List Pair) (i : ℕ) : Type 0 where
  pub inside : i < token_count ts
  pub pair : Pair
  pub listed : Among pair ps
  pub broken : Breaks ts pair i
  pub before : (j : ℕ) → j < i → (p : Pair) → Among p ps → Breaks ts p j → ⊥

-- some token before token i has the name
abbrev pub earlier : List ℕ → ℕ → ℕ → Bool
earlier ts zero x = false
earlier ts (suc i) x = eqb (name_at ts i) x || earlier ts i x

-- the test whether token i breaks a pair, and whether it breaks some pair of a list
abbrev pub breaks : List ℕ → Pair → ℕ → Bool
breaks ts p i = eqb (name_at ts i) p.second && not (earlier ts i p.first)

abbrev pub breaks_some : List ℕ → List Pair → ℕ → Bool
breaks_some ts [] i = false
breaks_some ts (p ∷ ps) i = breaks ts p i || breaks_some ts ps i
