-- What holds of every tagged part of a reading holds of every token; so every token lies inside its line.
-- Assumes nothing.
use Prim.Native.Nat.{ℕ, zero, suc, ◌+◌, ◌*◌, ◌≤◌, ◌<◌}
use native.Mathlib.Omega.{arith}
use mathlib.Core.Path.{◌≡◌, refl, sym, ◌∙◌, ap}
use mathlib.Core.Bool.{Bool, true, false}
use mathlib.Core.List.{List, [], ◌∷◌, ◌++◌}
use lib.ListN.{length, get_or, drop, length-append}
use lib.Seq.{get_or-drop}
use Rattle.posix.specs.Values.{Val, void, byte, left, right, pair, none, more, flat}
use Rattle.table.specs.Records.{a_at, b_at, tag_at}
use Rattle.tokens.specs.Tokens.{Token, outermost, placed_below, placed_parts, cons_if, filter, has_size, tokens_from, token_bytes, nth_token, Every, Inside}

module _ (P : Token → Type 0) where
  every_append : (xs ys : List Token) → Every P xs → Every P ys → Every P (xs ++ ys)
  every_append [] ys a b = b
  every_append (x ∷ xs) ys a b = (a.0, every_append xs ys a.1 b)

  every-filter : (q : Token → Bool) (xs : List Token) → Every P xs → Every P (filter q xs)
  every-filter q [] a = a
  every-filter q (x ∷ xs) a = go (q x) (every-filter q xs a.1)
    where
      go : (b : Bool) → Every P (filter q xs) → Every P (cons_if b x (filter q xs))
      go true h = (a.0, h)
      go false h = h

  every-outermost :
      (tag at n : ℕ) (xs : List Token) → P (record { tag = tag; offset = at; size = n }) → Every P xs → Every P (outermost tag at n xs)
  every-outermost zero at n xs p a = a
  every-outermost (suc tag) at n xs p a = (p, tt)

  -- P holds of every part with a record's tag that ends at `end` or before
  module _ (t : List ℕ) (end : ℕ) (p : (k at n : ℕ) → at + n ≤ end → P (record { tag = tag_at t k; offset = at; size = n })) where
    every-part : (k : ℕ) (v : Val) (at : ℕ) → at + length (flat v) ≤ end → Every P (placed_below t k v at) → Every P (placed_parts t k v at)
    every-part k v at h = every-outermost (tag_at t k) at (length (flat v)) (placed_below t k v at) (p k at (length (flat v)) h)

    every-below : (k : ℕ) (v : Val) (at : ℕ) → at + length (flat v) ≤ end → Every P (placed_below t k v at)
    every-below k void at h = tt
    every-below k (byte c) at h = tt
    every-below k (left v) at h = every-part (a_at t k) v at h (every-below (a_at t k) v at h)
    every-below k (right v) at h = every-part (b_at t k) v at h (every-below (b_at t k) v at h)
    every-below k (pair v w) at h =
        let next : ℕ = at + length (flat v) in
        let f : at + length (flat v) ≤ end = omega (arith, length-append (flat v) (flat w)) in
        let g : next + length (flat w) ≤ end = omega (arith, length-append (flat v) (flat w)) in
        every_append (placed_parts t (a_at t k) v at) (placed_parts t (b_at t k) w next)
        (every-part (a_at t k) v at f (every-below (a_at t k) v at f))
        (every-part (b_at t k) w next g (every-below (b_at t k) w next g))
    every-below k none at h = tt
    every-below k (more v w) at h =
        let next : ℕ = at + length (flat v) in
        let f : at + length (flat v) ≤ end = omega (arith, length-append (flat v) (flat w)) in
        every_append (placed_parts t (a_at t k) v at) (placed_below t k w next)
        (every-part (a_at t k) v at f (every-below (a_at t k) v at f))
        (every-below k w next (omega (arith, length-append (flat v) (flat w))))

    pub every-token : (k : ℕ) (v : Val) (at : ℕ) → at + length (flat v) ≤ end → Every P (tokens_from t k v at)
    every-token k v at h = every-filter has_size (placed_parts t k v at) (every-part k v at h (every-below k v at h))

-- every token lies inside the line
pub tokens-inside : (t : List ℕ) (k : ℕ) (v : Val) → Inside (length (flat v)) (tokens_from t k v 0)
tokens-inside t k v = every-token (λ x. x.offset + x.size ≤ length (flat v)) t (length (flat v)) (λ _ _ _ h. h) k v 0 (omega arith)

-- token i of a list, from its bytes
at_next : (bs : List ℕ) (i j : ℕ) → j ≡ 3 + i → get_or (drop 3 bs) i 0 ≡ get_or bs j 0
at_next bs i j e = get_or-drop 3 bs i 0 ∙ ap (λ (k : ℕ). get_or bs k 0) (sym e)

pub token-next : (bs : List ℕ) (i : ℕ) → nth_token (drop 3 bs) i ≡ nth_token bs (suc i)
token-next bs i =
    let x : get_or (drop 3 bs) (3 * i) 0 ≡ get_or bs (3 * suc i) 0 = at_next bs (3 * i) (3 * suc i) (omega arith) in
    let y : get_or (drop 3 bs) (3 * i + 1) 0 ≡ get_or bs (3 * suc i + 1) 0 = at_next bs (3 * i + 1) (3 * suc i + 1) (omega arith) in
    let z : get_or (drop 3 bs) (3 * i + 2) 0 ≡ get_or bs (3 * suc i + 2) 0 = at_next bs (3 * i + 2) (3 * suc i + 2) (omega arith) in
    cc

pub nth-token : (xs : List Token) (i : ℕ) → i < length xs → drop i xs ≡ nth_token (token_bytes xs) i ∷ drop (suc i) xs
nth-token [] i l = absurd (omega arith)
nth-token (x ∷ xs) zero l = refl
nth-token (x ∷ xs) (suc i) l =
    nth-token xs i (omega arith) ∙ ap (λ (y : Token). y ∷ drop (suc i) xs) (token-next (token_bytes (x ∷ xs)) i)

-- what every token has, it has
pub every-nth : (P : Token → Type 0) (xs : List Token) (i : ℕ) → i < length xs → Every P xs → P (nth_token (token_bytes xs) i)
every-nth P [] i l a = absurd (omega arith)
every-nth P (x ∷ xs) zero l a = a.0
every-nth P (x ∷ xs) (suc i) l a = rw (sym (token-next (token_bytes (x ∷ xs)) i)) (every-nth P xs i (omega arith) a.1)
