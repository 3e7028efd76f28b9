-- How many tokens a reading has, and how many bytes they take.
-- Assumes nothing.
use Prim.Native.Nat.{ℕ, zero, suc, ◌+◌, ◌*◌, ◌≤◌}
use mathlib.Core.Path.{◌≡◌, refl, ap}
use mathlib.Core.List.{List, [], ◌∷◌, ◌++◌}
use native.Mathlib.Omega.{arith}
use lib.ListN.{length, length-append}
use Rattle.posix.specs.Values.{Val, void, byte, left, right, pair, none, more, flat}
use Rattle.table.specs.Records.{a_at, b_at, tag_at}
use Rattle.tokens.specs.Tokens.{Token, outermost, placed_below, placed_parts, filter, has_size, tokens_from, token_bytes}
use Rattle.tokens.proofs.Filters.{filter-append}

-- a part of n bytes
outermost-count : (tag at n : ℕ) (xs : List Token) → length (filter has_size xs) ≤ n → length (filter has_size (outermost tag at n xs)) ≤ n
outermost-count zero at n xs h = h
outermost-count (suc tag) at zero xs h = omega arith
outermost-count (suc tag) at (suc n) xs h = omega arith

-- two parts
both-count :
    (xs ys : List Token) (u w : List ℕ) → length (filter has_size xs) ≤ length u → length (filter has_size ys) ≤ length w
    → length (filter has_size (xs ++ ys)) ≤ length (u ++ w)
both-count xs ys u w h g =
    omega (arith, ap length (filter-append has_size xs ys), length-append (filter has_size xs) (filter has_size ys), length-append u w)

part_count :
    (t : List ℕ) (k : ℕ) (v : Val) (at : ℕ) → length (filter has_size (placed_below t k v at)) ≤ length (flat v)
    → length (tokens_from t k v at) ≤ length (flat v)
part_count t k v at = outermost-count (tag_at t k) at (length (flat v)) (placed_below t k v at)

below-count : (t : List ℕ) (k : ℕ) (v : Val) (at : ℕ) → length (filter has_size (placed_below t k v at)) ≤ length (flat v)
below-count t k void at = omega arith
below-count t k (byte c) at = omega arith
below-count t k (left v) at = part_count t (a_at t k) v at (below-count t (a_at t k) v at)
below-count t k (right v) at = part_count t (b_at t k) v at (below-count t (b_at t k) v at)
below-count t k (pair v w) at =
    let next : ℕ = at + length (flat v) in
    both-count (placed_parts t (a_at t k) v at) (placed_parts t (b_at t k) w next) (flat v) (flat w)
    (part_count t (a_at t k) v at (below-count t (a_at t k) v at))
    (part_count t (b_at t k) w next (below-count t (b_at t k) w next))
below-count t k none at = omega arith
below-count t k (more v w) at =
    let next : ℕ = at + length (flat v) in
    both-count (placed_parts t (a_at t k) v at) (placed_below t k w next) (flat v) (flat w)
    (part_count t (a_at t k) v at (below-count t (a_at t k) v at))
    (below-count t k w next)

-- a reading has at most one token for each byte of its line
pub tokens-count : (t : List ℕ) (k : ℕ) (v : Val) (at : ℕ) → length (tokens_from t k v at) ≤ length (flat v)
tokens-count t k v at = part_count t k v at (below-count t k v at)

-- three bytes a token
pub bytes_count : (xs : List Token) → length (token_bytes xs) ≡ 3 * length xs
bytes_count [] = refl
bytes_count (x ∷ xs) = omega (arith, bytes_count xs)
