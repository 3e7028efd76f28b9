-- The tokens are the outermost tagged parts of at least one byte, each with its own offset and length in the line (document 01, "Tokens", and
-- request 2).
-- Assumes nothing.
use Prim.Native.Nat.{ℕ, zero, suc, ◌+◌}
use mathlib.Core.Path.{◌≡◌, refl, sym, ◌∙◌, ap, ap₂}
use mathlib.Core.List.{List, [], ◌∷◌, ◌++◌, append_assoc, append-nil, map, map-append}
use lib.ListN.{length, take, drop, length-append}
use lib.Seq.{take_at, drop_at}
use Rattle.posix.specs.Values.{Val, void, byte, left, right, pair, none, more, flat}
use Rattle.table.specs.Records.{a_at, b_at, tag_at}
use Rattle.tokens.specs.Tokens.{Token, outermost, placed_below, placed_parts, filter, has_size, tokens_from, Tagged, outermost_part, tagged_below, tagged_parts, has_bytes, Named, text_at, text_of}
use Rattle.tokens.proofs.Filters.{filter-append}

-- a line with a part at an offset
record Placed (s : List ℕ) (at : ℕ) (u : List ℕ) : Type 0 where
  before : List ℕ
  after : List ℕ
  whole : s ≡ before ++ (u ++ after)
  offset : length before ≡ at

text-here : {s : List ℕ} {at : ℕ} {u : List ℕ} → Placed s at u → take (length u) (drop at s) ≡ u
text-here {s} {at} {u} p =
    ap (λ (x : List ℕ). take (length u) (drop at x)) p.whole
    ∙ ap (take (length u)) (drop_at p.before (u ++ p.after) at p.offset)
    ∙ take_at u p.after (length u) refl

first_part : {s : List ℕ} {at : ℕ} (u w : List ℕ) → Placed s at (u ++ w) → Placed s at u
first_part u w p =
    record {
      before = p.before;
      after = w ++ p.after;
      whole = p.whole ∙ ap (λ (x : List ℕ). p.before ++ x) (append_assoc u w p.after);
      offset = p.offset;
    }

second-part : {s : List ℕ} {at : ℕ} (u w : List ℕ) → Placed s at (u ++ w) → Placed s (at + length u) w
second-part u w p =
    record {
      before = p.before ++ u;
      after = p.after;
      whole =
          p.whole ∙ ap (λ (x : List ℕ). p.before ++ x) (append_assoc u w p.after) ∙ sym (append_assoc p.before u (w ++ p.after));
      offset = length-append p.before u ∙ ap (λ (n : ℕ). n + length u) p.offset;
    }

abbrev one : Named → List Named
one x = x ∷ []

-- the texts of the parts of at least one byte, once with their places and once with their values
abbrev SameTexts : List ℕ → List Token → List Tagged → Type 0
SameTexts s xs ys = map (text_at s) (filter has_size xs) ≡ map text_of (filter has_bytes ys)

-- a part by its tag
alone-text :
    (s : List ℕ) (tag at : ℕ) (v : Val) (n : ℕ) → Placed s at (flat v) → length (flat v) ≡ n
    → SameTexts s (record { tag = suc tag; offset = at; size = length (flat v) } ∷ []) (record { tag = suc tag; value = v } ∷ [])
alone-text s tag at v zero p e = rw e refl
alone-text s tag at v (suc n) p e = rw e (ap (λ (u : List ℕ). one (record { tag = suc tag; text = u })) (rw e at (text-here p)))

outer-text :
    (s : List ℕ) (tag at : ℕ) (v : Val) (xs : List Token) (ys : List Tagged) → Placed s at (flat v) → SameTexts s xs ys
    → SameTexts s (outermost tag at (length (flat v)) xs) (outermost_part tag v ys)
outer-text s zero at v xs ys p e = e
outer-text s (suc tag) at v xs ys p e = alone-text s tag at v (length (flat v)) p refl

-- two parts
both-text : (s : List ℕ) (xs ys : List Token) (us ws : List Tagged) → SameTexts s xs us → SameTexts s ys ws → SameTexts s (xs ++ ys) (us ++ ws)
both-text s xs ys us ws e f =
    ap (map (text_at s)) (filter-append has_size xs ys)
    ∙ map-append (text_at s) (filter has_size xs) (filter has_size ys)
    ∙ ap₂ ◌++◌ e f
    ∙ sym (map-append text_of (filter has_bytes us) (filter has_bytes ws))
    ∙ ap (map text_of) (sym (filter-append has_bytes us ws))

part-text :
    (s t : List ℕ) (k : ℕ) (v : Val) (at : ℕ) → Placed s at (flat v) → SameTexts s (placed_below t k v at) (tagged_below t k v)
    → SameTexts s (placed_parts t k v at) (tagged_parts t k v)
part-text s t k v at = outer-text s (tag_at t k) at v (placed_below t k v at) (tagged_below t k v)

below-text : (s t : List ℕ) (k : ℕ) (v : Val) (at : ℕ) → Placed s at (flat v) → SameTexts s (placed_below t k v at) (tagged_below t k v)
below-text s t k void at p = refl
below-text s t k (byte c) at p = refl
below-text s t k (left v) at p = part-text s t (a_at t k) v at p (below-text s t (a_at t k) v at p)
below-text s t k (right v) at p = part-text s t (b_at t k) v at p (below-text s t (b_at t k) v at p)
below-text s t k (pair v w) at p =
    let next : ℕ = at + length (flat v) in
    let f : Placed s at (flat v) = first_part (flat v) (flat w) p in
    let g : Placed s next (flat w) = second-part (flat v) (flat w) p in
    both-text s (placed_parts t (a_at t k) v at) (placed_parts t (b_at t k) w next) (tagged_parts t (a_at t k) v) (tagged_parts t (b_at t k) w)
    (part-text s t (a_at t k) v at f (below-text s t (a_at t k) v at f))
    (part-text s t (b_at t k) w next g (below-text s t (b_at t k) w next g))
below-text s t k none at p = refl
below-text s t k (more v w) at p =
    let next : ℕ = at + length (flat v) in
    let f : Placed s at (flat v) = first_part (flat v) (flat w) p in
    both-text s (placed_parts t (a_at t k) v at) (placed_below t k w next) (tagged_parts t (a_at t k) v) (tagged_below t k w)
    (part-text s t (a_at t k) v at f (below-text s t (a_at t k) v at f))
    (below-text s t k w next (second-part (flat v) (flat w) p))

-- the bytes of the line at the tokens' places are the bytes that the outermost tagged parts of at least one byte spell, in order and with their
-- tags
pub tokens-text : (t : List ℕ) (k : ℕ) (v : Val) → map (text_at (flat v)) (tokens_from t k v 0) ≡ map text_of (filter has_bytes (tagged_parts t k v))
tokens-text t k v = part-text (flat v) t k v 0 here (below-text (flat v) t k v 0 here)
  where
    here : Placed (flat v) 0 (flat v)
    here = record { before = []; after = []; whole = sym (append-nil (flat v)); offset = refl }
