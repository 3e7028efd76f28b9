-- Texts and tokens compared in their bytes: two texts, two tokens, and the tokens of two lines.
-- Assumes nothing.
use Prim.Native.Nat.{ℕ, zero, suc, ◌+◌, ◌/◌, ◌≤◌, ◌<◌}
use native.Mathlib.Omega.{arith}
use mathlib.Core.Path.{◌≡◌, refl, sym, ◌∙◌, ap}
use mathlib.Core.Bool.{Bool, true, false}
use mathlib.Core.List.{List, [], ◌∷◌, map}
use lib.ListN.{length, drop, length-map}
use Rattle.tokens.specs.Tokens.{Token, token_bytes, nth_token, Inside, Named, text_at}
use Rattle.tokens.proofs.Counts.{bytes_count}
use Rattle.tokens.proofs.Places.{nth-token, every-nth}
use Rattle.page.specs.Entries.{same_named, alike}
use Rattle.page.specs.Entries.{Within}
use Rattle.page.proofs.Pointwise.{other-lengths, UpTo, none_yet, next-differs, next-passes, all_pass}

-- the tokens of two lines: token i of a list's bytes
drop-map : {A B : Type 0} (f : A → B) (i : ℕ) (xs : List A) → drop i (map f xs) ≡ map f (drop i xs)
drop-map f zero xs = refl
drop-map f (suc i) [] = refl
drop-map f (suc i) (x ∷ xs) = drop-map f i xs

named-at :
    (s : List ℕ) {ts : List ℕ} (xs : List Token) (i : ℕ) → ts ≡ token_bytes xs → i < length ts / 3
    → drop i (map (text_at s) xs) ≡ text_at s (nth_token ts i) ∷ drop (suc i) (map (text_at s) xs)
named-at s {ts} xs i e l =
    let h : i < length xs = omega (arith, ap length e, bytes_count xs) in
    drop-map (text_at s) i xs
    ∙ ap (map (text_at s)) (nth-token xs i h)
    ∙ ap (λ (bs : List ℕ). text_at s (nth_token bs i) ∷ map (text_at s) (drop (suc i) xs)) (sym e)
    ∙ ap (λ (ns : List Named). text_at s (nth_token ts i) ∷ ns) (sym (drop-map (text_at s) (suc i) xs))

module _ (s ts u us : List ℕ) where
  -- the first i tokens are the same
  pub record SameTokens (i : ℕ) : Type 0 where
    pub so_far : (xs ys : List Token) → ts ≡ token_bytes xs → us ≡ token_bytes ys → UpTo same_named (map (text_at s) xs) (map (text_at u) ys) i

  -- what is said of them
  abbrev pub Alike : Bool → Type 0
  Alike r =
      (xs ys : List Token) → ts ≡ token_bytes xs → us ≡ token_bytes ys → r ≡ alike (record { text = s; tokens = xs }) (record { text = u; tokens = ys })

  pub tokens_none : SameTokens 0
  tokens_none = record { so_far = λ xs ys e f. none_yet same_named (map (text_at s) xs) (map (text_at u) ys) }

  pub tokens-lengths : ¬ (length ts ≡ length us) → Alike false
  unfolding alike
  tokens-lengths n xs ys e f =
      sym
      (other-lengths same_named (map (text_at s) xs) (map (text_at u) ys)
      (λ g.
      n
      (omega
      (arith, ap length e, ap length f, bytes_count xs, bytes_count ys, g, length-map xs (text_at s), length-map ys (text_at u)))))

  module _ {i : ℕ} (same : SameTokens i) (size : length ts ≡ length us) where
    pub tokens-differ : i < length ts / 3 → false ≡ same_named (text_at s (nth_token ts i)) (text_at u (nth_token us i)) → Alike false
    unfolding alike
    tokens-differ l n xs ys e f =
        sym
        (next-differs same_named (same.so_far xs ys e f) (named-at s xs i e l)
        (named-at u ys i f (omega arith)) (sym n))

    pub tokens-go-on : i < length ts / 3 → true ≡ same_named (text_at s (nth_token ts i)) (text_at u (nth_token us i)) → SameTokens (i + 1)
    tokens-go-on l n =
        record {
          so_far = λ xs ys e f.
              next-passes same_named (same.so_far xs ys e f) (named-at s xs i e l)
              (named-at u ys i f (omega arith)) (sym n);
        }

    pub tokens-end : length ts / 3 ≤ i → Alike true
    unfolding alike
    tokens-end l xs ys e f =
        sym
        (all_pass same_named (same.so_far xs ys e f)
        (omega (arith, ap length e, bytes_count xs, length-map xs (text_at s)))
        (omega (arith, ap length e, ap length f, bytes_count ys, length-map ys (text_at u))))

-- tokens inside a line, in their bytes
pub inside-within : (s : List ℕ) {ts : List ℕ} (xs : List Token) → ts ≡ token_bytes xs → Inside (length s) xs → Within s ts
inside-within s {ts} xs e h i l =
    rw e
    (every-nth (λ (x : Token). x.offset + x.size ≤ length s) xs i (omega (arith, ap length e, bytes_count xs)) h)
