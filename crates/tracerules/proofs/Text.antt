-- The text of an input.
-- Assumes nothing.
use Prim.Native.Nat.{ℕ, suc, ◌+◌, ◌-◌, ◌≤◌}
use mathlib.Core.Path.{◌≡◌, refl, sym, ◌∙◌, ap}
use mathlib.Core.Bool.{Bool, true, false, cond}
use mathlib.Core.List.{List, [], ◌∷◌, ◌++◌}
use native.Mathlib.Omega.{arith}
use borrow.Author.Tests.{eq-eqb, ne_eqb}
use lib.ListN.{length, take, get_or, length-append}
use Rattle.std.proofs.Common.{Bor, Option, None, Some, MatchOption}
use Rattle.std.specs.Option.{unwrap_or}
use lib.Seq.{take-suc, take-length, length-take-le, take_at, get_or-append-add}
use Rattle.tracerules.specs.Text.{ends_line, text_of}

-- by the input's last byte
pub text-none : (input : List ℕ) → length input ≡ 0 → input ≡ text_of input
unfolding text_of
text-none [] h = refl
text-none (c ∷ input) h = absurd (omega arith)

module _ (input : List ℕ) (last : ℕ) (ends : last ≡ length input - 1) where
  last_byte : get_or input (length input - 1) 0 ≡ get_or input last 0
  last_byte = ap (λ (i : ℕ). get_or input i 0) (sym ends)

  pub text-kept : (get_or input last 0 ≡ 10 → ⊥) → input ≡ text_of input
  unfolding text_of
  text-kept h = rw (last_byte, ne_eqb (get_or input last 0) 10 h)

  pub text-cut : get_or input last 0 ≡ 10 → take last input ≡ text_of input
  unfolding text_of
  text-cut h = rw (last_byte, eq-eqb (get_or input last 0) 10 h) (ap (λ (i : ℕ). take i input) ends)

-- at most one byte is left out
pub text-length : (input : List ℕ) → length input ≤ suc (length (text_of input))
unfolding text_of
text-length input = go (ends_line input)
  where
    go : (b : Bool) → length input ≤ suc (length (cond b (take (length input - 1) input) input))
    go true = omega (arith, length-take-le (length input - 1) input (omega arith))
    go false = omega arith

-- of an input that ends in byte 10 the text is all before it, of any other the whole
end-byte : (s : List ℕ) (c : ℕ) → get_or (s ++ (c ∷ [])) (length s) 0 ≡ c
end-byte s c = let e : length s + 0 ≡ length s = omega arith in ap (λ (i : ℕ). get_or (s ++ (c ∷ [])) i 0) (sym e) ∙ get_or-append-add s (c ∷ []) 0 0

pub text-ended : (s : List ℕ) → text_of (s ++ (10 ∷ [])) ≡ s
text-ended s =
    sym (text-cut (s ++ (10 ∷ [])) (length s) (omega (arith, length-append s (10 ∷ []))) (end-byte s 10)) ∙ take_at s (10 ∷ []) (length s) refl

pub text-plain : (s : List ℕ) (c : ℕ) → (c ≡ 10 → ⊥) → text_of (s ++ (c ∷ [])) ≡ s ++ (c ∷ [])
text-plain s c h =
    let g : get_or (s ++ (c ∷ [])) (length s) 0 ≡ 10 → ⊥ = λ e. h (sym (end-byte s c) ∙ e) in
    sym (text-kept (s ++ (c ∷ [])) (length s) (omega (arith, length-append s (c ∷ []))) g)

-- the front of an input that ends in byte 10, or the input where none ends it
text-whole : (input : List ℕ) → ((front : List ℕ) → input ≡ front ++ (10 ∷ []) → ⊥) → input ≡ text_of input
text-whole [] h = text-none [] refl
text-whole (c ∷ s) h =
    text-kept (c ∷ s) (length s) (omega arith)
    (λ e. h (take (length s) (c ∷ s)) (sym (take-length (c ∷ s)) ∙ take-suc (c ∷ s) (length s) 0 (omega arith) ∙ ap (λ (b : ℕ). take (length s) (c ∷ s) ++ (b ∷ [])) e))

pub text-strip :
    (input : Bor (List ℕ)) (r : Option (Bor (List ℕ)))
    → MatchOption r ((front : List ℕ) → input.now ≡ front ++ (10 ∷ []) → ⊥) (λ x. input.now ≡ x.now ++ (10 ∷ []))
    → (unwrap_or r input).now ≡ text_of input.now
text-strip input None h = text-whole input.now h
text-strip input (Some x) h = sym (ap text_of h ∙ text-ended x.now)

pub text-empty : text_of [] ≡ []
unfolding text_of
text-empty = refl
