-- When two lines are alike: exactly when they have in common what alike lines have in common; and what that is by the line's reading.
-- Assumes nothing.
use Prim.Native.Nat.{ℕ}
use mathlib.Core.Path.{◌≡◌, refl, sym, ◌∙◌, ap, ap₂}
use mathlib.Core.Bool.{Bool, true, false}
use mathlib.Core.List.{List, map}
use mathlib.Core.Logic.{◌↔◌}
use borrow.Author.Tests.{eqb-true, eq-eqb}
use lib.Dec.{eqb}
use Rattle.posix.specs.Values.{Val}
use Rattle.posix.specs.Relation.{Posix}
use Rattle.posix.specs.Decision.{Parsed}
use Rattle.posix.proofs.Flats.{posix-flat}
use Rattle.posix.proofs.Found.{parse-found}
use Rattle.posix.proofs.Spells.{each}
use Rattle.table.specs.Expression.{exp_of}
use Rattle.tokens.specs.Tokens.{filter, tokens_from, tagged_parts, has_bytes, Named, text_at, text_of}
use Rattle.tokens.proofs.Text.{tokens-text}
use Rattle.lexer.specs.Lexing.{reading_tokens}
use Rattle.page.specs.Entries.{Rules, Entry, entry_of, same_text, same_named, alike, likeness}
use Rattle.page.proofs.Pointwise.{pointwise-exactly}

-- a name with its text
named-exactly : (x y : Named) → (same_named x y ≡ true) ↔ (x ≡ y)
named-exactly x y = (same, λ e. ap (same_named x) (sym e) ∙ self)
  where
    text-exactly : (s u : List ℕ) → (same_text s u ≡ true) ↔ (s ≡ u)
    text-exactly = pointwise-exactly eqb (λ c d. (eqb-true c d, eq-eqb c d))

    same : same_named x y ≡ true → x ≡ y
    same e =
        let b : (eqb x.tag y.tag ≡ true) × (same_text x.text y.text ≡ true) =
        each (eqb x.tag y.tag) (same_text x.text y.text) e in
        ap₂ (λ (n : ℕ) (s : List ℕ). record { tag = n; text = s }) (eqb-true x.tag y.tag b.0) ((text-exactly x.text y.text).0 b.1)

    self : same_named x x ≡ true
    self = rw (eq-eqb x.tag x.tag refl) ((text-exactly x.text x.text).1 refl)

pub alike-exactly : (a b : Entry) → (alike a b ≡ true) ↔ (likeness a ≡ likeness b)
unfolding alike
alike-exactly a b = pointwise-exactly same_named named-exactly (likeness a) (likeness b)

-- and that is what the outermost tagged parts of at least one byte of the line's reading spell, in order and with their tags, wherever they stand
pub likeness-spelled :
    (l : Rules) (s : List ℕ) (v : Val) → Posix s (exp_of l.table l.start) v
    → likeness (entry_of l s) ≡ map text_of (filter has_bytes (tagged_parts l.table l.start v))
likeness-spelled l s v p =
    ap (λ (q : Parsed). map (text_at s) (reading_tokens l.table l.start q)) ((parse-found (exp_of l.table l.start) s v).1 p)
    ∙ ap (λ (u : List ℕ). map (text_at u) (tokens_from l.table l.start v 0)) (sym (posix-flat p))
    ∙ tokens-text l.table l.start v

-- so it goes both ways and from line to line
pub alike_refl : (a : Entry) → alike a a ≡ true
alike_refl a = (alike-exactly a a).1 refl

pub alike-sym : (a b : Entry) → alike a b ≡ true → alike b a ≡ true
alike-sym a b e = (alike-exactly b a).1 (sym ((alike-exactly a b).0 e))

pub alike-trans : (a b c : Entry) → alike a b ≡ true → alike b c ≡ true → alike a c ≡ true
alike-trans a b c e f = (alike-exactly a c).1 ((alike-exactly a b).0 e ∙ (alike-exactly b c).0 f)

-- and alike lines are alike to the same lines
pub alike_same : (a b c : Entry) → alike a b ≡ true → alike a c ≡ alike b c
alike_same a b c e = go (alike a c) (alike b c) refl refl
  where
    go : (x y : Bool) → alike a c ≡ x → alike b c ≡ y → x ≡ y
    go true true f g = refl
    go false false f g = refl
    go true false f g = sym (alike-trans b a c (alike-sym a b e) f) ∙ g
    go false true f g = sym f ∙ alike-trans a b c e g
