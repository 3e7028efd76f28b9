-- Where both alternatives of an Or record without a tag spell a line, its tokens are those of the alternative that stands first: before the exchange
-- those of the one, and after it those of the other.
-- Assumes nothing.
use Prim.Native.Nat.{ℕ, zero, suc, ◌≤◌, ◌<◌}
use native.Mathlib.Omega.{arith}
use mathlib.Core.Path.{◌≡◌, refl, sym, ◌∙◌, ap, subst}
use mathlib.Core.Logic.{inl}
use mathlib.Core.List.{List, [], ◌∷◌}
use lib.Dec.{eqb}
use lib.ListN.{length}
use borrow.Author.Tests.{eqb-true, eq-eqb}
use Rattle.posix.specs.Expressions.{Exp, or}
use Rattle.posix.specs.Values.{Val, left, flat}
use Rattle.posix.specs.Language.{L}
use Rattle.posix.specs.Relation.{Posix, posix_left}
use Rattle.posix.proofs.Flats.{posix-flat}
use Rattle.posix.proofs.Parse.{posix-exists}
use Rattle.posix.proofs.Found.{parse-found}
use Rattle.table.specs.Records.{count, kind_at, a_at, b_at, tag_at}
use Rattle.table.specs.Faults.{Passes}
use Rattle.table.specs.Expression.{exp_of}
use Rattle.table.proofs.Laws.{exp-or}
use Rattle.table.proofs.Passing.{a-below, b-below}
use Rattle.tokens.specs.Tokens.{Token, outermost, placed_below, filter, has_size, tokens_from}
use Rattle.lexer.specs.Lexing.{reading_tokens, tokens_of}
use Rattle.reorder.specs.Exchanges.{swapped, Shared}
use Rattle.reorder.proofs.Exchanging.{Exchanged, one-exchanged}
use Rattle.reorder.proofs.Checking.{same_count, same-passes, crossed-a}
use Rattle.reorder.proofs.Languages.{same_lines}
use Rattle.reorder.proofs.Outcomes.{same-tokens}

-- the tokens of a line, by its reading
posix-tokens : (t : List ℕ) (k : ℕ) {s : List ℕ} {v : Val} → Posix s (exp_of t k) v → tokens_of t k s ≡ tokens_from t k v 0
posix-tokens t k {s} {v} q = ap (reading_tokens t k) ((parse-found (exp_of t k) s v).1 q)

-- below a record without a tag
untagged : (t : List ℕ) (k : ℕ) (v : Val) (at : ℕ) → tag_at t k ≡ 0 → tokens_from t k v at ≡ filter has_size (placed_below t k v at)
untagged t k v at e = rw e

-- the first alternative of an Or record without a tag
first-tokens :
    (t : List ℕ) (k : ℕ) → Passes t → k < count t → kind_at t k ≡ 3 → tag_at t k ≡ 0 → (s : List ℕ) → L (exp_of t (a_at t k)) s
    → tokens_of t k s ≡ tokens_of t (a_at t k) s
first-tokens t k p l i e s f =
    let x : (v : Val) × Posix s (exp_of t (a_at t k)) v = posix-exists (exp_of t (a_at t k)) s f in
    let r : exp_of t k ≡ or (exp_of t (a_at t k)) (exp_of t (b_at t k)) = exp-or t k i (a-below t p k l (inl i)) (b-below t p k l (inl i)) in
    let q : Posix s (exp_of t k) (left x.0) = subst (λ (y : Exp). Posix s y (left x.0)) (sym r) (posix_left x.1) in
    posix-tokens t k q ∙ untagged t k (left x.0) 0 e ∙ sym (posix-tokens t (a_at t k) x.1)

module _ (t : List ℕ) (k : ℕ) (s : List ℕ) (p : Passes t) (both : Shared t k s) (e : tag_at t k ≡ 0) where
  one : Exchanged (λ j. eqb j k) t (swapped t k)
  one = one-exchanged t k both.or_record

  of_kind_or : kind_at t k ≡ 3
  of_kind_or = eqb-true (kind_at t k) 3 both.or_record.of_kind_or

  k-below : (a_at t k < k) × (b_at t k < k)
  k-below = (a-below t p k both.or_record.inside (inl of_kind_or), b-below t p k both.or_record.inside (inl of_kind_or))

  -- after the exchange the other one stands first
  swapped-first : a_at (swapped t k) k ≡ b_at t k
  swapped-first = crossed-a one k (eq-eqb k k refl)

  -- and its records, below record k, are as they were
  below-same : tokens_of (swapped t k) (b_at t k) s ≡ tokens_of t (b_at t k) s
  below-same =
      same-tokens one (b_at t k) (λ j l g. absurd (let i : j ≡ k = eqb-true j k g in omega (arith, k-below.1))) p
      (omega (arith, k-below.1, both.or_record.inside)) s both.short

  pub shared-tokens : (tokens_of t k s ≡ tokens_of t (a_at t k) s) × (tokens_of (swapped t k) k s ≡ tokens_of t (b_at t k) s)
  shared-tokens = (
    first-tokens t k p both.or_record.inside of_kind_or e s both.first,
    first-tokens (swapped t k) k (same-passes one p) (omega (arith, both.or_record.inside, same_count one)) (one.kind k ∙ of_kind_or) (one.tag k ∙ e) s spelled
        ∙ ap (λ (j : ℕ). tokens_of (swapped t k) j s) swapped-first
        ∙ below-same,
  )
    where
      spelled : L (exp_of (swapped t k) (a_at (swapped t k) k)) s
      spelled =
          rw swapped-first ((same_lines one p (b_at t k) (omega (arith, k-below.1, both.or_record.inside)) s).0 both.second)

-- a tagged record's line of at least one byte is one token
tagged-token : (tag at n : ℕ) (xs : List Token) → 1 ≤ tag → 1 ≤ n → filter has_size (outermost tag at n xs) ≡ record { tag = tag; offset = at; size = n } ∷ []
tagged-token zero at n xs l m = absurd (omega arith)
tagged-token (suc tag) at zero xs l m = absurd (omega arith)
tagged-token (suc tag) at (suc n) xs l m = refl

-- so the tag of the first token is the record's
first_tag : List Token → ℕ
first_tag [] = 0
first_tag (x ∷ xs) = x.tag

tagged-first : (t : List ℕ) (k : ℕ) (s : List ℕ) → L (exp_of t k) s → 1 ≤ tag_at t k → 1 ≤ length s → first_tag (tokens_of t k s) ≡ tag_at t k
unfolding first_tag
tagged-first t k s f l m =
    let x : (v : Val) × Posix s (exp_of t k) v = posix-exists (exp_of t k) s f in
    ap first_tag
    (posix-tokens t k x.1
    ∙ tagged-token (tag_at t k) 0 (length (flat x.0)) (placed_below t k x.0 0) l (omega (arith, m, ap length (posix-flat x.1))))

-- two alternatives with two tags: the tokens change
pub shared-differ :
    (t : List ℕ) (k : ℕ) (s : List ℕ) → Passes t → Shared t k s → tag_at t k ≡ 0 → 1 ≤ tag_at t (a_at t k) → 1 ≤ tag_at t (b_at t k)
    → ¬ (tag_at t (a_at t k) ≡ tag_at t (b_at t k))
    → 1 ≤ length s
    → ¬ (tokens_of (swapped t k) k s ≡ tokens_of t k s)
shared-differ t k s p both e la lb differ m same =
    let f = shared-tokens t k s p both e in
    differ
    (sym (tagged-first t (a_at t k) s both.first la m)
    ∙ ap first_tag (sym f.0 ∙ sym same ∙ f.1)
    ∙ tagged-first t (b_at t k) s both.second lb m)
