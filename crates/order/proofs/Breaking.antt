-- Laws of the tests: what an earlier token is, which tokens break a pair, and where the first of them stands.
-- Assumes nothing.
use Prim.Native.Nat.{ℕ, zero, suc, ◌+◌, ◌≤◌, ◌<◌}
use native.Mathlib.Nat.{add-zero, zero-add, eq-or-lt_of_le}
use native.Mathlib.Omega.{arith}
use mathlib.Core.Path.{◌≡◌, refl, sym, ap, ◌∙◌}
use mathlib.Core.Logic.{inl, inr, ⊎_elim}
use mathlib.Core.Bool.{Bool, true, false, not, true≢false}
use mathlib.Core.List.{List, [], ◌∷◌}
use lib.Dec.{eqb}
use borrow.Author.Tests.{eqb-true, eq-eqb, not-true}
use Rattle.table.proofs.Passing.{or-true, or-true-left, or_true_right, and_both}
use Rattle.order.specs.declared.Pair.{Pair}
use Rattle.order.specs.declared.Verdict.TheVariants.{Kept, Broken}
use Rattle.order.specs.Breaks.{name_at, Breaks, Among, earlier, breaks, breaks_some}
use Rattle.order.specs.Verdicts.{first_from}

-- a test that cannot be true is false
pub untrue : (b : Bool) → (b ≡ true → ⊥) → b ≡ false
untrue true h = absurd (h refl)
untrue false h = refl

-- two tests are equal where each is true if the other is
pub alike : (a b : Bool) → (a ≡ true → b ≡ true) → (b ≡ true → a ≡ true) → a ≡ b
alike true b f g = sym (f refl)
alike false true f g = g refl
alike false false f g = refl

-- a token before token i with the name
pub earlier-at : (ts : List ℕ) (i x : ℕ) → earlier ts i x ≡ true → (j : ℕ) × (j < i) × (name_at ts j ≡ x)
earlier-at ts zero x e = absurd (true≢false (sym e))
earlier-at ts (suc i) x e =
    ⊎_elim
    (λ (q : eqb (name_at ts i) x ≡ true). (i, omega arith, eqb-true (name_at ts i) x q))
    (λ (q : earlier ts i x ≡ true). let (j, l, n) = earlier-at ts i x q in (j, omega arith, n))
    (or-true (eqb (name_at ts i) x) (earlier ts i x) e)

pub at-earlier : (ts : List ℕ) (i x j : ℕ) → j < i → name_at ts j ≡ x → earlier ts i x ≡ true
at-earlier ts zero x j l e = absurd (omega arith)
at-earlier ts (suc i) x j l e =
    ⊎_elim
    (λ (q : suc j ≡ suc i).
    let same : j ≡ i = omega arith in
    let named : name_at ts i ≡ x = ap (name_at ts) (sym same) ∙ e in
    or-true-left (eqb (name_at ts i) x) (earlier ts i x) (eq-eqb (name_at ts i) x named))
    (λ (q : suc j < suc i). or_true_right (eqb (name_at ts i) x) (earlier ts i x) (at-earlier ts i x j (omega arith) e))
    (eq-or-lt_of_le l)

-- the test of a pair
pub test-breaks : (ts : List ℕ) (p : Pair) (i : ℕ) → breaks ts p i ≡ true → Breaks ts p i
test-breaks ts p i e =
    let (named, rest) = and_both (eqb (name_at ts i) p.second) (not (earlier ts i p.first)) e in
    record {
      named = eqb-true (name_at ts i) p.second named;
      without = λ j l n. true≢false (sym (at-earlier ts i p.first j l n) ∙ not-true (earlier ts i p.first) rest);
    }

pub breaks-test : (ts : List ℕ) (p : Pair) (i : ℕ) → Breaks ts p i → breaks ts p i ≡ true
breaks-test ts p i b =
    let none : earlier ts i p.first ≡ false =
    untrue (earlier ts i p.first) (λ e. let (j, l, n) = earlier-at ts i p.first e in b.without j l n) in
    rw (eq-eqb (name_at ts i) p.second b.named, none)

-- the test of a list of pairs
pub some-breaks : (ts : List ℕ) (ps : List Pair) (i : ℕ) → breaks_some ts ps i ≡ true → (p : Pair) × Among p ps × Breaks ts p i
some-breaks ts [] i e = absurd (true≢false (sym e))
some-breaks ts (p ∷ ps) i e =
    ⊎_elim
    (λ (q : breaks ts p i ≡ true). (p, inl refl, test-breaks ts p i q))
    (λ (q : breaks_some ts ps i ≡ true). let (r, a, b) = some-breaks ts ps i q in (r, inr a, b))
    (or-true (breaks ts p i) (breaks_some ts ps i) e)

pub breaks-some : (ts : List ℕ) (ps : List Pair) (i : ℕ) (p : Pair) → Among p ps → Breaks ts p i → breaks_some ts ps i ≡ true
breaks-some ts [] i p a b = absurd a
breaks-some ts (q ∷ ps) i p a b =
    ⊎_elim
    (λ (e : p ≡ q). or-true-left (breaks ts q i) (breaks_some ts ps i) (breaks-test ts q i (rw e at b)))
    (λ (m : Among p ps). or_true_right (breaks ts q i) (breaks_some ts ps i) (breaks-some ts ps i p m b))
    a

-- the first n tokens break no pair
abbrev pub Free : List ℕ → List Pair → ℕ → Type 0
Free ts ps n = (j : ℕ) → j < n → breaks_some ts ps j ≡ false

-- the verdict on n tokens from token i on: none breaks a pair, or token r is the first that does
first-kept : (ts : List ℕ) (ps : List Pair) (n i : ℕ) → ((j : ℕ) → i ≤ j → j < i + n → breaks_some ts ps j ≡ false)
    → first_from ts ps n i ≡ Kept (i + n)
first-kept ts ps zero i f = rw (add-zero i)
first-kept ts ps (suc n) i f =
    let e : i + suc n ≡ suc i + n = omega arith in
    rw (f i (omega arith) (omega arith), e) (first-kept ts ps n (suc i) (λ j l h. f j (omega arith) (omega arith)))

first-broken : (ts : List ℕ) (ps : List Pair) (n i r : ℕ) → i ≤ r → r < i + n → ((j : ℕ) → i ≤ j → j < r → breaks_some ts ps j ≡ false)
    → breaks_some ts ps r ≡ true → first_from ts ps n i ≡ Broken r
first-broken ts ps zero i r l h f b = absurd (omega arith)
first-broken ts ps (suc n) i r l h f b =
    ⊎_elim
    (λ (q : i ≡ r). rw (q, b))
    (λ (q : i < r). rw (f i (omega arith) q) (first-broken ts ps n (suc i) r q (omega arith) (λ j m k. f j (omega arith) k) b))
    (eq-or-lt_of_le l)

pub none-broken : (ts : List ℕ) (ps : List Pair) (n : ℕ) → Free ts ps n → first_from ts ps n 0 ≡ Kept n
none-broken ts ps n f = first-kept ts ps n 0 (λ j l h. f j (omega arith)) ∙ ap Kept (zero-add n)

pub one-broken : (ts : List ℕ) (ps : List Pair) (n r : ℕ) → r < n → Free ts ps r → breaks_some ts ps r ≡ true → first_from ts ps n 0 ≡ Broken r
one-broken ts ps n r l f b = first-broken ts ps n 0 r (omega arith) (omega arith) (λ j m h. f j h) b
