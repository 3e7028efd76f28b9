-- The decision spells is true exactly on the language L (document 01, "The relation": "L(k) is the set of lines that k spells").
-- Assumes nothing.
use Prim.Native.Nat.{ℕ, zero, suc, ◌≤◌}
use native.Mathlib.Nat.{le_refl}
use native.Mathlib.Omega.{arith}
use mathlib.Core.Path.{◌≡◌, refl, sym, ap, ◌∙◌}
use mathlib.Core.Bool.{Bool, true, false, ◌&&◌, ◌||◌, true≢false}
use mathlib.Core.List.{List, [], ◌∷◌, ◌++◌}
use mathlib.Core.Logic.{◌⊎◌, inl, inr, ⊎_map}
use lib.ListN.{length}
use Rattle.posix.specs.Expressions.{Exp, nothing, empty, letter, or, seq, star}
use Rattle.posix.specs.Language.{Parts, Iterated, no_more, one_more, L}
use Rattle.posix.specs.Spells.{some_cut, some_cuts, spells}
use Rattle.posix.proofs.Lists.{rest-length}
use Rattle.posix.proofs.Languages.{parts-map, iterated-map, iterated-head}

-- a disjunction that is true has a part that is true
pub either : (a b : Bool) → (a || b) ≡ true → (a ≡ true) ⊎ (b ≡ true)
either true b h = inl refl
either false b h = inr h

-- a conjunction that is true has both parts true
pub each : (a b : Bool) → (a && b) ≡ true → (a ≡ true) × (b ≡ true)
each true b h = (refl, h)
each false b h = absurd (true≢false (sym h))

-- a disjunction with a true second part is true
pub or-second : (a : Bool) {b : Bool} → b ≡ true → (a || b) ≡ true
or-second true h = refl
or-second false h = h

-- some_cut finds only cuts of the line
pub some_cut-sound : (A B : List ℕ → Bool) (s : List ℕ) → some_cut A B s ≡ true → Parts (λ t. A t ≡ true) (λ t. B t ≡ true) s
some_cut-sound A B [] h =
    let p = each (A []) (B []) h in
    record { s1 = []; s2 = []; joined = refl; first = p.0; second = p.1 }
some_cut-sound A B (c ∷ s) h = go (some_cut-sound (λ t. A (c ∷ t)) B s) (either (some_cut (λ t. A (c ∷ t)) B s) (A [] && B (c ∷ s)) h)
  where
    go :
        (some_cut (λ t. A (c ∷ t)) B s ≡ true → Parts (λ t. A (c ∷ t) ≡ true) (λ t. B t ≡ true) s)
        → (some_cut (λ t. A (c ∷ t)) B s ≡ true) ⊎ ((A [] && B (c ∷ s)) ≡ true)
        → Parts (λ t. A t ≡ true) (λ t. B t ≡ true) (c ∷ s)
    go f (inl l) =
        let p = f l in
        record { s1 = c ∷ p.s1; s2 = p.s2; joined = ap (λ (t : List ℕ). c ∷ t) p.joined; first = p.first; second = p.second }
    go f (inr r) =
        let p = each (A []) (B (c ∷ s)) r in
        record { s1 = []; s2 = c ∷ s; joined = refl; first = p.0; second = p.1 }

-- some_cut finds the cut s1, s2 of the line
pub some_cut-joined : (A B : List ℕ → Bool) (s1 s2 : List ℕ) → A s1 ≡ true → B s2 ≡ true → some_cut A B (s1 ++ s2) ≡ true
some_cut-joined A B [] [] a b = rw (a, b)
some_cut-joined A B [] (c ∷ s) a b = or-second (some_cut (λ t. A (c ∷ t)) B s) (rw (a, b))
some_cut-joined A B (c ∷ s1) s2 a b = rw (some_cut-joined (λ t. A (c ∷ t)) B s1 s2 a b)

-- some_cut finds every cut of the line
pub some_cut-complete : (A B : List ℕ → Bool) (s : List ℕ) → Parts (λ t. A t ≡ true) (λ t. B t ≡ true) s → some_cut A B s ≡ true
some_cut-complete A B s p = rw p.joined (some_cut-joined A B p.s1 p.s2 p.first p.second)

-- some_cuts finds only rows of parts
pub some_cuts-sound : (n : ℕ) (A : List ℕ → Bool) (s : List ℕ) → some_cuts n A s ≡ true → Iterated (λ t. A t ≡ true) s
some_cuts-sound zero A [] h = no_more refl
some_cuts-sound zero A (c ∷ s) h = absurd (true≢false (sym h))
some_cuts-sound (suc n) A [] h = no_more refl
some_cuts-sound (suc n) A (c ∷ s) h =
    let p = some_cut-sound (λ t. A (c ∷ t)) (some_cuts n A) s h in
    one_more (c ∷ p.s1) p.s2 (ap (λ (t : List ℕ). c ∷ t) p.joined) p.first (some_cuts-sound n A p.s2 p.second)

-- some_cuts finds every row of parts, where the number is not below the line's length
pub some_cuts-complete :
    (n : ℕ) (A : List ℕ → Bool) (s : List ℕ) → length s ≤ n → Iterated (λ t. A t ≡ true) s → some_cuts n A s ≡ true
some_cuts-complete zero A [] l i = refl
some_cuts-complete zero A (c ∷ s) l i = absurd (omega arith)
some_cuts-complete (suc n) A [] l i = refl
some_cuts-complete (suc n) A (c ∷ s) l i =
    let p : Parts (λ t. A (c ∷ t) ≡ true) (Iterated (λ t. A t ≡ true)) s = iterated-head i refl in
    let le : length p.s2 ≤ n = omega (arith, rest-length p.s1 p.s2 p.joined) in
    some_cut-complete (λ t. A (c ∷ t)) (some_cuts n A) s
    (record { s1 = p.s1; s2 = p.s2; joined = p.joined; first = p.first; second = some_cuts-complete n A p.s2 le p.second })

-- where the decision is true the line is in L
pub spells-sound : (r : Exp) (s : List ℕ) → spells r s ≡ true → L r s
spells-sound nothing s h = absurd (true≢false (sym h))
spells-sound empty [] h = refl
spells-sound empty (c ∷ s) h = absurd (true≢false (sym h))
spells-sound (letter b) [] h = absurd (true≢false (sym h))
spells-sound (letter b) (c ∷ []) h = (c, h, refl)
spells-sound (letter b) (c ∷ (d ∷ s)) h = absurd (true≢false (sym h))
spells-sound (or r1 r2) s h = ⊎_map (spells-sound r1 s) (spells-sound r2 s) (either (spells r1 s) (spells r2 s) h)
spells-sound (seq r1 r2) s h = parts-map (spells-sound r1) (spells-sound r2) (some_cut-sound (spells r1) (spells r2) s h)
spells-sound (star r) s h = iterated-map (spells-sound r) (some_cuts-sound (length s) (spells r) s h)

-- on a line of L the decision is true
pub spells-complete : (r : Exp) (s : List ℕ) → L r s → spells r s ≡ true
spells-complete nothing s h = absurd h
spells-complete empty s h = rw h
spells-complete (letter b) s h = rw h.2 h.1
spells-complete (or r1 r2) s (inl h) = rw (spells-complete r1 s h)
spells-complete (or r1 r2) s (inr h) = or-second (spells r1 s) (spells-complete r2 s h)
spells-complete (seq r1 r2) s h = some_cut-complete (spells r1) (spells r2) s (parts-map (spells-complete r1) (spells-complete r2) h)
spells-complete (star r) s h = some_cuts-complete (length s) (spells r) s (le_refl (length s)) (iterated-map (spells-complete r) h)

-- L is decided
pub L-decided : (r : Exp) (s : List ℕ) → Dec (L r s)
L-decided r s = go (spells r s) refl
  where
    go : (b : Bool) → spells r s ≡ b → Dec (L r s)
    go true e = yes (spells-sound r s e)
    go false e = no (λ h. true≢false (sym (spells-complete r s h) ∙ e))

-- outside L the decision is false
pub spells-false : (r : Exp) (s : List ℕ) → ¬ (L r s) → spells r s ≡ false
spells-false r s n = go (spells r s) (λ e. n (spells-sound r s e))
  where
    go : (b : Bool) → ¬ (b ≡ true) → b ≡ false
    go true h = absurd (h refl)
    go false h = refl
