-- Laws on 001's A @ B and A*, for the languages of document 01, "The relation", and for the executable decision.
-- Assumes nothing.
use Prim.Native.Nat.{ℕ}
use mathlib.Core.Path.{◌≡◌, sym, ◌∙◌}
use mathlib.Core.List.{List, [], ◌∷◌}
use Rattle.posix.specs.Language.{Parts, Iterated, no_more, one_more}
use Rattle.posix.proofs.Lists.{cons-not-nil}

-- A @ B grows with A and B
pub parts-map :
    {A A' B B' : List ℕ → Type 0} → ((t : List ℕ) → A t → A' t)
    → ((t : List ℕ) → B t → B' t)
    → {s : List ℕ}
    → Parts A B s
    → Parts A' B' s
parts-map f g p = record { s1 = p.s1; s2 = p.s2; joined = p.joined; first = f _ p.first; second = g _ p.second }

-- A* grows with A
pub iterated-map : {A A' : List ℕ → Type 0} → ((t : List ℕ) → A t → A' t) → {s : List ℕ} → Iterated A s → Iterated A' s
iterated-map f (no_more e) = no_more e
iterated-map f (one_more s1 s2 e a i) = one_more s1 s2 e (f s1 a) (iterated-map f i)

-- a line of A* with the head c is cut behind a part of A with this head: empty iterations are skipped
pub iterated-head :
    {A : List ℕ → Type 0} {c : ℕ} {s u : List ℕ} → Iterated A u → u ≡ c ∷ s → Parts (λ t. A (c ∷ t)) (Iterated A) s
iterated-head (no_more e) h = absurd (cons-not-nil (sym h ∙ e))
iterated-head (one_more [] s2 e a i) h = iterated-head i (cc)
iterated-head {A} {c} (one_more (d ∷ s1) s2 e a i) h =
    let same : d ≡ c = cc in
    record { s1 = s1; s2 = s2; joined = cc; first = rw same at a; second = i }
