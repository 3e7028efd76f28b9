-- A line that an expression spells starts and ends with a byte of which `edge` is true.
-- Assumes nothing.
use Prim.Native.Nat.{ℕ, ◌-◌, ◌≤◌}
use native.Mathlib.Omega.{arith}
use mathlib.Core.Path.{◌≡◌, refl, sym, ap, ◌∙◌}
use mathlib.Core.Logic.{inl, inr}
use mathlib.Core.Bool.{Bool, true, false, true≢false}
use mathlib.Core.List.{List, [], ◌∷◌, ◌++◌, append-nil}
use lib.ListN.{length, get_or}
use Rattle.posix.specs.Expressions.{Exp, nothing, empty, letter, or, seq, star}
use Rattle.posix.specs.Language.{Parts, Iterated, no_more, one_more, L}
use Rattle.posix.specs.Spells.{spells}
use Rattle.posix.proofs.Lists.{cons-not-nil}
use Rattle.posix.proofs.Languages.{iterated-head}
use Rattle.posix.proofs.Spells.{or-second, spells-sound, spells-complete}
use Rattle.edges.specs.Edges.{edge_of_seq, edge}

-- a Seq's edge by one of its sides
near-side : (f e g : Bool) → f ≡ true → edge_of_seq f e g ≡ true
near-side f e g h = rw h

far-side : (f e g : Bool) → e ≡ true → g ≡ true → edge_of_seq f e g ≡ true
far-side f e g h i = or-second f (rw (h, i))

-- the start of a line of L
first-in : (r : Exp) (c : ℕ) (s u : List ℕ) → L r u → u ≡ c ∷ s → edge false r c ≡ true
first-in nothing c s u l e = absurd l
first-in empty c s u l e = absurd (cons-not-nil (sym e ∙ l))
first-in (letter b) c s u l e =
    let same : l.0 ≡ c = cc l.2 in
    rw same at l.1
first-in (or r1 r2) c s u (inl l) e = rw (first-in r1 c s u l e)
first-in (or r1 r2) c s u (inr l) e = or-second (edge false r1 c) (first-in r2 c s u l e)
first-in (seq r1 r2) c s u l e = go l.s1 l.first l.joined (first-in r1 c) (first-in r2 c s l.s2 l.second)
  where
    go :
        (s1 : List ℕ) → L r1 s1 → u ≡ s1 ++ l.s2 → ((t v : List ℕ) → L r1 v → v ≡ c ∷ t → edge false r1 c ≡ true)
        → (l.s2 ≡ c ∷ s → edge false r2 c ≡ true)
        → edge false (seq r1 r2) c ≡ true
    go [] a j f g = far-side (edge false r1 c) (spells r1 []) (edge false r2 c) (spells-complete r1 [] a) (g (sym j ∙ e))
    go (d ∷ t) a j f g = near-side (edge false r1 c) (spells r1 []) (edge false r2 c) (f t (d ∷ t) a (cc))
first-in (star r) c s u l e =
    let p : Parts (λ t. L r (c ∷ t)) (Iterated (L r)) s = iterated-head l e in
    first-in r c p.s1 (c ∷ p.s1) p.first refl

pub first-needed : (r : Exp) (c : ℕ) (s : List ℕ) → spells r (c ∷ s) ≡ true → edge false r c ≡ true
first-needed r c s h = first-in r c s (c ∷ s) (spells-sound r (c ∷ s) h) refl

-- a line that ends with c, cut in two: its second part, if it has a byte, ends with c
tail-end : (c d : ℕ) (s1 s2 s : List ℕ) → s1 ++ (d ∷ s2) ≡ s ++ (c ∷ []) → (t : List ℕ) × (d ∷ s2 ≡ t ++ (c ∷ []))
tail-end c d [] s2 s e = (s, e)
tail-end c d (x ∷ []) s2 [] e = absurd (let z : d ∷ s2 ≡ [] = cc in cons-not-nil z)
tail-end c d (x ∷ (y ∷ s1)) s2 [] e = absurd (let z : y ∷ (s1 ++ (d ∷ s2)) ≡ [] = cc in cons-not-nil z)
tail-end c d (x ∷ s1) s2 (y ∷ s) e = tail-end c d s1 s2 s (cc)

-- a line with a last byte is not empty
end-not-nil : (c : ℕ) (s : List ℕ) → ¬ (s ++ (c ∷ []) ≡ [])
end-not-nil c [] e = cons-not-nil e
end-not-nil c (d ∷ s) e = cons-not-nil e

-- a line of one byte ends with it
end-of-one : (c d : ℕ) (s : List ℕ) → d ∷ [] ≡ s ++ (c ∷ []) → d ≡ c
end-of-one c d [] e = cc
end-of-one c d (x ∷ s) e = absurd (let z : [] ≡ s ++ (c ∷ []) = cc in end-not-nil c s (sym z))

-- a row of parts that ends with c has a part that ends with c
iterated-end : {A : List ℕ → Type 0} {u : List ℕ} (c : ℕ) (s : List ℕ) → Iterated A u → u ≡ s ++ (c ∷ []) → (t : List ℕ) × A (t ++ (c ∷ []))
iterated-end c s (no_more e) h = absurd (end-not-nil c s (sym h ∙ e))
iterated-end c s (one_more s1 [] e a i) h =
    let same : s1 ≡ s ++ (c ∷ []) = sym (append-nil s1) ∙ sym e ∙ h in
    (s, rw same at a)
iterated-end c s (one_more s1 (d ∷ s2) e a i) h =
    let p = tail-end c d s1 s2 s (sym e ∙ h) in
    iterated-end c p.0 i p.1

-- the end of a line of L
last-in : (r : Exp) (c : ℕ) (s u : List ℕ) → L r u → u ≡ s ++ (c ∷ []) → edge true r c ≡ true
last-in nothing c s u l e = absurd l
last-in empty c s u l e = absurd (end-not-nil c s (sym e ∙ l))
last-in (letter b) c s u l e =
    let same : l.0 ≡ c = end-of-one c l.0 s (sym l.2 ∙ e) in
    rw same at l.1
last-in (or r1 r2) c s u (inl l) e = rw (last-in r1 c s u l e)
last-in (or r1 r2) c s u (inr l) e = or-second (edge true r1 c) (last-in r2 c s u l e)
last-in (seq r1 r2) c s u l e = go l.s2 l.second l.joined (last-in r1 c s l.s1 l.first) (last-in r2 c)
  where
    go :
        (s2 : List ℕ) → L r2 s2 → u ≡ l.s1 ++ s2 → (l.s1 ≡ s ++ (c ∷ []) → edge true r1 c ≡ true)
        → ((t v : List ℕ) → L r2 v → v ≡ t ++ (c ∷ []) → edge true r2 c ≡ true)
        → edge true (seq r1 r2) c ≡ true
    go [] b j f g =
        far-side (edge true r2 c) (spells r2 []) (edge true r1 c) (spells-complete r2 [] b) (f (sym (append-nil l.s1) ∙ sym j ∙ e))
    go (d ∷ t) b j f g =
        let p = tail-end c d l.s1 t s (sym j ∙ e) in
        near-side (edge true r2 c) (spells r2 []) (edge true r1 c) (g p.0 (d ∷ t) b p.1)
last-in (star r) c s u l e =
    let p = iterated-end c s l e in
    last-in r c p.0 (p.0 ++ (c ∷ [])) p.1 refl

pub last-needed : (r : Exp) (c : ℕ) (s : List ℕ) → spells r (s ++ (c ∷ [])) ≡ true → edge true r c ≡ true
last-needed r c s h = last-in r c s (s ++ (c ∷ [])) (spells-sound r (s ++ (c ∷ [])) h) refl

-- what is not true is false
not-spelled : (x y : Bool) → (x ≡ true → y ≡ true) → y ≡ false → x ≡ false
not-spelled true y f e = absurd (true≢false (sym (f refl) ∙ e))
not-spelled false y f e = refl

-- no line with a first byte that the expression does not start with is spelled
pub first-missing : (r : Exp) (s : List ℕ) → 1 ≤ length s → edge false r (get_or s 0 0) ≡ false → spells r s ≡ false
first-missing r [] l e = absurd (omega arith)
first-missing r (c ∷ s) l e = not-spelled (spells r (c ∷ s)) (edge false r c) (first-needed r c s) e

-- a line is what stands before its last byte, and this byte
last-cut : (c : ℕ) (s : List ℕ) → (t : List ℕ) × (c ∷ s ≡ t ++ (get_or (c ∷ s) (length s) 0 ∷ []))
last-cut c [] = ([], refl)
last-cut c (d ∷ s) =
    let p = last-cut d s in
    (c ∷ p.0, ap (λ (v : List ℕ). c ∷ v) p.1)

last-missing-at :
    (r : Exp) (s : List ℕ) (i : ℕ) → 1 ≤ length s → i ≡ length s - 1 → edge true r (get_or s i 0) ≡ false → spells r s ≡ false
last-missing-at r [] i l h e = absurd (omega arith)
last-missing-at r (c ∷ s) i l h e =
    let same : i ≡ length s = omega arith in
    let p = last-cut c s in
    let no : edge true r (get_or (c ∷ s) (length s) 0) ≡ false = rw same at e in
    not-spelled (spells r (c ∷ s)) (edge true r (get_or (c ∷ s) (length s) 0))
    (λ (y : spells r (c ∷ s) ≡ true). last-in r (get_or (c ∷ s) (length s) 0) p.0 (c ∷ s) (spells-sound r (c ∷ s) y) p.1) no

-- no line with a last byte that the expression does not end with is spelled
pub last-missing : (r : Exp) (s : List ℕ) → 1 ≤ length s → edge true r (get_or s (length s - 1) 0) ≡ false → spells r s ≡ false
last-missing r s l e = last-missing-at r s (length s - 1) l refl e
