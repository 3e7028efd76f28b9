-- The decision of Seq and of Star on the first e bytes of a line u, from the decisions of their parts on shorter parts: some cut behind c
-- bytes, for a Star with c at least 1 (document 01, "The relation").
-- Assumes nothing.
use Prim.Native.Nat.{ℕ, zero, suc, ◌+◌, ◌-◌, ◌≤◌, ◌<◌}
use native.Mathlib.Nat.{add-sub_of_le, sub-zero}
use native.Mathlib.Omega.{arith}
use mathlib.Core.Path.{◌≡◌, refl, sym, ap, ◌∙◌}
use mathlib.Core.Logic.{⊎_elim}
use mathlib.Core.Bool.{Bool, true, ◌&&◌, ◌||◌}
use mathlib.Core.List.{List, [], ◌∷◌, ◌++◌, append_assoc, append-nil}
use lib.ListN.{length, take, drop, length-append}
use lib.Seq.{length-take-le, take-take, take-append_seam, take-add, drop-append_seam, drop-drop}
use Rattle.posix.specs.Expressions.{Exp, seq, star}
use Rattle.posix.specs.Language.{Parts, Iterated, no_more, one_more, L}
use Rattle.posix.specs.Spells.{spells}
use Rattle.posix.proofs.Languages.{parts-map, iterated-map, iterated-head}
use Rattle.posix.proofs.Spells.{either, each, or-second, spells-sound, spells-complete}
use Rattle.rows.specs.Cuts.{some, cut_at}
use Rattle.rows.proofs.Cuts.{same_truth, some-found, some_holds, cut-true, cut_holds}

-- the expression spells the first c bytes of u, and the e bytes behind these
abbrev pub starts : Exp → List ℕ → ℕ → Bool
starts r u c = spells r (take c u)

abbrev pub rests : Exp → List ℕ → ℕ → ℕ → Bool
rests r u c e = spells r (take e (drop c u))

-- the first e bytes of u, cut behind c bytes
pub take-cut : (u : List ℕ) (c e : ℕ) → c ≤ e → take e u ≡ take c u ++ take (e - c) (drop c u)
take-cut u c e l = ap (λ (x : ℕ). take x u) (sym (add-sub_of_le l)) ∙ take-add c (e - c) u

-- two parts that make up the first e bytes of u are its parts behind as many bytes as the first has
record Sides (s1 s2 u : List ℕ) (e : ℕ) : Type 0 where
  within : length s1 ≤ e
  first : take (length s1) u ≡ s1
  second : take (e - length s1) (drop (length s1) u) ≡ s2

sides : (s1 s2 u : List ℕ) (e : ℕ) → e ≤ length u → take e u ≡ s1 ++ s2 → Sides s1 s2 u e
sides s1 s2 u e l h =
    let sum : length s1 + length s2 ≡ e = sym (length-append s1 s2) ∙ ap length (sym h) ∙ length-take-le e u l in
    let le : length s1 ≤ e = omega arith in
    let one : take (length s1) u ≡ s1 = sym (take-take (length s1) e u le) ∙ ap (take (length s1)) h ∙ take-append_seam s1 s2 in
    let cut : take e u ≡ s1 ++ take (e - length s1) (drop (length s1) u) =
    take-cut u (length s1) e le ∙ ap (λ (x : List ℕ). x ++ take (e - length s1) (drop (length s1) u)) one in
    record {
      within = le;
      first = one;
      second =
          sym (drop-append_seam s1 (take (e - length s1) (drop (length s1) u))) ∙ ap (drop (length s1)) (sym cut ∙ h)
          ∙ drop-append_seam s1 s2;
    }

module _ (r1 r2 : Exp) (u : List ℕ) (e : ℕ) (l : e ≤ length u) where
  -- a cut of u's first e bytes into a part of L(r1) and one of L(r2)
  cut-of-parts : (low : ℕ) (s1 s2 : List ℕ) → take e u ≡ s1 ++ s2 → low ≤ length s1 → L r1 s1 → L r2 s2
      → some (cut_at (starts r1 u) (rests r2 u) low e) (suc e) ≡ true
  cut-of-parts low s1 s2 h low-le a b =
      let p = sides s1 s2 u e l h in
      let le : length s1 ≤ e = p.within in
      some_holds (cut_at (starts r1 u) (rests r2 u) low e) (suc e) (length s1) (omega arith)
      (cut_holds (starts r1 u) (rests r2 u) low e (length s1) low-le le
      (rw p.first (spells-complete r1 s1 a))
      (rw p.second (spells-complete r2 s2 b)))

  -- the parts of a cut
  parts-of-cut : (low : ℕ) → some (cut_at (starts r1 u) (rests r2 u) low e) (suc e) ≡ true → Parts (L r1) (L r2) (take e u)
  parts-of-cut low h =
      let f = some-found (cut_at (starts r1 u) (rests r2 u) low e) (suc e) h in
      let c = f.0 in
      let p = cut-true (starts r1 u) (rests r2 u) low e c f.2 in
      record {
        s1 = take c u;
        s2 = take (e - c) (drop c u);
        joined = take-cut u c e p.1;
        first = spells-sound r1 (take c u) p.2;
        second = spells-sound r2 (take (e - c) (drop c u)) p.3;
      }

pub seq-cuts : (r1 r2 : Exp) (u : List ℕ) (e : ℕ) → e ≤ length u
    → spells (seq r1 r2) (take e u) ≡ some (cut_at (starts r1 u) (rests r2 u) 0 e) (suc e)
seq-cuts r1 r2 u e l =
    same_truth (spells (seq r1 r2) (take e u)) _
    (λ h. let p : Parts (L r1) (L r2) (take e u) = spells-sound (seq r1 r2) (take e u) h in
    cut-of-parts r1 r2 u e l 0 p.s1 p.s2 p.joined (omega arith) p.first p.second)
    (λ h. spells-complete (seq r1 r2) (take e u) (parts-of-cut r1 r2 u e l 0 h))

-- a star spells the empty line
pub star-empty : (r : Exp) (u : List ℕ) → spells (star r) (take 0 u) ≡ true
star-empty r u = refl

star-head : (r : Exp) (u : List ℕ) (e : ℕ) → 1 ≤ e → e ≤ length u → L (star r) (take e u)
    → some (cut_at (starts r u) (rests (star r) u) 1 e) (suc e) ≡ true
star-head r [] e one l i = absurd (omega arith)
star-head r (x ∷ u) zero one l i = absurd (omega arith)
star-head r (x ∷ u) (suc e) one l i =
    let p : Parts (λ t. L r (x ∷ t)) (Iterated (L r)) (take e u) = iterated-head i refl in
    cut-of-parts r (star r) (x ∷ u) (suc e) l 1 (x ∷ p.s1) p.s2 (ap (λ (t : List ℕ). x ∷ t) p.joined) (omega arith) p.first p.second

pub star-cuts : (r : Exp) (u : List ℕ) (e : ℕ) → 1 ≤ e → e ≤ length u
    → spells (star r) (take e u) ≡ some (cut_at (starts r u) (rests (star r) u) 1 e) (suc e)
star-cuts r u e one l =
    same_truth (spells (star r) (take e u)) _
    (λ h. star-head r u e one l (spells-sound (star r) (take e u) h))
    (λ h. let p : Parts (L r) (L (star r)) (take e u) = parts-of-cut r (star r) u e l 1 h in
    spells-complete (star r) (take e u) (one_more p.s1 p.s2 p.joined p.first p.second))

iterated-append : {A : List ℕ → Type 0} {s t : List ℕ} → Iterated A s → Iterated A t → Iterated A (s ++ t)
iterated-append {A} {s} {t} (no_more e) j = rw e j
iterated-append {A} {s} {t} (one_more s1 s2 e a i) j =
    one_more s1 (s2 ++ t) (ap (λ (x : List ℕ). x ++ t) e ∙ append_assoc s1 s2 t) a (iterated-append i j)

iterated-flat : {A : List ℕ → Type 0} {s : List ℕ} → Iterated (Iterated A) s → Iterated A s
iterated-flat (no_more e) = no_more e
iterated-flat (one_more s1 s2 e a i) = rw e (iterated-append a (iterated-flat i))

-- a star of a star spells the lines of that star
pub star-twice : (r : Exp) (s : List ℕ) → spells (star (star r)) s ≡ spells (star r) s
star-twice r s =
    same_truth (spells (star (star r)) s) (spells (star r) s)
    (λ h. spells-complete (star r) s (iterated-flat (spells-sound (star (star r)) s h)))
    (λ h.
    spells-complete (star (star r)) s
    (one_more s [] (sym (append-nil s)) (spells-sound (star r) s h) (no_more refl)))

-- stars of expressions that spell the same lines, and Seqs whose first sides do
pub star-same : (r r' : Exp) → ((s : List ℕ) → spells r s ≡ spells r' s) → (s : List ℕ) → spells (star r) s ≡ spells (star r') s
star-same r r' h s =
    same_truth (spells (star r) s) (spells (star r') s)
    (λ t. spells-complete (star r') s (iterated-map (λ u x. spells-sound r' u (sym (h u) ∙ spells-complete r u x)) (spells-sound (star r) s t)))
    (λ t. spells-complete (star r) s (iterated-map (λ u x. spells-sound r u (h u ∙ spells-complete r' u x)) (spells-sound (star r') s t)))

pub seq-same : (r r' r2 : Exp) → ((s : List ℕ) → spells r s ≡ spells r' s) → (s : List ℕ) → spells (seq r r2) s ≡ spells (seq r' r2) s
seq-same r r' r2 h s =
    same_truth (spells (seq r r2) s) (spells (seq r' r2) s)
    (λ t.
    spells-complete (seq r' r2) s
    (parts-map (λ u x. spells-sound r' u (sym (h u) ∙ spells-complete r u x)) (λ u x. x) (spells-sound (seq r r2) s t)))
    (λ t.
    spells-complete (seq r r2) s
    (parts-map (λ u x. spells-sound r u (h u ∙ spells-complete r' u x)) (λ u x. x) (spells-sound (seq r' r2) s t)))

-- two parts that a star spells, one behind the other, are one that it spells
pub star-chained : (r : Exp) (u : List ℕ) (a c e : ℕ) → a ≤ c → c ≤ e → rests (star r) u a (c - a) ≡ true → rests (star r) u c (e - c) ≡ true
    → rests (star r) u a (e - a) ≡ true
star-chained r u a c e l h x y =
    let place : a + (c - a) ≡ c = omega arith in
    let left : e - a - (c - a) ≡ e - c = omega arith in
    let behind : drop (c - a) (drop a u) ≡ drop c u = drop-drop (c - a) a u ∙ ap (λ (i : ℕ). drop i u) place in
    let cut : take (e - a) (drop a u) ≡ take (c - a) (drop a u) ++ take (e - c) (drop c u) =
    rw (left, behind) at (take-cut (drop a u) (c - a) (e - a) (omega arith)) in
    spells-complete (star r) (take (e - a) (drop a u))
    (rw cut
    (iterated-append (spells-sound (star r) (take (c - a) (drop a u)) x) (spells-sound (star r) (take (e - c) (drop c u)) y)))

-- the cut in front of the first byte apart from the others
pub cut-zero : (A : ℕ → Bool) (B : ℕ → ℕ → Bool) (e n : ℕ) → 1 ≤ n
    → some (cut_at A B 0 e) n ≡ ((A 0 && B 0 e) || some (cut_at A B 1 e) n)
cut-zero A B e n l = same_truth _ _ apart together
  where
    apart : some (cut_at A B 0 e) n ≡ true → ((A 0 && B 0 e) || some (cut_at A B 1 e) n) ≡ true
    apart h = go f.0 f.1 (cut-true A B 0 e f.0 f.2)
      where
        f : (c : ℕ) × (c < n) × (cut_at A B 0 e c ≡ true)
        f = some-found (cut_at A B 0 e) n h

        go : (c : ℕ) → c < n → (0 ≤ c) × (c ≤ e) × (A c ≡ true) × (B c (e - c) ≡ true)
            → ((A 0 && B 0 e) || some (cut_at A B 1 e) n) ≡ true
        go zero i p = let z : B 0 e ≡ true = rw (sub-zero e) at p.3 in rw (p.2, z)
        go (suc c) i p =
            or-second (A 0 && B 0 e)
            (some_holds (cut_at A B 1 e) n (suc c) i (cut_holds A B 1 e (suc c) (omega arith) p.1 p.2 p.3))

    together : ((A 0 && B 0 e) || some (cut_at A B 1 e) n) ≡ true → some (cut_at A B 0 e) n ≡ true
    together h =
        ⊎_elim
        (λ (x : (A 0 && B 0 e) ≡ true).
        let p = each (A 0) (B 0 e) x in
        some_holds (cut_at A B 0 e) n 0 (omega arith) (cut_holds A B 0 e 0 (omega arith) (omega arith) p.0 (rw (sub-zero e) p.1)))
        (λ (x : some (cut_at A B 1 e) n ≡ true).
        let f = some-found (cut_at A B 1 e) n x in
        let p = cut-true A B 1 e f.0 f.2 in
        some_holds (cut_at A B 0 e) n f.0 f.1 (cut_holds A B 0 e f.0 (omega arith) p.1 p.2 p.3))
        (either (A 0 && B 0 e) (some (cut_at A B 1 e) n) h)

-- a Seq by the empty first part and the others
pub seq-cuts-apart : (r1 r2 : Exp) (u : List ℕ) (e : ℕ) → e ≤ length u
    → spells (seq r1 r2) (take e u) ≡ ((spells r1 [] && spells r2 (take e u)) || some (cut_at (starts r1 u) (rests r2 u) 1 e) (suc e))
seq-cuts-apart r1 r2 u e l = seq-cuts r1 r2 u e l ∙ cut-zero (starts r1 u) (rests r2 u) e (suc e) (omega arith)

-- a Seq of a Star: no iteration, or a first one of at least one byte and the same Seq behind it
seq-of-star-head : (r r2 : Exp) (u : List ℕ) (e : ℕ) → e ≤ length u → (s1 s2 : List ℕ) → take e u ≡ s1 ++ s2 → L (star r) s1 → L r2 s2
    → (spells r2 (take e u) || some (cut_at (starts r u) (rests (seq (star r) r2) u) 1 e) (suc e)) ≡ true
seq-of-star-head r r2 u e l [] s2 h i b = rw (spells-complete r2 (take e u) (rw h b))
seq-of-star-head r r2 u e l (x ∷ s1) s2 h i b =
    let p : Parts (λ t. L r (x ∷ t)) (Iterated (L r)) s1 = iterated-head i refl in
    or-second (spells r2 (take e u))
    (cut-of-parts r (seq (star r) r2) u e l 1 (x ∷ p.s1) (p.s2 ++ s2)
    (h ∙ ap (λ (t : List ℕ). x ∷ (t ++ s2)) p.joined ∙ ap (λ (t : List ℕ). x ∷ t) (append_assoc p.s1 p.s2 s2))
    (omega arith)
    p.first
    (record { s1 = p.s2; s2 = s2; joined = refl; first = p.second; second = b }))

pub seq-of-star-cuts : (r r2 : Exp) (u : List ℕ) (e : ℕ) → e ≤ length u
    → spells (seq (star r) r2) (take e u) ≡ (spells r2 (take e u) || some (cut_at (starts r u) (rests (seq (star r) r2) u) 1 e) (suc e))
seq-of-star-cuts r r2 u e l = same_truth _ _ apart together
  where
    apart : spells (seq (star r) r2) (take e u) ≡ true
        → (spells r2 (take e u) || some (cut_at (starts r u) (rests (seq (star r) r2) u) 1 e) (suc e)) ≡ true
    apart h =
        let p : Parts (L (star r)) (L r2) (take e u) = spells-sound (seq (star r) r2) (take e u) h in
        seq-of-star-head r r2 u e l p.s1 p.s2 p.joined p.first p.second

    together : (spells r2 (take e u) || some (cut_at (starts r u) (rests (seq (star r) r2) u) 1 e) (suc e)) ≡ true
        → spells (seq (star r) r2) (take e u) ≡ true
    together h =
        ⊎_elim
        (λ (x : spells r2 (take e u) ≡ true).
        spells-complete (seq (star r) r2) (take e u)
        (record { s1 = []; s2 = take e u; joined = refl; first = no_more refl; second = spells-sound r2 (take e u) x }))
        (λ (x : some (cut_at (starts r u) (rests (seq (star r) r2) u) 1 e) (suc e) ≡ true).
        let p : Parts (L r) (L (seq (star r) r2)) (take e u) = parts-of-cut r (seq (star r) r2) u e l 1 x in
        let q : Parts (L (star r)) (L r2) p.s2 = p.second in
        spells-complete (seq (star r) r2) (take e u)
        (record {
          s1 = p.s1 ++ q.s1;
          s2 = q.s2;
          joined = p.joined ∙ ap (λ (t : List ℕ). p.s1 ++ t) q.joined ∙ sym (append_assoc p.s1 q.s1 q.s2);
          first = one_more p.s1 q.s1 refl p.first q.first;
          second = q.second;
        }))
        (either (spells r2 (take e u)) _ h)
