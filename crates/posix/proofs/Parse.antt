-- parse finds the POSIX reading of the line, and finds nothing exactly outside L (document 01, "The relation").
-- Assumes nothing.
use Prim.Native.Nat.{ℕ, zero, suc, ◌≤◌}
use native.Mathlib.Nat.{le_refl}
use native.Mathlib.Omega.{arith}
use mathlib.Core.Path.{◌≡◌, refl, sym, ap, ◌∙◌}
use mathlib.Core.Bool.{Bool, true, false, true≢false}
use mathlib.Core.List.{List, [], ◌∷◌, ◌++◌}
use mathlib.Core.Logic.{⊎_elim}
use lib.ListN.{length}
use Rattle.posix.specs.Expressions.{holds, Exp, nothing, empty, letter, or, seq, star}
use Rattle.posix.specs.Values.{Val, left, right, pair, more}
use Rattle.posix.specs.Language.{Parts, L}
use Rattle.posix.specs.Relation.{Longest, Posix, posix_void, posix_byte, posix_left, posix_right, posix-pair, posix_none, posix-more}
use Rattle.posix.specs.Decision.{Parsed, found, missing, under, or_else, both, parse_byte, parse_cut, parse_cuts, parse}
use Rattle.posix.proofs.Lists.{cons-not-nil, start-nil}
use Rattle.posix.proofs.Languages.{iterated-head}

-- an answer seen with what it says: the value has P, or N holds
pub data Told (P : Val → Type 0) (N : Type 0) : Parsed → Type 0 where
  is_found : {v : Val} → P v → Told P N (found v)
  is_missing : N → Told P N missing

-- what a parser of the language A with the readings PA owes for the line: a reading, or that the line is not in A
abbrev pub Answers : (A : List ℕ → Type 0) (PA : List ℕ → Val → Type 0) (s : List ℕ) → Parsed → Type 0
Answers A PA s = Told (PA s) (¬ (A s))

-- the POSIX readings of an expression, as a relation of lines and values
abbrev pub ReadBy : Exp → List ℕ → Val → Type 0
ReadBy r s v = Posix s r v

-- what parse owes for the line
abbrev pub View : (r : Exp) (s : List ℕ) → Parsed → Type 0
View r s = Answers (L r) (ReadBy r) s

-- what parse_cut owes where it finds a value: the cut of the line with the longest first part
pub data Cut (f : Val → Val → Val) (A B : List ℕ → Type 0) (PA PB : List ℕ → Val → Type 0) (s : List ℕ) : Val → Type 0 where
  cut : (s1 s2 : List ℕ) {v w : Val} → s ≡ s1 ++ s2 → PA s1 v → PB s2 w → Longest A B s1 s2 → Cut f A B PA PB s (f v w)

-- what parse_cut owes for the line: such a cut, or that the line is not in A @ B
abbrev pub CutView :
    (f : Val → Val → Val) (A B : List ℕ → Type 0) (PA PB : List ℕ → Val → Type 0) (s : List ℕ) → Parsed → Type 0
CutView f A B PA PB s = Answers (Parts A B) (Cut f A B PA PB) s

-- where neither a longer first part nor the empty one will do, the line is not in A @ B
empty-start :
    (A B : List ℕ → Type 0) (s : List ℕ) → Longest A B [] s → (A [] → B s → ⊥) → ¬ (Parts A B s)
empty-start A B s l n p = go p.s1 p.joined p.first
  where
    go : (t : List ℕ) → s ≡ t ++ p.s2 → A t → ⊥
    go [] e a = n a (rw e p.second)
    go (c ∷ t) e a = l (c ∷ t) p.s2 e cons-not-nil a p.second

module _ (f : Val → Val → Val) (B : List ℕ → Type 0) (PB : List ℕ → Val → Type 0) where
  -- the cut with the empty first part, where no longer one will do
  both_view :
      (A : List ℕ → Type 0) (PA : List ℕ → Val → Type 0) (s : List ℕ) {p q : Parsed} → Longest A B [] s
      → Answers A PA [] p
      → Answers B PB s q
      → CutView f A B PA PB s (both f p q)
  both_view A PA s l (is_found a) (is_found b) = is_found (cut [] s refl a b l)
  both_view A PA s l (is_found a) (is_missing n) = is_missing (empty-start A B s l (λ _. n))
  both_view A PA s l (is_missing n) q = is_missing (empty-start A B s l (λ a _. n a))

  -- parse_cut finds the cut with the longest first part, if P and Q answer for A and B
  pub parse_cut-view :
      (A : List ℕ → Type 0) (PA : List ℕ → Val → Type 0) (P Q : List ℕ → Parsed) (s : List ℕ)
      → ((t : List ℕ) → Answers A PA t (P t))
      → ((t : List ℕ) → length t ≤ length s → Answers B PB t (Q t))
      → CutView f A B PA PB s (parse_cut f P Q s)
  parse_cut-view A PA P Q [] p q = both_view A PA [] (λ s3 s4 e n _ _. n (start-nil s3 s4 e)) (p []) (q [] (omega arith))
  parse_cut-view A PA P Q (c ∷ s) p q =
      go (parse_cut-view (λ t. A (c ∷ t)) (λ t. PA (c ∷ t)) (λ t. P (c ∷ t)) Q s (λ t. p (c ∷ t)) (λ t l. q t (omega arith)))
    where
      longest : ¬ (Parts (λ t. A (c ∷ t)) B s) → Longest A B [] (c ∷ s)
      longest n [] s4 e h a b = h refl
      longest n (d ∷ s3) s4 e h a b =
          let same : d ≡ c = cc in
          let a' : A (c ∷ s3) = rw same at a in
          n (record { s1 = s3; s2 = s4; joined = cc; first = a'; second = b })

      go :
          {o : Parsed} → CutView f (λ t. A (c ∷ t)) B (λ t. PA (c ∷ t)) PB s o
          → CutView f A B PA PB (c ∷ s) (or_else o (both f (P []) (Q (c ∷ s))))
      go (is_found (cut s1 s2 e a b l)) = is_found (cut (c ∷ s1) s2 (ap (λ (t : List ℕ). c ∷ t) e) a b l)
      go (is_missing n) = both_view A PA (c ∷ s) (longest n) (p []) (q (c ∷ s) (le_refl _))

-- parse_cuts finds the iterations, if P answers for r and the number is not below the line's length
pub parse_cuts-view :
    (n : ℕ) (r : Exp) (P : List ℕ → Parsed) → ((t : List ℕ) → View r t (P t)) → (s : List ℕ) → length s ≤ n
    → View (star r) s (parse_cuts n P s)
parse_cuts-view zero r P p [] l = is_found (posix_none refl)
parse_cuts-view zero r P p (c ∷ s) l = absurd (omega arith)
parse_cuts-view (suc n) r P p [] l = is_found (posix_none refl)
parse_cuts-view (suc n) r P p (c ∷ s) l =
    go
    (parse_cut-view more (L (star r)) (ReadBy (star r)) (λ t. L r (c ∷ t)) (λ t. ReadBy r (c ∷ t)) (λ t. P (c ∷ t)) (parse_cuts n P) s
    (λ t. p (c ∷ t)) (λ t h. parse_cuts-view n r P p t (omega arith)))
  where
    go :
        {o : Parsed} → CutView more (λ t. L r (c ∷ t)) (L (star r)) (λ t. ReadBy r (c ∷ t)) (ReadBy (star r)) s o
        → View (star r) (c ∷ s) o
    go (is_found (cut s1 s2 e a b h)) = is_found (posix-more (c ∷ s1) s2 (ap (λ (t : List ℕ). c ∷ t) e) cons-not-nil a b h)
    go (is_missing h) = is_missing (λ i. h (iterated-head i refl))

-- parse answers with the POSIX reading, or with missing where the line is not in L
pub parse-view : (r : Exp) (s : List ℕ) → View r s (parse r s)
parse-view nothing s = is_missing (λ h. h)
parse-view empty [] = is_found (posix_void refl)
parse-view empty (c ∷ s) = is_missing cons-not-nil
parse-view (letter b) [] = is_missing (λ h. cons-not-nil (sym h.2))
parse-view (letter b) (c ∷ []) = go (holds b c) refl
  where
    go : (t : Bool) → holds b c ≡ t → View (letter b) (c ∷ []) (parse_byte t c)
    go true e = is_found (posix_byte e refl)
    go false e = is_missing (λ h. let same : c ≡ h.0 = cc h.2 in true≢false (sym h.1 ∙ rw same at e))
parse-view (letter b) (c ∷ (d ∷ s)) = is_missing (λ h. let e : d ∷ s ≡ [] = cc h.2 in cons-not-nil e)
parse-view (or r1 r2) s = go (parse-view r1 s) (parse-view r2 s)
  where
    go : {p q : Parsed} → View r1 s p → View r2 s q → View (or r1 r2) s (or_else (under left p) (under right q))
    go (is_found a) q = is_found (posix_left a)
    go (is_missing n) (is_found b) = is_found (posix_right b n)
    go (is_missing n) (is_missing m) = is_missing (⊎_elim n m)
parse-view (seq r1 r2) s =
    go (parse_cut-view pair (L r2) (ReadBy r2) (L r1) (ReadBy r1) (parse r1) (parse r2) s (parse-view r1) (λ t _. parse-view r2 t))
  where
    go :
        {o : Parsed} → CutView pair (L r1) (L r2) (ReadBy r1) (ReadBy r2) s o
        → View (seq r1 r2) s o
    go (is_found (cut s1 s2 e a b l)) = is_found (posix-pair s1 s2 e a b l)
    go (is_missing n) = is_missing n
parse-view (star r) s = parse_cuts-view (length s) r (parse r) (parse-view r) s (le_refl (length s))

-- a value that parse finds is the POSIX reading
pub parse-sound : (r : Exp) (s : List ℕ) (v : Val) → parse r s ≡ found v → Posix s r v
parse-sound r s v e = go (parse-view r s) e
  where
    go : {o : Parsed} → View r s o → o ≡ found v → Posix s r v
    go (is_found {v = w} p) h =
        let same : w ≡ v = cc in
        rw same at p
    go (is_missing n) h = let z : ◌≡◌ {A = ℕ} 0 1 = cc in absurd (omega arith)

-- parse finds nothing only outside L
pub parse-missing : (r : Exp) (s : List ℕ) → parse r s ≡ missing → ¬ (L r s)
parse-missing r s e = go (parse-view r s) e
  where
    go : {o : Parsed} → View r s o → o ≡ missing → ¬ (L r s)
    go (is_found p) h = let z : ◌≡◌ {A = ℕ} 0 1 = cc in absurd (omega arith)
    go (is_missing n) h = n

-- every line of L has a POSIX reading
pub posix-exists : (r : Exp) (s : List ℕ) → L r s → (v : Val) × Posix s r v
posix-exists r s l = go (parse-view r s)
  where
    go : {o : Parsed} → View r s o → (v : Val) × Posix s r v
    go (is_found {v} p) = (v, p)
    go (is_missing n) = absurd (n l)
