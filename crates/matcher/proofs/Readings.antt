-- The POSIX reading of a part by each kind of expression, and that a spelled part of Seq and of Star has a cut (document 01, "The relation").
-- Assumes nothing.
use Prim.Native.Nat.{ℕ, ◌+◌, ◌-◌, ◌≤◌}
use mathlib.Core.Path.{◌≡◌, refl, sym, ◌∙◌, ap}
use mathlib.Core.Bool.{true, false, true≢false}
use mathlib.Core.List.{List, [], ◌∷◌, ◌++◌}
use native.Mathlib.Omega.{arith}
use lib.ListN.{length, length-append}
use Rattle.posix.specs.Expressions.{ByteSet, Exp, empty, letter, or, seq, star}
use Rattle.posix.specs.Values.{Val, void, byte, left, right, none}
use Rattle.posix.specs.Language.{Parts, Iterated, L}
use Rattle.posix.specs.Relation.{Posix, posix_void, posix_byte, posix_left, posix_right, posix_none, posix-more}
use Rattle.posix.specs.Spells.{spells}
use Rattle.posix.proofs.Lists.{start-nil}
use Rattle.posix.proofs.Flats.{posix-spelled}
use Rattle.posix.proofs.Languages.{iterated-head}
use Rattle.posix.proofs.Spells.{spells-sound, spells-complete}
use Rattle.area.specs.Area.{part}
use Rattle.area.proofs.Parts.{part_length, part_cut, same-cut}

-- Empty reads as Void
pub empty-reading : {s : List ℕ} {v : Val} → Posix s empty v → (v ≡ void) × (s ≡ [])
empty-reading (posix_void e) = (refl, e)

-- a letter reads as its byte
pub letter-reading : {s : List ℕ} {b : ByteSet} {v : Val} (c : ℕ) → Posix s (letter b) v → s ≡ c ∷ [] → v ≡ byte c
letter-reading c (posix_byte {c = d} h e) f = let same : d ≡ c = cc in ap byte same

-- Or reads as Left where r1 spells the part
pub left-reading : {s : List ℕ} {r1 r2 : Exp} {v : Val} → spells r1 s ≡ true → Posix s (or r1 r2) v → (u : Val) × (v ≡ left u) × Posix s r1 u
left-reading {s} {r1} h (posix_left {v = u} p) = (u, refl, p)
left-reading {s} {r1} h (posix_right p n) = absurd (n (spells-sound r1 s h))

-- and as Right where it does not
pub right-reading : {s : List ℕ} {r1 r2 : Exp} {v : Val} → spells r1 s ≡ false → Posix s (or r1 r2) v → (u : Val) × (v ≡ right u) × Posix s r2 u
right-reading {s} {r1} h (posix_left p) = absurd (true≢false (sym (spells-complete r1 s (posix-spelled p)) ∙ h))
right-reading {s} {r1} h (posix_right {v = u} p n) = (u, refl, p)

-- Star reads the empty part as Stars of none
pub none-reading : {s : List ℕ} {r : Exp} {v : Val} → s ≡ [] → Posix s (star r) v → v ≡ none
none-reading e (posix_none f) = refl
none-reading e (posix-more s1 s2 f n p q l) = absurd (n (start-nil s1 s2 (sym e ∙ f)))

-- a cut of the first e of the last d bytes of s, at least at lowest
pub record SomeCut (r1 r2 : Exp) (s : List ℕ) (d e lowest : ℕ) : Type 0 where
  pub at : ℕ
  pub above : lowest ≤ at
  pub inside : at ≤ e
  pub front : spells r1 (part s d at) ≡ true
  pub back : spells r2 (part s (d - at) (e - at)) ≡ true

-- where a part is joined from two spelled ones, there is a cut
joined-cut :
    {r1 r2 : Exp} {s : List ℕ} {d e : ℕ} (lowest : ℕ) (s1 s2 : List ℕ) → d ≤ length s → e ≤ d → lowest ≤ length s1 → part s d e ≡ s1 ++ s2
    → L r1 s1
    → L r2 s2
    → SomeCut r1 r2 s d e lowest
joined-cut {r1} {r2} {s} {d} {e} lowest s1 s2 h g o j a b =
    let l : e ≡ length s1 + length s2 = sym (part_length s d e h g) ∙ ap length j ∙ length-append s1 s2 in
    let i : length s1 ≤ e = omega arith in
    let m : length (part s d (length s1)) ≡ length s1 = part_length s d (length s1) h (omega arith) in
    let c : (s1 ≡ part s d (length s1)) × (s2 ≡ part s (d - length s1) (e - length s1)) =
    same-cut s1 s2 (part s d (length s1)) (part s (d - length s1) (e - length s1)) (sym j ∙ part_cut s d e (length s1) h g i) (sym m) in
    record {
      at = length s1;
      above = o;
      inside = i;
      front = ap (spells r1) (sym c.0) ∙ spells-complete r1 s1 a;
      back = ap (spells r2) (sym c.1) ∙ spells-complete r2 s2 b;
    }

-- a spelled part of Seq has a cut
pub seq-cut : (r1 r2 : Exp) (s : List ℕ) (d e : ℕ) → d ≤ length s → e ≤ d → spells (seq r1 r2) (part s d e) ≡ true → SomeCut r1 r2 s d e 0
seq-cut r1 r2 s d e h g t =
    let x : Parts (L r1) (L r2) (part s d e) = spells-sound (seq r1 r2) (part s d e) t in
    joined-cut 0 x.s1 x.s2 h g (omega arith) x.joined x.first x.second

-- a spelled part of Star that is not empty has a cut with a first iteration
pub star-cut : (r : Exp) (s : List ℕ) (d e : ℕ) → d ≤ length s → e ≤ d → 1 ≤ e → spells (star r) (part s d e) ≡ true → SomeCut r (star r) s d e 1
star-cut r s d e h g l t = go (part s d e) refl
  where
    go : (u : List ℕ) → part s d e ≡ u → SomeCut r (star r) s d e 1
    go [] z =
        let n : length (part s d e) ≡ e = part_length s d e h g in
        let m : length (part s d e) ≡ 0 = ap length z in
        absurd (omega arith)
    go (c ∷ u) z =
        let i : Iterated (L r) (part s d e) = spells-sound (star r) (part s d e) t in
        let x : Parts (λ y. L r (c ∷ y)) (Iterated (L r)) u = iterated-head i z in
        joined-cut 1 (c ∷ x.s1) x.s2 h g (omega arith) (z ∙ ap (λ (y : List ℕ). c ∷ y) x.joined) x.first x.second
