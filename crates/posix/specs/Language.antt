-- The language of an expression, the set of lines that it spells: L of 001.
-- Assumes nothing.
use Rattle.std.specs.Prelude.{ℕ, ◌<◌, ◌≡◌, true, List, [], ◌∷◌, ◌++◌, ◌⊎◌, length, get_or}
use Rattle.posix.specs.Expressions.{holds, Exp, nothing, empty, letter, or, seq, star}

-- a list of bytes. Lines are lists of numbers here, and every line of L is one (regex.proofs.Bytes)
abbrev pub Bytes : List ℕ → Type 0
Bytes s = (i : ℕ) → i < length s → get_or s i 0 < 256

-- 001's A @ B: s is s1 then s2, s1 in A and s2 in B
pub record Parts (A B : List ℕ → Type 0) (s : List ℕ) : Type 0 where
  pub s1 : List ℕ
  pub s2 : List ℕ
  pub joined : s ≡ s1 ++ s2
  pub first : A s1
  pub second : B s2

-- 001's A*: the least set with the empty line and, for s1 in A and s2 in A*, s1 then s2
pub data Iterated (A : List ℕ → Type 0) : List ℕ → Type 0 where
  no_more : {s : List ℕ} → s ≡ [] → Iterated A s
  one_more : {s : List ℕ} (s1 s2 : List ℕ) → s ≡ s1 ++ s2 → A s1 → Iterated A s2 → Iterated A s

-- L(0), L(1), L(c), L(r1 + r2), L(r1 · r2), L(r*)
abbrev pub L : Exp → List ℕ → Type 0
L nothing s = ⊥
L empty s = s ≡ []
L (letter b) s = (c : ℕ) × (holds b c ≡ true) × (s ≡ c ∷ [])
L (or r1 r2) s = L r1 s ⊎ L r2 s
L (seq r1 r2) s = Parts (L r1) (L r2) s
L (star r) s = Iterated (L r) s
