-- The POSIX value relation, s : r → v of document 01, "The relation": its four rules, one or two constructors for each, and the letter rule of
-- document 02, request 1.
-- Assumes nothing.
use Rattle.std.specs.Prelude.{ℕ, ◌≡◌, true, List, [], ◌∷◌, ◌++◌}
use Rattle.posix.specs.Expressions.{ByteSet, holds, Exp, empty, letter, or, seq, star}
use Rattle.posix.specs.Values.{Val, void, byte, left, right, pair, none, more}
use Rattle.posix.specs.Language.{L}

-- "no non-empty start s3 of s2, with rest s4, has s1 s3 in A and s4 in B"
abbrev pub Longest : (A B : List ℕ → Type 0) → List ℕ → List ℕ → Type 0
Longest A B s1 s2 = (s3 s4 : List ℕ) → s2 ≡ s3 ++ s4 → ¬ (s3 ≡ []) → A (s1 ++ s3) → B s4 → ⊥

-- Posix s r v: v is the POSIX reading of line s by expression r
pub data Posix : List ℕ → Exp → Val → Type 0 where
  -- "Empty: the empty line gives Void."
  posix_void : {s : List ℕ} → s ≡ [] → Posix s empty void
  -- "Range: the line of one byte c in it gives Byte c." So does Other, the other letter: "Its reading is a Byte record."
  posix_byte : {s : List ℕ} {b : ByteSet} {c : ℕ} → holds b c ≡ true → s ≡ c ∷ [] → Posix s (letter b) (byte c)
  -- "Or: Left v if s : r1 → v."
  posix_left : {s : List ℕ} {r1 r2 : Exp} {v : Val} → Posix s r1 v → Posix s (or r1 r2) (left v)
  -- "Right v if s : r2 → v and s isn't in L(r1)."
  posix_right : {s : List ℕ} {r1 r2 : Exp} {v : Val} → Posix s r2 v → ¬ (L r1 s) → Posix s (or r1 r2) (right v)
  -- "Seq: s is s1 then s2, read as v1 and v2, and no non-empty start s3 of s2, with rest s4, has s1 s3 in L(r1) and s4 in L(r2)."
  posix-pair :
      {s : List ℕ} (s1 s2 : List ℕ) {r1 r2 : Exp} {v1 v2 : Val} → s ≡ s1 ++ s2
      → Posix s1 r1 v1
      → Posix s2 r2 v2
      → Longest (L r1) (L r2) s1 s2
      → Posix s (seq r1 r2) (pair v1 v2)
  -- "Star: the empty line gives Stars of none."
  posix_none : {s : List ℕ} {r : Exp} → s ≡ [] → Posix s (star r) none
  -- "Otherwise s is s1 then s2, s1 not empty, s1 : r → v, s2 read by the same Star, and no non-empty start s3 of s2, with rest s4, has
  -- s1 s3 in L(r) and s4 in L(r*)." (s is not empty, as s1 is not.)
  posix-more :
      {s : List ℕ} (s1 s2 : List ℕ) {r : Exp} {v w : Val} → s ≡ s1 ++ s2
      → ¬ (s1 ≡ [])
      → Posix s1 r v
      → Posix s2 (star r) w
      → Longest (L r) (L (star r)) s1 s2
      → Posix s (star r) (more v w)
