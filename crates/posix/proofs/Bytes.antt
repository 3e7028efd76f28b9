-- A letter holds bytes alone, so every line of L, of any expression, is a list of bytes.
-- Assumes nothing.
use Prim.Native.Nat.{ℕ, zero, suc, ◌<◌}
use native.Mathlib.Nat.{le_of_suc-le-suc, suc-le-suc_iff}
use native.Mathlib.Omega.{arith}
use mathlib.Core.Path.{◌≡◌}
use mathlib.Core.Bool.{true}
use mathlib.Core.List.{List, [], ◌∷◌, ◌++◌}
use mathlib.Core.Logic.{◌⊎◌, inl, inr, ⊎_elim, ⊎_map, ◌↔◌}
use borrow.Author.Tests.{lt-ltb, ltb-true}
use lib.Dec.{ltb}
use Rattle.posix.specs.Expressions.{ByteSet, outside, allows, holds, Exp, nothing, empty, letter, or, seq, star}
use Rattle.posix.specs.Language.{Bytes, Iterated, no_more, one_more, L}
use Rattle.posix.proofs.Spells.{either, each, or-second}

pub bytes-nil : Bytes []
bytes-nil i h = absurd (omega arith)

pub bytes-cons : (x : ℕ) (xs : List ℕ) → x < 256 → Bytes xs → Bytes (x ∷ xs)
bytes-cons x xs h b zero l = h
bytes-cons x xs h b (suc i) l = b i (le_of_suc-le-suc l)

pub bytes-tail : (x : ℕ) (xs : List ℕ) → Bytes (x ∷ xs) → Bytes xs
bytes-tail x xs b i l = b (suc i) (suc-le-suc_iff.1 l)

pub bytes-append : (xs ys : List ℕ) → Bytes xs → Bytes ys → Bytes (xs ++ ys)
bytes-append [] ys b c = c
bytes-append (x ∷ xs) ys b c =
    bytes-cons x (xs ++ ys) (b 0 (omega arith)) (bytes-append xs ys (bytes-tail x xs b) c)

-- what a letter holds is a byte
pub holds-byte : (b : ByteSet) (c : ℕ) → holds b c ≡ true → c < 256
holds-byte b c h = ltb-true c 256 (each (ltb c 256) (allows b c) h).0

iterated-bytes : {A : List ℕ → Type 0} → ((s : List ℕ) → A s → Bytes s) → {s : List ℕ} → Iterated A s → Bytes s
iterated-bytes f (no_more e) = rw e bytes-nil
iterated-bytes f (one_more s1 s2 e a i) = rw e (bytes-append s1 s2 (f s1 a) (iterated-bytes f i))

-- every line of L is a list of bytes
pub spelled-bytes : (r : Exp) (s : List ℕ) → L r s → Bytes s
spelled-bytes nothing s l = absurd l
spelled-bytes empty s l = rw l bytes-nil
spelled-bytes (letter b) s l = rw l.2 (bytes-cons l.0 [] (holds-byte b l.0 l.1) bytes-nil)
spelled-bytes (or r1 r2) s (inl l) = spelled-bytes r1 s l
spelled-bytes (or r1 r2) s (inr l) = spelled-bytes r2 s l
spelled-bytes (seq r1 r2) s l =
    rw l.joined (bytes-append l.s1 l.s2 (spelled-bytes r1 l.s1 l.first) (spelled-bytes r2 l.s2 l.second))
spelled-bytes (star r) s l = iterated-bytes (spelled-bytes r) l

-- what an Other holds: "one byte c with c < a or c > b" (document 02, request 1)
pub outside-holds : (lo hi c : ℕ) → (holds (outside lo hi) c ≡ true) ↔ ((c < 256) × ((c < lo) ⊎ (hi < c)))
outside-holds lo hi c = (
  λ h.
      (holds-byte (outside lo hi) c h, ⊎_map (ltb-true c lo) (ltb-true hi c) (either (ltb c lo) (ltb hi c) (each (ltb c 256) (allows (outside lo hi) c) h).1)),
  λ p. rw (lt-ltb c 256 p.0) (⊎_elim (λ (l : c < lo). rw (lt-ltb c lo l)) (λ (l : hi < c). or-second (ltb c lo) (lt-ltb hi c l)) p.1),
)
