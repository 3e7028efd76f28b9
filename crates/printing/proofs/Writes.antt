-- Texts written one after another.
-- Assumes nothing.
use Prim.Native.Nat.{ℕ, ◌+◌, ◌-◌, ◌≤◌}
use mathlib.Core.Path.{◌≡◌, refl, ◌∙◌, ap}
use mathlib.Core.List.{List, [], ◌∷◌, ◌++◌}
use native.Mathlib.Omega.{arith}
use lib.ListN.{length, drop, set, length-append}
use lib.Seq.{sets, length-sets}
use borrow.Rule.Slice.PartMut.{put_mid}
use Rattle.std.proofs.lemmas.List.Edits.{sets-eq}
use Rattle.std.proofs.lemmas.Grind.{common_steps}
use Rattle.reading.proofs.Writing.{sets_more, sets-front}
use Rattle.printing.specs.Writes.{Wrote}

module _ {a b : List ℕ} {at next : ℕ} {xs : List ℕ} (w : Wrote a b at next xs) where
  pub wrote-length : length b ≡ length a
  wrote-length = ap length w.buffer ∙ length-sets a at xs

  -- what is written next follows
  pub wrote_then : {c : List ℕ} {end : ℕ} {ys : List ℕ} → Wrote b c next end ys → Wrote a c at end (xs ++ ys)
  wrote_then {c} {end} {ys} v =
      record {
        moved = omega (arith, v.moved, w.moved, length-append xs ys);
        buffer = v.buffer ∙ ap (λ (o : List ℕ). sets o next ys) w.buffer ∙ sets_more xs ys a at next w.moved;
      }

-- nothing is written
pub wrote_none : (o : List ℕ) (at : ℕ) → Wrote o o at at []
wrote_none o at = record { moved = omega arith; buffer = refl }

-- one byte
pub wrote-byte : (o after : List ℕ) (at next x : ℕ) → after ≡ set o at x → next ≡ at + 1 → Wrote o after at next (x ∷ [])
wrote-byte o after at next x e f = record { moved = f; buffer = e }

-- a text copied to its place
pub wrote-copy :
    (o text copied : List ℕ) (at : ℕ) → at + length text ≤ length o → copied ≡ text
    → Wrote o (put_mid at (at + length text - at) o copied) at (at + length text) text
wrote-copy o text copied at h e = record { moved = refl; buffer = grind (arith, common_steps, sets-eq) }

-- a text written at the front: the later bytes are left
pub wrote-front :
    {a b : List ℕ} {n : ℕ} {xs : List ℕ} → Wrote a b 0 n xs → n ≤ length a → (n ≡ length xs) × (b ≡ xs ++ drop (length xs) a)
wrote-front {a} {b} {n} {xs} w h =
    let start : 0 + length xs ≡ length xs = omega arith in
    (w.moved ∙ start, w.buffer ∙ sets-front xs a (omega (arith, w.moved)))

-- equal texts
pub wrote_as : {a b : List ℕ} {at next : ℕ} {xs ys : List ℕ} → Wrote a b at next xs → xs ≡ ys → Wrote a b at next ys
wrote_as w e = rw e at w

-- of m + k bytes of room at least k are left after a text of at most m
pub wrote-room :
    {a b : List ℕ} {at next : ℕ} {xs : List ℕ} → Wrote a b at next xs → (m k : ℕ) → length xs ≤ m → at + (m + k) ≤ length a
    → next + k ≤ length b
wrote-room w m k l h = omega (arith, w.moved, wrote-length w)

-- each text is written after the one before it
pub wrote-3 :
    {a b c d : List ℕ} {at i j k : ℕ} {xs ys zs : List ℕ} → Wrote a b at i xs → Wrote b c i j ys → Wrote c d j k zs
    → Wrote a d at k (xs ++ (ys ++ zs))
wrote-3 u v w = wrote_then u (wrote_then v w)

pub wrote-5 :
    {a b c d e f : List ℕ} {at i j k l m : ℕ} {xs ys zs us vs : List ℕ} → Wrote a b at i xs → Wrote b c i j ys → Wrote c d j k zs
    → Wrote d e k l us → Wrote e f l m vs → Wrote a f at m (xs ++ (ys ++ (zs ++ (us ++ vs))))
wrote-5 u v w x y = wrote_then u (wrote_then v (wrote-3 w x y))
