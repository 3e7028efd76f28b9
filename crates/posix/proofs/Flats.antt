-- The POSIX reading of a line is a reading that spells it, and every line that a reading spells is in L (document 01, "Readings" and "The
-- relation").
-- Assumes nothing.
use Prim.Native.Nat.{ℕ}
use mathlib.Core.Path.{◌≡◌, refl, sym, ◌∙◌}
use mathlib.Core.List.{List, []}
use mathlib.Core.Logic.{inl, inr}
use Rattle.posix.specs.Expressions.{Exp, star}
use Rattle.posix.specs.Values.{Val, more, flat, Reads, reads_void, reads_byte, reads_left, reads_right, reads_pair, reads_none, reads_more}
use Rattle.posix.specs.Language.{L, no_more, one_more}
use Rattle.posix.specs.Relation.{Posix, posix_void, posix_byte, posix_left, posix_right, posix-pair, posix_none, posix-more}

-- an iteration of a reading spells at least one byte
pub iteration-spells : {r : Exp} {v w : Val} → Reads (star r) (more v w) → ¬ (flat v ≡ [])
iteration-spells (reads_more p n q) = n

-- the POSIX reading of a line spells it
pub posix-flat : {s : List ℕ} {r : Exp} {v : Val} → Posix s r v → flat v ≡ s
posix-flat (posix_void e) = sym e
posix-flat (posix_byte h e) = sym e
posix-flat (posix_left p) = posix-flat p
posix-flat (posix_right p n) = posix-flat p
posix-flat (posix-pair s1 s2 e p q l) = rw (posix-flat p, posix-flat q, e)
posix-flat (posix_none e) = sym e
posix-flat (posix-more s1 s2 e n p q l) = rw (posix-flat p, posix-flat q, e)

-- the POSIX reading is a reading
pub posix-reads : {s : List ℕ} {r : Exp} {v : Val} → Posix s r v → Reads r v
posix-reads (posix_void e) = reads_void
posix-reads (posix_byte h e) = reads_byte h
posix-reads (posix_left p) = reads_left (posix-reads p)
posix-reads (posix_right p n) = reads_right (posix-reads p)
posix-reads (posix-pair s1 s2 e p q l) = reads_pair (posix-reads p) (posix-reads q)
posix-reads (posix_none e) = reads_none
posix-reads (posix-more s1 s2 e n p q l) = reads_more (posix-reads p) (λ h. n (sym (posix-flat p) ∙ h)) (posix-reads q)

-- the line that a reading spells is in L
pub reads-spelled : {r : Exp} {v : Val} → Reads r v → L r (flat v)
reads-spelled reads_void = refl
reads-spelled (reads_byte h) = (_, h, refl)
reads-spelled (reads_left p) = inl (reads-spelled p)
reads-spelled (reads_right p) = inr (reads-spelled p)
reads-spelled (reads_pair {v} {w} p q) =
    record { s1 = flat v; s2 = flat w; joined = refl; first = reads-spelled p; second = reads-spelled q }
reads-spelled reads_none = no_more refl
reads-spelled (reads_more {v} {w} p n q) = one_more (flat v) (flat w) refl (reads-spelled p) (reads-spelled q)

-- a line with a POSIX reading is in L
pub posix-spelled : {s : List ℕ} {r : Exp} {v : Val} → Posix s r v → L r s
posix-spelled p = rw (posix-flat p) at (reads-spelled (posix-reads p))
