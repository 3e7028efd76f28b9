-- Values and readings (001's values; document 01, "Readings").
-- Assumes nothing.
use Rattle.std.specs.Prelude.{ℕ, suc, ◌+◌, ◌≡◌, true, List, [], ◌∷◌, ◌++◌}
use Rattle.posix.specs.Expressions.{ByteSet, holds, Exp, empty, letter, or, seq, star}

-- 001's values: Empty, Char c, Left v, Right v, Seq v w (document 01's Void, Byte, Left, Right, Seq). 001's Stars [v0, v1, ..] is the
-- chain more v0 (more v1 (.. none)): what stands after an iteration is again a value of the same star, as in the relation's Star rule.
pub data Val : Type 0 where
  void : Val
  byte : ℕ → Val
  left : Val → Val
  right : Val → Val
  pair : Val → Val → Val
  none : Val
  more : Val → Val → Val

-- 001's |v|, the line that the value spells: its Byte arguments in order
abbrev pub flat : Val → List ℕ
flat void = []
flat (byte c) = c ∷ []
flat (left v) = flat v
flat (right v) = flat v
flat (pair v w) = flat v ++ flat w
flat none = []
flat (more v w) = flat v ++ flat w

-- how many records document 01 writes for the value: one for each Void, Byte, Left, Right, Seq and Stars. The end of a chain stands for
-- its Stars record, so that the iterations before it add only their own.
abbrev pub records : Val → ℕ
records void = 1
records (byte c) = 1
records (left v) = suc (records v)
records (right v) = suc (records v)
records (pair v w) = suc (records v + records w)
records none = 1
records (more v w) = records v + records w

-- v is a reading of r: 001's "non-problematic" values, in which each iteration of a star spells at least one byte
pub data Reads : Exp → Val → Type 0 where
  reads_void : Reads empty void
  reads_byte : {b : ByteSet} {c : ℕ} → holds b c ≡ true → Reads (letter b) (byte c)
  reads_left : {r1 r2 : Exp} {v : Val} → Reads r1 v → Reads (or r1 r2) (left v)
  reads_right : {r1 r2 : Exp} {v : Val} → Reads r2 v → Reads (or r1 r2) (right v)
  reads_pair : {r1 r2 : Exp} {v w : Val} → Reads r1 v → Reads r2 w → Reads (seq r1 r2) (pair v w)
  reads_none : {r : Exp} → Reads (star r) none
  reads_more : {r : Exp} {v w : Val} → Reads r v → ¬ (flat v ≡ []) → Reads (star r) w → Reads (star r) (more v w)
