-- Cases of extends: an expression, a line, and whether some bytes behind the line make it one that the expression spells (document 02,
-- request 7). T1, T2, T3 and Remark are the bench's.
-- Assumes nothing.
use Rattle.std.specs.Prelude.{ℕ, Bool, true, false, List, [], ◌∷◌}
use Rattle.posix.specs.Expressions.{within, outside, Exp, nothing, empty, letter, or, seq, star}
use Rattle.posix.specs.Extends.{Extends, extends}
use Rattle.posix.specs.Bench.{only, T1, T2, T3, Remark, NoByte}

-- a case: an expression, a line, and the answer
pub data ExtendsCase : Type 0 where
  extends_as : Exp → List ℕ → Bool → ExtendsCase

-- what is stated for the case
abbrev pub stated : ExtendsCase → Bool
stated (extends_as r s b) = b

-- what the decision computes
abbrev pub computed : ExtendsCase → Bool
computed (extends_as r s b) = extends r s

-- what a case says of Extends
abbrev pub Meaning : ExtendsCase → Type 0
Meaning (extends_as r s true) = Extends r s
Meaning (extends_as r s false) = ¬ (Extends r s)

abbrev pub extends_cases : List ExtendsCase
extends_cases =
    -- nothing, alone and in the others
    extends_as nothing [] false
    ∷ extends_as nothing (0x61 ∷ []) false
    ∷ extends_as (or nothing (only 0x61)) [] true
    ∷ extends_as (or nothing (only 0x61)) (0x61 ∷ []) true
    ∷ extends_as (or nothing (only 0x61)) (0x62 ∷ []) false
    ∷ extends_as (or (only 0x61) nothing) [] true
    ∷ extends_as (or (only 0x61) nothing) (0x61 ∷ []) true
    ∷ extends_as (or (only 0x61) nothing) (0x62 ∷ []) false
    ∷ extends_as (or nothing nothing) [] false
    ∷ extends_as (seq nothing (only 0x61)) [] false
    ∷ extends_as (seq nothing (only 0x61)) (0x61 ∷ []) false
    ∷ extends_as (seq (only 0x61) nothing) [] false
    ∷ extends_as (seq (only 0x61) nothing) (0x61 ∷ []) false
    ∷ extends_as (seq (only 0x61) nothing) (0x61 ∷ 0x61 ∷ []) false
    ∷ extends_as (star nothing) [] true
    ∷ extends_as (star nothing) (0x61 ∷ []) false
    -- empty
    ∷ extends_as empty [] true
    ∷ extends_as empty (0x61 ∷ []) false
    ∷ extends_as T3 [] true
    ∷ extends_as T3 (0x61 ∷ []) false
    -- a letter of one byte
    ∷ extends_as (only 0x61) [] true
    ∷ extends_as (only 0x61) (0x61 ∷ []) true
    ∷ extends_as (only 0x61) (0x62 ∷ []) false
    ∷ extends_as (only 0x61) (0x61 ∷ 0x61 ∷ []) false
    -- an Other that holds no byte
    ∷ extends_as NoByte [] false
    ∷ extends_as NoByte (0 ∷ []) false
    ∷ extends_as NoByte (255 ∷ []) false
    ∷ extends_as NoByte (256 ∷ []) false
    ∷ extends_as (seq (only 0x61) NoByte) [] false
    ∷ extends_as (seq (only 0x61) NoByte) (0x61 ∷ []) false
    ∷ extends_as (star NoByte) [] true
    ∷ extends_as (star NoByte) (0 ∷ []) false
    ∷ extends_as (seq (star NoByte) (only 0x61)) [] true
    ∷ extends_as (seq (star NoByte) (only 0x61)) (0x61 ∷ []) true
    ∷ extends_as (seq (star NoByte) (only 0x61)) (0x61 ∷ 0x61 ∷ []) false
    -- an Other on one side only
    ∷ extends_as (letter (outside 5 255)) [] true
    ∷ extends_as (letter (outside 5 255)) (4 ∷ []) true
    ∷ extends_as (letter (outside 5 255)) (5 ∷ []) false
    ∷ extends_as (letter (outside 0 254)) [] true
    ∷ extends_as (letter (outside 0 254)) (255 ∷ []) true
    ∷ extends_as (letter (outside 0 254)) (254 ∷ []) false
    ∷ extends_as (letter (outside 0 254)) (256 ∷ []) false
    -- bounds in the wrong order, and bounds that are no bytes
    ∷ extends_as (letter (within 5 4)) [] false
    ∷ extends_as (letter (within 5 4)) (4 ∷ []) false
    ∷ extends_as (letter (within 5 4)) (5 ∷ []) false
    ∷ extends_as (letter (outside 5 4)) [] true
    ∷ extends_as (letter (outside 5 4)) (5 ∷ []) true
    ∷ extends_as (letter (within 255 300)) [] true
    ∷ extends_as (letter (within 255 300)) (255 ∷ []) true
    ∷ extends_as (letter (within 256 300)) [] false
    ∷ extends_as (letter (within 256 300)) (256 ∷ []) false
    ∷ extends_as (letter (outside 0 300)) [] false
    -- T1
    ∷ extends_as T1 [] true
    ∷ extends_as T1 (0x61 ∷ []) true
    ∷ extends_as T1 (0x62 ∷ []) true
    ∷ extends_as T1 (0x62 ∷ 0x62 ∷ []) false
    ∷ extends_as T1 (0x63 ∷ []) false
    ∷ extends_as T1 (0x61 ∷ 0x62 ∷ []) true
    ∷ extends_as T1 (0x61 ∷ 0x62 ∷ 0x62 ∷ []) true
    ∷ extends_as T1 (0x61 ∷ 0x62 ∷ 0x63 ∷ []) true
    ∷ extends_as T1 (0x61 ∷ 0x63 ∷ []) false
    ∷ extends_as T1 (0x61 ∷ 0x62 ∷ 0x63 ∷ 0x62 ∷ []) true
    ∷ extends_as T1 (0x61 ∷ 0x62 ∷ 0x63 ∷ 0x63 ∷ []) false
    -- T2
    ∷ extends_as T2 [] true
    ∷ extends_as T2 (0x61 ∷ []) true
    ∷ extends_as T2 (0x62 ∷ []) true
    ∷ extends_as T2 (0x61 ∷ 0x62 ∷ []) true
    ∷ extends_as T2 (0x61 ∷ 0x61 ∷ []) true
    ∷ extends_as T2 (0x61 ∷ 0x61 ∷ 0x62 ∷ []) true
    ∷ extends_as T2 (0x61 ∷ 0x62 ∷ 0x62 ∷ []) false
    ∷ extends_as T2 (0x62 ∷ 0x61 ∷ []) false
    ∷ extends_as T2 (0x61 ∷ 0x61 ∷ 0x61 ∷ []) false
    -- Remark: any text without a semicolon, and nothing behind it
    ∷ extends_as Remark [] true
    ∷ extends_as Remark (0x61 ∷ []) true
    ∷ extends_as Remark (0x61 ∷ 0x62 ∷ 0x63 ∷ []) true
    ∷ extends_as Remark (0 ∷ 255 ∷ []) true
    ∷ extends_as Remark (256 ∷ []) false
    ∷ extends_as Remark (0x3b ∷ []) true
    ∷ extends_as Remark (0x61 ∷ 0x62 ∷ 0x3b ∷ []) true
    ∷ extends_as Remark (0x3b ∷ 0x3b ∷ []) false
    ∷ extends_as Remark (0x61 ∷ 0x3b ∷ 0x62 ∷ []) false
    ∷ []
