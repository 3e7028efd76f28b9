-- parse, which finds the POSIX reading of a line or finds that there is none. It computes: it goes by recursion on the line and pushes its
-- head into the first part. The recursive call tries the longer first parts, so trying it first prefers the longest.
-- Assumes nothing.
use Rattle.std.specs.Prelude.{ℕ, zero, suc, Bool, true, false, List, [], ◌∷◌, length}
use Rattle.posix.specs.Expressions.{holds, Exp, nothing, empty, letter, or, seq, star}
use Rattle.posix.specs.Values.{Val, void, byte, left, right, pair, none, more}

-- what parse answers
pub data Parsed : Type 0 where
  found : Val → Parsed
  missing : Parsed

-- the value under a constructor
abbrev pub under : (Val → Val) → Parsed → Parsed
under f (found v) = found (f v)
under f missing = missing

-- the first answer if it found a value, otherwise the second
abbrev pub or_else : Parsed → Parsed → Parsed
or_else (found v) q = found v
or_else missing q = q

-- both values under a constructor
abbrev pub both : (Val → Val → Val) → Parsed → Parsed → Parsed
both f (found v) q = under (f v) q
both f missing q = missing

-- a byte of a letter, if it holds
abbrev pub parse_byte : Bool → ℕ → Parsed
parse_byte true c = found (byte c)
parse_byte false c = missing

-- the cut with the longest first part that P parses and whose rest Q parses
abbrev pub parse_cut : (Val → Val → Val) → (P Q : List ℕ → Parsed) → List ℕ → Parsed
parse_cut f P Q [] = both f (P []) (Q [])
parse_cut f P Q (c ∷ s) = or_else (parse_cut f (λ t. P (c ∷ t)) Q s) (both f (P []) (Q (c ∷ s)))

-- the iterations of a star; the first number bounds how many, and the line's length is enough
abbrev pub parse_cuts : ℕ → (List ℕ → Parsed) → List ℕ → Parsed
parse_cuts zero P [] = found none
parse_cuts zero P (c ∷ s) = missing
parse_cuts (suc n) P [] = found none
parse_cuts (suc n) P (c ∷ s) = parse_cut more (λ t. P (c ∷ t)) (parse_cuts n P) s

-- the POSIX reading of the line by the expression
abbrev pub parse : Exp → List ℕ → Parsed
parse nothing s = missing
parse empty [] = found void
parse empty (c ∷ s) = missing
parse (letter b) [] = missing
parse (letter b) (c ∷ []) = parse_byte (holds b c) c
parse (letter b) (c ∷ (d ∷ s)) = missing
parse (or r1 r2) s = or_else (under left (parse r1 s)) (under right (parse r2 s))
parse (seq r1 r2) s = parse_cut pair (parse r1) (parse r2) s
parse (star r) s = parse_cuts (length s) (parse r) s
