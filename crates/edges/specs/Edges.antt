-- The bytes with which the lines of an expression may start or end.
-- Assumes nothing.
use Rattle.std.specs.Prelude.{ℕ, Bool, false, cond, ◌&&◌, ◌||◌, []}
use Rattle.posix.specs.Expressions.{holds, Exp, nothing, empty, letter, or, seq, star}
use Rattle.posix.specs.Spells.{spells}

-- a Seq's edge by its near side, the one at which its lines start or end, and its far side: that of the far side counts where the near side
-- spells the empty line
abbrev pub edge_of_seq : (near-edge near-empty far-edge : Bool) → Bool
edge_of_seq near-edge near-empty far-edge = near-edge || (near-empty && far-edge)

-- a line of the expression may start with c, or for `back` end with it: where this is false none does. A Seq counts although its other side
-- spells nothing.
abbrev pub edge : Bool → Exp → ℕ → Bool
edge back nothing c = false
edge back empty c = false
edge back (letter b) c = holds b c
edge back (or r1 r2) c = edge back r1 c || edge back r2 c
edge back (seq r1 r2) c =
    cond back
    (edge_of_seq (edge back r2 c) (spells r2 []) (edge back r1 c))
    (edge_of_seq (edge back r1 c) (spells r1 []) (edge back r2 c))
edge back (star r) c = edge back r c
