-- `edges::may_spell` meets its contract: the first byte, the last byte, and the bytes that no letter holds.
-- Assumes nothing.
use native.Mathlib.Omega.{arith}
use Prim.Native.Nat.{ℕ, ◌≤◌}
use mathlib.Core.Path.{sym, ◌∙◌}
use mathlib.Core.List.{List}
use lib.ListN.{length}
use borrow.Author.Tests.{eqb-true, not-false}
use Rattle.posix.specs.Expressions.{Exp}
use Rattle.table.specs.Expression.{exp_of}
use Rattle.edges.proofs.Edges.{first-missing, last-missing}
use Rattle.edges.proofs.Records.{start-missing, end-missing}
use Rattle.edges.proofs.Marks.{unmarked-none}
use Rattle.edges.proofs.may_spell.Goals as goal
use Rattle.edges.proofs.may_spell.Goals.{then-bits-ne0, else-bits-ne0}

pub returns-then-bits-ne0-2 : goal.returns-then-bits-ne0-2
returns-then-bits-ne0-2 c =
    λ z. unmarked-none c.args.table.now c.find_bits-bits.ensures.passes c.args.line.now _ c.args.k c.requires c.find_bits-bits.ensures.letters_marked (c.all_marked.ensures z)

pub returns-else-bits-ne0-2 : goal.returns-else-bits-ne0-2
returns-else-bits-ne0-2 c =
    let r : Exp = exp_of c.args.table.now c.args.k in
    let u : List ℕ = c.args.line.now in
    let some : 1 ≤ length u = omega (arith, c.if-n-eq0.false) in
    let is = c.find_bits-bits.ensures.value in
    elim c.if-bits-ne0.branch [
      | then-bits-ne0 w ↦ λ z. last-missing r u some (end-missing c.args.table.now _ _ c.args.k _ is (eqb-true _ 0 (not-false _ (sym w.value-is ∙ z))))
      | else-bits-ne0 w ↦ λ z. first-missing r u some (start-missing c.args.table.now _ _ c.args.k _ is w.if-bits-ne0.false)
    ]
