-- `table::check` meets its contract. Assumes nothing.
use native.Mathlib.Omega.{arith}
use Rattle.table.proofs.Exits.{passed_on}
use Rattle.table.proofs.Scan.{scan-start, scan-own, own-refused, named-refused, scan-next}
use Rattle.table.proofs.check.Goals as goal

pub loop-k-init : goal.loop-k-init
loop-k-init c = scan-start c.args.table.now c.if-size-eq0.false (omega arith) c.if-size-ne0.false

pub returns-in_err-own_fault : goal.returns-in_err-own_fault
returns-in_err-own_fault c =
    record {
      answer = rw (passed_on _ _ c.from_residual.ensures)
          (own-refused (scan-own _ _ _ _ c.loop-k.invariant c.loop-k-test.true c.own_fault.ensures) _ c.in_err-own_fault.was);
    }

pub returns-then-name_children : goal.returns-then-name_children
returns-then-name_children c =
    record {
      answer = named-refused (scan-own _ _ _ _ c.loop-k.invariant c.loop-k-test.true c.own_fault.ensures) _ c.in_ok-own_fault.was _
          c.name_children.ensures.again c.if-name_children.true;
    }

pub loop-k-preserved : goal.loop-k-preserved
loop-k-preserved c =
    scan-next (scan-own _ _ _ _ c.loop-k.invariant c.loop-k-test.true c.own_fault.ensures) _ c.in_ok-own_fault.was _
    c.name_children.ensures.again c.if-name_children.false _ c.name_children.ensures.right
