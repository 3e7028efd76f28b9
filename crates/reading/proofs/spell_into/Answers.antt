-- `reading::spell_into` meets its contract. Assumes nothing.
use native.Mathlib.Omega.{arith}
use mathlib.Core.Path.{◌≡◌, sym, ◌∙◌}
use Prim.Native.Nat.{◌+◌, ◌*◌}
use Rattle.reading.specs.Codec.{record_size}
use Rattle.reading.proofs.Copying.{copy_start, copy-byte, copy-other, copy-room, copy-end}
use Rattle.reading.proofs.spell_into.Goals as goal
use Rattle.reading.proofs.spell_into.Goals.{then-record_kind-number, else-record_kind-number}

pub bounds-out-size : goal.bounds-out-size
bounds-out-size c =
    copy-room c.loop-i.invariant (omega (arith, c.loop-i-test.true))
    (sym c.record_kind.ensures ∙ c.if-record_kind-number.true ∙ c.number.ensures)

pub loop-i-preserved : goal.loop-i-preserved
loop-i-preserved c =
    let next : record_size * (c.loop-i.i + 1) ≡ record_size * c.loop-i.i + record_size = omega arith in
    rw next
    (elim c.if-record_kind-number.branch [
      | then-record_kind-number w ↦ copy-byte c.loop-i.invariant (omega (arith, c.loop-i-test.true))
          (sym c.record_kind.ensures ∙ w.if-record_kind-number.true ∙ c.number.ensures) w.out-is w.record_argument.ensures w.size-is
      | else-record_kind-number w ↦ copy-other c.loop-i.invariant (omega (arith, c.loop-i-test.true))
          (λ z. w.if-record_kind-number.false (c.record_kind.ensures ∙ z ∙ sym c.number.ensures)) w.out-is w.size-is
    ])

pub returns : goal.returns
returns c = let x = copy-end c.loop-i.invariant (omega (arith, c.loop-i-test.false)) in record { size = x.0; buffer = x.1 }
