-- `reading::look` meets its contract: the record at the place, or none where less than a record is left or its number is another. Assumes nothing.
use native.Mathlib.Omega.{arith}
use Rattle.reading.proofs.Shapes.{look-short, look-other, look-full}
use Rattle.reading.proofs.look.Goals as goal
use Rattle.reading.proofs.look.Goals.{then-n-at-via-then-n-at, then-n-at-via-else-n-at+then-n-at-lt-RECORD, then-n-at-via-else-n-at+else-n-at-lt-RECORD+then-record_number-k}

pub returns-then-n-at : goal.returns-then-n-at
returns-then-n-at c =
    record {
      passes = c.kind_at-kind.ensures.passes;
      shape = elim c.then-n-at.branch [
        | then-n-at-via-then-n-at w ↦ look-short c.args.table.now c.args.k c.args.reading.now c.args.place.at (omega (arith, w.if-n-at.true))
        | then-n-at-via-else-n-at+then-n-at-lt-RECORD w ↦ look-short c.args.table.now c.args.k c.args.reading.now c.args.place.at
            (omega (arith, w.if-n-at.false, w.if-n-at-lt-RECORD.true))
        | then-n-at-via-else-n-at+else-n-at-lt-RECORD+then-record_number-k w ↦ look-other c.args.table.now c.args.k c.args.reading.now c.args.place.at _
            (omega (arith, w.if-n-at.false, w.if-n-at-lt-RECORD.false)) w.record_number.ensures w.if-record_number-k.true
      ];
    }

pub returns : goal.returns
returns c =
    record {
      passes = c.kind_at-kind.ensures.passes;
      shape = look-full c.args.table.now c.args.k c.args.reading.now c.args.place.at _ _ _ _ _ _ _ (omega arith) c.record_number.ensures
          (omega (arith, c.if-record_number-k.false)) c.kind_at-kind.ensures.kind c.a_at-a.ensures c.b_at-b.ensures c.record_kind-x.ensures
          c.record_argument-y.ensures c.shape_of.ensures;
    }
