-- `report::put_line` meets its contract: five texts one after another. Assumes nothing.
use Prim.Native.Nat.{◌+◌}
use native.Mathlib.Omega.{arith}
use lib.ListN.{length}
use Rattle.printing.proofs.Writes.{wrote-5, wrote-room}
use Rattle.printing.proofs.Digits.{length-decimal}
use Rattle.report.proofs.put_line.Goals as goal

pub put_decimal-word_at-requires : goal.put_decimal-word_at-requires
put_decimal-word_at-requires c =
    let line-written = wrote-room c.put_text-number_at.ensures 5 (41 + length c.args.word.now) (omega arith) (omega (arith, c.requires)) in
    omega (arith, line-written, length-decimal c.args.number (omega (arith, c.ranges.number)))

pub put_text-n_at-requires : goal.put_text-n_at-requires
put_text-n_at-requires c =
    let line-written = wrote-room c.put_text-number_at.ensures 5 (41 + length c.args.word.now) (omega arith) (omega (arith, c.requires)) in
    let number-written = wrote-room c.put_decimal-word_at.ensures 20 (21 + length c.args.word.now)
    (length-decimal c.args.number (omega (arith, c.ranges.number))) (omega (arith, line-written)) in
    omega (arith, number-written)

pub put_decimal-n_end-requires : goal.put_decimal-n_end-requires
put_decimal-n_end-requires c =
    let line-written = wrote-room c.put_text-number_at.ensures 5 (41 + length c.args.word.now) (omega arith) (omega (arith, c.requires)) in
    let number-written = wrote-room c.put_decimal-word_at.ensures 20 (21 + length c.args.word.now)
    (length-decimal c.args.number (omega (arith, c.ranges.number))) (omega (arith, line-written)) in
    let word-written = wrote-room c.put_text-n_at.ensures (length c.args.word.now) 21 (omega arith) (omega (arith, number-written)) in
    omega (arith, word-written, length-decimal c.args.n (omega (arith, c.ranges.n)))

pub put_byte-requires : goal.put_byte-requires
put_byte-requires c =
    let line-written = wrote-room c.put_text-number_at.ensures 5 (41 + length c.args.word.now) (omega arith) (omega (arith, c.requires)) in
    let number-written = wrote-room c.put_decimal-word_at.ensures 20 (21 + length c.args.word.now)
    (length-decimal c.args.number (omega (arith, c.ranges.number))) (omega (arith, line-written)) in
    let word-written = wrote-room c.put_text-n_at.ensures (length c.args.word.now) 21 (omega arith) (omega (arith, number-written)) in
    let n-written = wrote-room c.put_decimal-n_end.ensures 20 1 (length-decimal c.args.n (omega (arith, c.ranges.n))) word-written in
    omega (arith, n-written)

pub returns : goal.returns
returns c =
    record {
      bound = omega (
        arith,
        c.put_text-number_at.ensures.moved,
        c.put_decimal-word_at.ensures.moved,
        c.put_text-n_at.ensures.moved,
        c.put_decimal-n_end.ensures.moved,
        c.put_byte.ensures.moved,
        length-decimal c.args.number (omega (arith, c.ranges.number)),
        length-decimal c.args.n (omega (arith, c.ranges.n)),
      );
      line = wrote-5 c.put_text-number_at.ensures c.put_decimal-word_at.ensures c.put_text-n_at.ensures
          c.put_decimal-n_end.ensures c.put_byte.ensures;
    }
