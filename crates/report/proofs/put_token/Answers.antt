-- `report::put_token` meets its contract: three numbers of at most 3 digits, each with a byte after it. Assumes nothing.
use native.Mathlib.Omega.{arith}
use Rattle.printing.proofs.Writes.{wrote_then, wrote-5, wrote-room}
use Rattle.printing.proofs.Digits.{length-decimal-byte}
use Rattle.report.proofs.put_token.Goals as goal

pub put_decimal-tag_end-requires : goal.put_decimal-tag_end-requires
put_decimal-tag_end-requires c = omega (arith, c.requires, length-decimal-byte c.args.tag (omega (arith, c.ranges.tag)))

pub put_byte-offset_at-requires : goal.put_byte-offset_at-requires
put_byte-offset_at-requires c =
    let tag-written = wrote-room c.put_decimal-tag_end.ensures 3 9 (length-decimal-byte c.args.tag (omega (arith, c.ranges.tag))) c.requires in
    omega (arith, tag-written)

pub put_decimal-offset_end-requires : goal.put_decimal-offset_end-requires
put_decimal-offset_end-requires c =
    let tag-written = wrote-room c.put_decimal-tag_end.ensures 3 9 (length-decimal-byte c.args.tag (omega (arith, c.ranges.tag))) c.requires in
    let space-written = wrote-room c.put_byte-offset_at.ensures 1 8 (omega arith) tag-written in
    omega (arith, space-written, length-decimal-byte c.args.offset (omega (arith, c.ranges.offset)))

pub put_byte-size_at-requires : goal.put_byte-size_at-requires
put_byte-size_at-requires c =
    let tag-written = wrote-room c.put_decimal-tag_end.ensures 3 9 (length-decimal-byte c.args.tag (omega (arith, c.ranges.tag))) c.requires in
    let space-written = wrote-room c.put_byte-offset_at.ensures 1 8 (omega arith) tag-written in
    let offset-written = wrote-room c.put_decimal-offset_end.ensures 3 5
    (length-decimal-byte c.args.offset (omega (arith, c.ranges.offset))) space-written in
    omega (arith, offset-written)

pub put_decimal-size_end-requires : goal.put_decimal-size_end-requires
put_decimal-size_end-requires c =
    let tag-written = wrote-room c.put_decimal-tag_end.ensures 3 9 (length-decimal-byte c.args.tag (omega (arith, c.ranges.tag))) c.requires in
    let space-written = wrote-room c.put_byte-offset_at.ensures 1 8 (omega arith) tag-written in
    let offset-written = wrote-room c.put_decimal-offset_end.ensures 3 5
    (length-decimal-byte c.args.offset (omega (arith, c.ranges.offset))) space-written in
    let again-written = wrote-room c.put_byte-size_at.ensures 1 4 (omega arith) offset-written in
    omega (arith, again-written, length-decimal-byte c.args.size (omega (arith, c.ranges.size)))

pub put_byte-requires : goal.put_byte-requires
put_byte-requires c =
    let tag-written = wrote-room c.put_decimal-tag_end.ensures 3 9 (length-decimal-byte c.args.tag (omega (arith, c.ranges.tag))) c.requires in
    let space-written = wrote-room c.put_byte-offset_at.ensures 1 8 (omega arith) tag-written in
    let offset-written = wrote-room c.put_decimal-offset_end.ensures 3 5
    (length-decimal-byte c.args.offset (omega (arith, c.ranges.offset))) space-written in
    let again-written = wrote-room c.put_byte-size_at.ensures 1 4 (omega arith) offset-written in
    let size-written = wrote-room c.put_decimal-size_end.ensures 3 1 (length-decimal-byte c.args.size (omega (arith, c.ranges.size))) again-written in
    omega (arith, size-written)

pub returns : goal.returns
returns c =
    wrote_then c.put_decimal-tag_end.ensures
    (wrote-5 c.put_byte-offset_at.ensures c.put_decimal-offset_end.ensures c.put_byte-size_at.ensures
    c.put_decimal-size_end.ensures c.put_byte.ensures)
