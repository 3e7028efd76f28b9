-- `matcher::put` meets its contract: the record is stored where the walk writes, and only counted where it does not.
-- Assumes nothing.
use mathlib.Core.Path.{◌∙◌}
use Rattle.reading.specs.ValueKinds.{value_number}
use Rattle.matcher.proofs.Storing.{record-room, stored-record, counted-record}
use Rattle.matcher.proofs.put.Goals as goal
use Rattle.matcher.proofs.put.Goals.{then-writing, else-writing}

pub store_record-requires : goal.store_record-requires
store_record-requires c =
    record {
      room = record-room (value_number c.args.kind) c.args.argument c.args.part.size c.args.part.record c.args.out.now c.args.at c.if-writing.true
          c.requires.room;
      bytes = c.requires.bytes;
    }

pub returns : goal.returns
returns c =
    elim c.if-writing.branch [
      | then-writing w ↦ stored-record (value_number c.args.kind) c.args.argument c.args.part.size c.args.part.record c.args.out.now c.args.at
          w.if-writing.true (w.out-is ∙ (rw w.number.ensures at w.store_record.ensures))
      | else-writing w ↦ counted-record (value_number c.args.kind) c.args.argument c.args.part.size c.args.part.record c.args.out.now c.args.at
          w.if-writing.false w.out-is
    ]
