-- `reading::store_record` meets its contract. Assumes nothing.
use Rattle.reading.proofs.Storing.{room-2, room-3, room-4, stored_bytes}
use Rattle.reading.proofs.store_record.Goals as goal

pub bounds-out-at-2 : goal.bounds-out-at-2
bounds-out-at-2 c = room-2 c.args.out.now c.args.at c.args.kind c.args.argument c.args.size c.args.number c.requires.room

pub bounds-out-at-3 : goal.bounds-out-at-3
bounds-out-at-3 c = room-3 c.args.out.now c.args.at c.args.kind c.args.argument c.args.size c.args.number c.requires.room

pub bounds-out-at-4 : goal.bounds-out-at-4
bounds-out-at-4 c = room-4 c.args.out.now c.args.at c.args.kind c.args.argument c.args.size c.args.number c.requires.room

pub returns : goal.returns
returns c = stored_bytes c.args.out.now c.args.at c.args.kind c.args.argument c.args.size c.args.number
