-- `tokens::put` meets its contract. Assumes nothing.
use mathlib.Core.Path.{◌≡◌, refl, ◌∙◌, ap}
use mathlib.Core.List.{[], ◌∷◌}
use lib.ListN.{length}
use Rattle.reading.specs.Writing.{wrote}
use Rattle.reading.proofs.Writing.{wrote-length}
use Rattle.tokens.proofs.Writing.{second-room, third-room, put-stored, put-counted}
use Rattle.tokens.proofs.put.Goals.{then-writing, else-writing}
use Rattle.tokens.proofs.put.Goals as goal

pub bounds-out-at-then-writing : goal.bounds-out-at-then-writing
bounds-out-at-then-writing c = second-room c.args.out.now c.args.at c.args.tag (c.requires.room c.if-writing.true)

pub bounds-out-at-then-writing-2 : goal.bounds-out-at-then-writing-2
bounds-out-at-then-writing-2 c = third-room c.args.out.now c.args.at c.args.tag c.args.offset (c.requires.room c.if-writing.true)

pub shape_of-out : goal.shape_of-out
shape_of-out c =
    let stored : c.if-writing.out ≡ wrote c.args.writing c.args.out.now c.args.at (c.args.tag ∷ c.args.offset ∷ c.args.size ∷ []) =
    elim c.if-writing.branch [
      | then-writing w ↦ put-stored c.args.writing c.args.out.now _ c.args.at c.args.tag c.args.offset c.args.size w.if-writing.true w.out-is
      | else-writing w ↦ put-counted c.args.writing c.args.out.now _ c.args.at c.args.tag c.args.offset c.args.size w.if-writing.false w.out-is
    ] in
    ap length stored ∙ wrote-length c.args.writing _ _ _

pub returns : goal.returns
returns c = record {
  index = refl;
  buffer = elim c.if-writing.branch [
    | then-writing w ↦ put-stored c.args.writing c.args.out.now _ c.args.at c.args.tag c.args.offset c.args.size w.if-writing.true w.out-is
    | else-writing w ↦ put-counted c.args.writing c.args.out.now _ c.args.at c.args.tag c.args.offset c.args.size w.if-writing.false w.out-is
  ];
}
