-- `notation::take_tag` meets its contract. Assumes nothing.
use mathlib.Core.Path.{refl}
use Rattle.notation.proofs.Showing.{other_item, not-other_item}
use Rattle.notation.proofs.Taking.{tag-stops, tag-taken}
use Rattle.notation.proofs.take_tag.Goals as goal

pub returns-then-ne-clause-took : goal.returns-then-ne-clause-took
returns-then-ne-clause-took c =
    λ fs l m i stack entry s.
    rw (tag-stops i c.args.tag s (other_item c.args.walk.item _ c.ne.ensures c.if-ne.true)) tt

pub returns-clause-took : goal.returns-clause-took
returns-clause-took c =
    λ fs l m i stack entry s.
    tag-taken i c.args.tag c.requires.tag s (not-other_item _ _ c.ne.ensures c.if-ne.false) refl refl refl refl c.store_tag.ensures
