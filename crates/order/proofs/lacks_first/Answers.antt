-- `order::lacks_first` meets its contract: `any` computes the test of each pair.
-- Assumes nothing.
use Rattle.std.proofs.Common.{eqb, not, ◌&&◌, rules, tests}
use Rattle.std.proofs.lemmas.Iterator.{YieldsList-from_slice}
use Rattle.std.proofs.lemmas.Iterator.Search.{any_from_yields_List}
use Rattle.marks.specs.Marks.{marked}
use Rattle.order.specs.declared.Pair.{Pair}
use Rattle.order.proofs.lacks_first.Goals as goal

pub returns : goal.returns
returns c =
    any_from_yields_List (λ (p : Pair). eqb c.args.name p.second && not (marked c.args.seen.now p.first)) _ _ _ c.any.ensures.ran
    (YieldsList-from_slice c.args.pairs.now cc)
    (λ x b q k. search (rules, tests))
