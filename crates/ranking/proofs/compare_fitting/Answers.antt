-- `ranking::compare_fitting` meets its contract: one law of Answering for each way out. Assumes nothing.
use mathlib.Core.Path.{sym, ◌∙◌}
use native.Mathlib.Omega.{arith}
use Rattle.reading.proofs.Lengths.{fits-short}
use Rattle.ranking.proofs.Answering.{lines-differ, ranks}
use Rattle.ranking.proofs.compare_fitting.Goals as goal

pub same_line-requires : goal.same_line-requires
same_line-requires c =
    record { short_first = omega (arith, fits-short c.requires.fitting_first); short_second = omega (arith, fits-short c.requires.fitting_second) }

pub returns-then-same_line : goal.returns-then-same_line
returns-then-same_line c =
    λ f g. ranks f g (sym c.if-same_line.true ∙ c.same_line.ensures) (c.verdict_of.ensures ∙ c.rank_records.ensures)

pub returns : goal.returns
returns c = λ f g. lines-differ f g (sym c.if-same_line.false ∙ c.same_line.ensures)
