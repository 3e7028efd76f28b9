-- `ranking::same_line` meets its contract. Assumes nothing.
use Rattle.reading.specs.Fitting.{spelled}
use Rattle.ranking.proofs.Lines.{pointwise-same, front}
use Rattle.ranking.proofs.same_line.Goals as goal
use native.Mathlib.Omega.{arith}

pub spell_into-m-requires : goal.spell_into-m-requires
spell_into-m-requires c = omega (arith, c.requires.short_first)

pub spell_into-n-requires : goal.spell_into-n-requires
spell_into-n-requires c = omega (arith, c.requires.short_second)

pub returns : goal.returns
returns c =
    rw (
      c.eq.ensures,
      front _ _ _ _ c.spell_into-m.ensures.size c.spell_into-m.ensures.buffer,
      front _ _ _ _ c.spell_into-n.ensures.size c.spell_into-n.ensures.buffer,
    )
    (pointwise-same (spelled c.args.first.now) (spelled c.args.second.now))
