-- `trace_read` meets its contract. Assumes nothing.
use mathlib.Core.Path.{◌∙◌, ap}
use Rattle.table.specs.Answers.{number}
use Rattle.trace.proofs.Bounds.{small-read, said-small}
use Rattle.trace.proofs.Numbered.{read-numbered}
use Rattle.trace.proofs.trace_read.Goals as goal

pub number_of-requires : goal.number_of-requires
number_of-requires c = said-small _ c.read.ensures.answer (small-read _ _ _ _ _)

pub returns : goal.returns
returns c = record {
  answer = c.number_of.ensures ∙ ap number c.read.ensures.answer;
  buffer = c.read.ensures.buffer;
  work = c.read.ensures.work;
  rivals = λ h. read-numbered c.number_of.ensures (said-small _ c.read.ensures.answer (small-read _ _ _ _ _))
      (c.read.ensures.rivals h);
}
