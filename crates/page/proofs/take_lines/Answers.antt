-- `page::take_lines` meets its contract: the loop's invariant is what holds before each line (Going); the measure is what is left of the page.
-- Assumes nothing.
use mathlib.Core.Path.{refl}
use Rattle.std.proofs.Common.{rules}
use Rattle.page.specs.declared.PageRefusal.TheVariants.{OneLine}
use Rattle.table.proofs.Exits.{passed_on}
use Rattle.page.proofs.Exits.{mapped_err, mapped_ok}
use Rattle.page.proofs.Going.{lengths-kept, going-first, prior-within, class-room, going-refused, going_on}
use Rattle.page.proofs.take_lines.Goals as goal

pub loop-at-init : goal.loop-at-init
loop-at-init c = record {
  lengths = record { of_work = refl; of_reading = refl; of_first = refl; of_second = refl; of_classes = c.requires.classes };
  going = going-first _ _ _ _ _ _;
}

pub take_by_parity-requires-clause-classes : goal.take_by_parity-requires-clause-classes
take_by_parity-requires-clause-classes c = class-room c.loop-at.invariant.going c.loop-at.invariant.lengths c.line_end-end.ensures c.loop-at-test.true c.requires.few

pub take_by_parity-requires-clause-prior : goal.take_by_parity-requires-clause-prior
take_by_parity-requires-clause-prior c = prior-within c.loop-at.invariant.going c.loop-at.invariant.lengths

pub returns-in_err-step : goal.returns-in_err-step
returns-in_err-step c = rw (passed_on _ _ c.from_residual.ensures) (let x = mapped_err _ (λ w. OneLine w c.loop-at.number) (λ e y h. search rules) c.take_by_parity.result c.map_err.result _ c.map_err.ensures.cases c.in_err-step.was in rw x.2 (going-refused c.loop-at.invariant.going c.loop-at.invariant.lengths c.line_end-end.ensures c.loop-at-test.true _ _ c.take_by_parity.ensures.line x.0 x.1))

pub loop-at-preserved : goal.loop-at-preserved
loop-at-preserved c = record {
  lengths = lengths-kept c.loop-at.invariant.lengths c.take_by_parity.auto.work c.take_by_parity.auto.reading c.take_by_parity.auto.first c.take_by_parity.auto.second c.take_by_parity.auto.classes;
  going = going_on c.loop-at.invariant.going c.loop-at.invariant.lengths c.line_end-end.ensures c.loop-at-test.true _ _ c.take_by_parity.ensures.line c.in_ok-step.step _ (mapped_ok _ _ _ _ c.map_err.ensures.cases c.in_ok-step.was) c.next_line-at.ensures c.take_by_parity.auto.first c.take_by_parity.auto.second;
}
