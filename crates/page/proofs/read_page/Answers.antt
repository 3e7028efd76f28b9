-- `page::read_page` meets its contract: the refusals in their order, then what Read says of the class bytes.
-- Assumes nothing.
use Rattle.std.proofs.Common.{rules}
use Rattle.page.specs.declared.PageRefusal.TheVariants.{LineRules, PageRules}
use Rattle.page.proofs.Exits.{mapped_err}
use Rattle.page.proofs.Answering.{let-in, scratch-free, left-refused, by-line-rules, by-page-rules, by_count, left_by_count, by-line, by-classes, left_by-classes}
use Rattle.page.proofs.read_page.Goals as goal

pub returns-in_err-map_err-clause-answer : goal.returns-in_err-map_err-clause-answer
returns-in_err-map_err-clause-answer c =
    by-line-rules _ _ _ _ c.args.out.now _ _ c.admit.ensures.answer
    (mapped_err _ LineRules (λ e y h. search rules) _ _ _ c.map_err.ensures.cases c.in_err-map_err.was) c.from_residual.ensures

pub returns-in_err-map_err-clause-buffer : goal.returns-in_err-map_err-clause-buffer
returns-in_err-map_err-clause-buffer c = left-refused _ _ _ _ _ _ _ c.from_residual.ensures (returns-in_err-map_err-clause-answer c)

pub returns-in_err-map_err-2-clause-answer : goal.returns-in_err-map_err-2-clause-answer
returns-in_err-map_err-2-clause-answer c =
    by-page-rules _ _ _ _ c.args.out.now _ _ (let-in _ _ _ _ c.admit.ensures.answer c.map_err.ensures.cases c.in_ok-map_err.was) c.admit-2.ensures.answer
    (mapped_err _ PageRules (λ e y h. search rules) _ _ _ c.map_err-2.ensures.cases c.in_err-map_err-2.was) c.from_residual-in_err-map_err-2.ensures

pub returns-in_err-map_err-2-clause-buffer : goal.returns-in_err-map_err-2-clause-buffer
returns-in_err-map_err-2-clause-buffer c = left-refused _ _ _ _ _ _ _ c.from_residual-in_err-map_err-2.ensures (returns-in_err-map_err-2-clause-answer c)

pub returns-then-count_lines-gt255-clause-answer : goal.returns-then-count_lines-gt255-clause-answer
returns-then-count_lines-gt255-clause-answer c =
    by_count _ _ _ _ c.args.out.now (let-in _ _ _ _ c.admit.ensures.answer c.map_err.ensures.cases c.in_ok-map_err.was)
    (let-in _ _ _ _ c.admit-2.ensures.answer c.map_err-2.ensures.cases c.in_ok-map_err-2.was) c.count_lines.ensures c.if-count_lines-gt255.true

pub returns-then-count_lines-gt255-clause-buffer : goal.returns-then-count_lines-gt255-clause-buffer
returns-then-count_lines-gt255-clause-buffer c =
    left_by_count _ _ _ _ _ (let-in _ _ _ _ c.admit.ensures.answer c.map_err.ensures.cases c.in_ok-map_err.was)
    (let-in _ _ _ _ c.admit-2.ensures.answer c.map_err-2.ensures.cases c.in_ok-map_err-2.was) c.count_lines.ensures c.if-count_lines-gt255.true

pub returns-in_err-count-clause-answer : goal.returns-in_err-count-clause-answer
returns-in_err-count-clause-answer c =
    by-line _ _ _ _ c.args.out.now (let-in _ _ _ _ c.admit.ensures.answer c.map_err.ensures.cases c.in_ok-map_err.was)
    (let-in _ _ _ _ c.admit-2.ensures.answer c.map_err-2.ensures.cases c.in_ok-map_err-2.was) c.count_lines.ensures c.if-count_lines-gt255.false
    c.take_lines.ensures _ c.in_err-count.was c.from_residual-in_err-count.ensures

pub returns-in_err-count-clause-buffer : goal.returns-in_err-count-clause-buffer
returns-in_err-count-clause-buffer c = left-refused _ _ _ _ _ _ _ c.from_residual-in_err-count.ensures (returns-in_err-count-clause-answer c)

pub returns-in_err-count-clause-scratch : goal.returns-in_err-count-clause-scratch
returns-in_err-count-clause-scratch c =
    scratch-free _ _ _ (let-in _ _ _ _ c.admit.ensures.answer c.map_err.ensures.cases c.in_ok-map_err.was)
    (let-in _ _ _ _ c.admit-2.ensures.answer c.map_err-2.ensures.cases c.in_ok-map_err-2.was) c.count_lines.ensures c.if-count_lines-gt255.false

pub returns-clause-answer : goal.returns-clause-answer
returns-clause-answer c =
    by-classes _ _ _ _ c.args.out.now (let-in _ _ _ _ c.admit.ensures.answer c.map_err.ensures.cases c.in_ok-map_err.was)
    (let-in _ _ _ _ c.admit-2.ensures.answer c.map_err-2.ensures.cases c.in_ok-map_err-2.was) c.count_lines.ensures c.if-count_lines-gt255.false
    c.take_lines.ensures c.in_ok-count.was _ (rw c.take_lines.auto.work at c.read_classes.ensures.answer)

pub returns-clause-buffer : goal.returns-clause-buffer
returns-clause-buffer c =
    left_by-classes _ _ _ _ _ (let-in _ _ _ _ c.admit.ensures.answer c.map_err.ensures.cases c.in_ok-map_err.was)
    (let-in _ _ _ _ c.admit-2.ensures.answer c.map_err-2.ensures.cases c.in_ok-map_err-2.was) c.count_lines.ensures c.if-count_lines-gt255.false
    c.take_lines.ensures c.in_ok-count.was _ (rw c.take_lines.auto.work at c.read_classes.ensures.buffer)

pub returns-clause-scratch : goal.returns-clause-scratch
returns-clause-scratch c =
    scratch-free _ _ _ (let-in _ _ _ _ c.admit.ensures.answer c.map_err.ensures.cases c.in_ok-map_err.was)
    (let-in _ _ _ _ c.admit-2.ensures.answer c.map_err-2.ensures.cases c.in_ok-map_err-2.was) c.count_lines.ensures c.if-count_lines-gt255.false
