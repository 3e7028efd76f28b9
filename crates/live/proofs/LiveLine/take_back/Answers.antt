-- `live::LiveLine::take_back` meets its contract: what `rules` refuses, 19, and what `find_facts` says of the line that is left.
-- Assumes nothing.
use native.Mathlib.Omega.{arith}
use mathlib.Core.Path.{refl, ◌∙◌, ap}
use Rattle.table.specs.Answers.{Said, is_refused}
use Rattle.table.proofs.Exits.{passed_on}
use Rattle.table.specs.declared.Refusal.TheVariants.{EmptyLine}
use Rattle.live.specs.Lines.{shortened}
use Rattle.live.specs.Calls.{take_back_leaves, after_call}
use Rattle.live.proofs.Answering.{left-refused, ruling, found-says, take-back-refused, take-back-none, take-back-on}
use Rattle.live.proofs.LiveLine.take_back.Goals as goal

pub returns-in_err-rules : goal.returns-in_err-rules
unfolding take_back_leaves
returns-in_err-rules c =
    let e = take-back-refused c.args.self.now _ _ _ c.rules.ensures.answer _ c.in_err-rules.was in
    record { answer = rw (passed_on _ _ c.from_residual.ensures) e; line = left-refused _ _ e; work = λ h. refl }

pub returns-then-count-eq0 : goal.returns-then-count-eq0
unfolding take_back_leaves
returns-then-count-eq0 c =
    let h = c.args.self.now in
    let l = ruling h _ c.rules.ensures.answer c.rules.ensures.rules c.in_ok-rules.was in
    let e = take-back-none h l.ruled _ (omega (arith, c.if-count-eq0.true)) in
    record { answer = e; line = left-refused _ EmptyLine e; work = λ r. refl }

pub returns : goal.returns
unfolding take_back_leaves
returns c =
    let h = c.args.self.now in
    let l = ruling h _ c.rules.ensures.answer c.rules.ensures.rules c.in_ok-rules.was in
    let on = take-back-on h l.ruled _ (λ e. omega (arith, e, c.if-count-eq0.false)) in
    let e = found-says (shortened h) _ l.same on in
    record {
      answer = rw c.settle.ensures.answer (c.find_facts-found.ensures.answer ∙ e);
      line = c.settle.ensures.line ∙ ap (λ (y : Said). after_call y (shortened h) h) (c.find_facts-found.ensures.answer ∙ e);
      work = λ r. c.find_facts-found.ensures.work (ap is_refused e ∙ r);
    }
