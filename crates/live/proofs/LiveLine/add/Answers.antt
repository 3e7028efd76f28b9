-- `live::LiveLine::add` meets its contract: what `rules` refuses, 7, and what `find_facts` says of the line that is left.
-- Assumes nothing.
use native.Mathlib.Omega.{arith}
use mathlib.Core.Path.{refl, ◌∙◌, ap}
use Rattle.table.specs.Answers.{Said, is_refused}
use Rattle.table.proofs.Exits.{passed_on}
use Rattle.table.specs.declared.Refusal.TheVariants.{Line}
use Rattle.live.specs.Lines.{lengthened}
use Rattle.live.specs.Calls.{add_leaves, after_call}
use Rattle.live.proofs.Answering.{left-refused, ruling, found-says, add-refused, add-full, add-on}
use Rattle.live.proofs.LiveLine.add.Goals as goal

pub returns-in_err-rules : goal.returns-in_err-rules
unfolding add_leaves
returns-in_err-rules c =
    let e = add-refused c.args.self.now _ _ _ c.rules.ensures.answer _ c.in_err-rules.was c.args.byte in
    record { answer = rw (passed_on _ _ c.from_residual.ensures) e; line = left-refused _ _ e; work = λ h. refl }

pub returns-then-count-ge-LIMIT : goal.returns-then-count-ge-LIMIT
unfolding add_leaves
returns-then-count-ge-LIMIT c =
    let h = c.args.self.now in
    let l = ruling h _ c.rules.ensures.answer c.rules.ensures.rules c.in_ok-rules.was in
    let e = add-full h l.ruled _ c.args.byte (omega (arith, c.if-count-ge-LIMIT.true)) in
    record { answer = e; line = left-refused _ Line e; work = λ r. refl }

pub returns : goal.returns
unfolding add_leaves
returns c =
    let h = c.args.self.now in
    let l = ruling h _ c.rules.ensures.answer c.rules.ensures.rules c.in_ok-rules.was in
    let on = add-on h l.ruled _ c.args.byte (omega (arith, c.if-count-ge-LIMIT.false)) in
    let e = found-says (lengthened h c.args.byte) _ l.same on in
    record {
      answer = rw c.settle.ensures.answer (c.find_facts-found.ensures.answer ∙ e);
      line = c.settle.ensures.line ∙ ap (λ (y : Said). after_call y (lengthened h c.args.byte) h) (c.find_facts-found.ensures.answer ∙ e);
      work = λ r. c.find_facts-found.ensures.work (ap is_refused e ∙ r);
    }
