-- `reading::spell` meets its contract: one law of Spelling for each way out. Assumes nothing.
use Rattle.table.proofs.Exits.{passed_on}
use Rattle.reading.proofs.Admission.{lent}
use Rattle.reading.proofs.Wholes.{fitting, misfitting}
use Rattle.reading.proofs.Spelling.{spell-table, spell-misfit, spell-buffer, spell-done, spell-room}
use Rattle.reading.proofs.spell.Goals as goal

pub returns-in_err-rules : goal.returns-in_err-rules
returns-in_err-rules c =
    let x = spell-table c.args.table.now c.args.start c.args.reading.now c.args.out.now _ c.admit.ensures.answer c.in_err-rules.was in
    record { answer = rw (passed_on _ _ c.from_residual.ensures) x.0; buffer = x.1 }

pub fit_whole-requires : goal.fit_whole-requires
fit_whole-requires c = let l = lent c.admit.ensures.answer c.admit.ensures.rules c.in_ok-rules.was in rw l.same l.given.inside

pub returns-in_err-size : goal.returns-in_err-size
returns-in_err-size c =
    let l = lent c.admit.ensures.answer c.admit.ensures.rules c.in_ok-rules.was in
    let m = misfitting _ _ l c.fit_whole.ensures c.ok_or.ensures.value c.in_err-size.was in
    let x = spell-misfit c.args.table.now c.args.start c.args.reading.now c.args.out.now l.given m.0 in
    record { answer = rw (passed_on _ _ c.from_residual-in_err-size.ensures, m.1) x.0; buffer = x.1 }

pub returns-then-out-size : goal.returns-then-out-size
returns-then-out-size c =
    let l = lent c.admit.ensures.answer c.admit.ensures.rules c.in_ok-rules.was in
    let x = spell-buffer c.args.out.now l.given (fitting _ _ l c.fit_whole.ensures c.ok_or.ensures.value c.in_ok-size.was) c.if-out-size.true in
    record { answer = x.0; buffer = x.1 }

pub spell_into-requires : goal.spell_into-requires
spell_into-requires c =
    spell-room c.args.out.now
    (fitting _ _ (lent c.admit.ensures.answer c.admit.ensures.rules c.in_ok-rules.was) c.fit_whole.ensures c.ok_or.ensures.value c.in_ok-size.was)
    c.if-out-size.false

pub returns : goal.returns
returns c =
    let l = lent c.admit.ensures.answer c.admit.ensures.rules c.in_ok-rules.was in
    let x = spell-done c.args.out.now l.given (fitting _ _ l c.fit_whole.ensures c.ok_or.ensures.value c.in_ok-size.was) c.if-out-size.false
    c.spell_into.ensures.size c.spell_into.ensures.buffer in
    record { answer = x.0; buffer = x.1 }
