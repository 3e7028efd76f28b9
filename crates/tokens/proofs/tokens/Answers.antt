-- `tokens::tokens` meets its contract: one law of Calls for each way out. Assumes nothing.
use native.Mathlib.Omega.{arith}
use Rattle.table.proofs.Exits.{passed_on}
use Rattle.reading.proofs.Admission.{lent}
use Rattle.reading.proofs.Wholes.{fitting, misfitting}
use Rattle.tokens.proofs.Calls.{tokens-table, tokens-misfit, count-walk, tokens-buffer, write-walk, tokens-done}
use Rattle.tokens.proofs.tokens.Goals as goal

pub returns-in_err-rules : goal.returns-in_err-rules
returns-in_err-rules c =
    let x = tokens-table c.args.table.now c.args.start c.args.reading.now c.args.out.now _ c.admit.ensures.answer c.in_err-rules.was in
    record { answer = rw (passed_on _ _ c.from_residual.ensures) x.0; buffer = x.1 }

pub fit_whole-requires : goal.fit_whole-requires
fit_whole-requires c = let l = lent c.admit.ensures.answer c.admit.ensures.rules c.in_ok-rules.was in rw l.same l.given.inside

pub returns-in_err-ok_or : goal.returns-in_err-ok_or
returns-in_err-ok_or c =
    let l = lent c.admit.ensures.answer c.admit.ensures.rules c.in_ok-rules.was in
    let m = misfitting _ _ l c.fit_whole.ensures c.ok_or.ensures.value c.in_err-ok_or.was in
    let x = tokens-misfit c.args.table.now c.args.start c.args.reading.now c.args.out.now l.given m.0 in
    record { answer = rw (passed_on _ _ c.from_residual-in_err-ok_or.ensures, m.1) x.0; buffer = x.1 }

pub list_records-needed-requires : goal.list_records-needed-requires
list_records-needed-requires c =
    let l = lent c.admit.ensures.answer c.admit.ensures.rules c.in_ok-rules.was in
    let f = (fitting _ _ l c.fit_whole.ensures c.ok_or.ensures.value c.in_ok-ok_or.was).fitting in
    rw l.same (count-walk c.args.out.now l.given f _)

pub returns-then-out-needed : goal.returns-then-out-needed
returns-then-out-needed c =
    let l = lent c.admit.ensures.answer c.admit.ensures.rules c.in_ok-rules.was in
    let f = (fitting _ _ l c.fit_whole.ensures c.ok_or.ensures.value c.in_ok-ok_or.was).fitting in
    let x = tokens-buffer c.args.out.now l.given f (rw l.same at c.list_records-needed.ensures.index) c.list_records-needed.ensures.buffer
    c.if-out-needed.true (omega arith) in
    record { answer = x.0; buffer = x.1 }

pub list_records-listed-requires : goal.list_records-listed-requires
list_records-listed-requires c =
    let l = lent c.admit.ensures.answer c.admit.ensures.rules c.in_ok-rules.was in
    let f = (fitting _ _ l c.fit_whole.ensures c.ok_or.ensures.value c.in_ok-ok_or.was).fitting in
    rw l.same
    (write-walk c.args.out.now l.given f (rw l.same at c.list_records-needed.ensures.index) c.list_records-needed.ensures.buffer
    c.if-out-needed.false)

pub returns : goal.returns
returns c =
    let l = lent c.admit.ensures.answer c.admit.ensures.rules c.in_ok-rules.was in
    let f = (fitting _ _ l c.fit_whole.ensures c.ok_or.ensures.value c.in_ok-ok_or.was).fitting in
    let x = tokens-done c.args.out.now l.given f (rw l.same at c.list_records-needed.ensures.index) c.list_records-needed.ensures.buffer
    c.if-out-needed.false (rw l.same at c.list_records-listed.ensures.index) (rw l.same at c.list_records-listed.ensures.buffer) (omega arith) in
    record { answer = x.0; buffer = x.1 }
