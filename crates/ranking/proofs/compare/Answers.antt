-- `ranking::compare` meets its contract: one law of Answering for each way out, and the precedence from each. Assumes nothing.
use Rattle.table.proofs.Exits.{passed_on}
use Rattle.reading.proofs.Admission.{lent}
use Rattle.reading.proofs.Wholes.{fitting, misfitting}
use Rattle.ranking.proofs.Answering.{compare-table, misfit-first, misfit-second, both-fit}
use Rattle.ranking.proofs.CompareRanks.{with-precedence}
use Rattle.ranking.proofs.compare.Goals as goal

pub returns-in_err-rules : goal.returns-in_err-rules
returns-in_err-rules c =
    let x = with-precedence _ _ _ _ (rw (passed_on _ _ c.from_residual.ensures) (compare-table _ _ _ _ _ _ c.admit.ensures.answer c.in_err-rules.was))
    in record { answer = x.0; precedence = x.1 }

pub fit_whole-requires : goal.fit_whole-requires
fit_whole-requires c = let l = lent c.admit.ensures.answer c.admit.ensures.rules c.in_ok-rules.was in rw l.same l.given.inside

pub fit_whole-requires-2 : goal.fit_whole-requires-2
fit_whole-requires-2 c = let l = lent c.admit.ensures.answer c.admit.ensures.rules c.in_ok-rules.was in rw l.same l.given.inside

pub returns-in_err-ok_or : goal.returns-in_err-ok_or
returns-in_err-ok_or c =
    let l = lent c.admit.ensures.answer c.admit.ensures.rules c.in_ok-rules.was in
    let m = misfitting _ _ l c.fit_whole.ensures c.ok_or.ensures.value c.in_err-ok_or.was in
    let x = with-precedence _ _ _ _ (rw (passed_on _ _ c.from_residual-in_err-ok_or.ensures, m.1) (misfit-first _ _ _ _ l.given m.0)) in
    record { answer = x.0; precedence = x.1 }

pub returns-in_err-ok_or-2 : goal.returns-in_err-ok_or-2
returns-in_err-ok_or-2 c =
    let l = lent c.admit.ensures.answer c.admit.ensures.rules c.in_ok-rules.was in
    let f = fitting _ _ l c.fit_whole.ensures c.ok_or.ensures.value c.in_ok-ok_or.was in
    let m = misfitting _ _ l c.fit_whole-2.ensures c.ok_or-2.ensures.value c.in_err-ok_or-2.was in
    let x = with-precedence _ _ _ _
    (rw (passed_on _ _ c.from_residual-in_err-ok_or-2.ensures, m.1) (misfit-second _ _ _ _ l.given f.fitting m.0)) in
    record { answer = x.0; precedence = x.1 }

pub compare_fitting-requires : goal.compare_fitting-requires
compare_fitting-requires c =
    let l = lent c.admit.ensures.answer c.admit.ensures.rules c.in_ok-rules.was in
    record {
      fitting_first = (fitting _ _ l c.fit_whole.ensures c.ok_or.ensures.value c.in_ok-ok_or.was).fitting;
      fitting_second = (fitting _ _ l c.fit_whole-2.ensures c.ok_or-2.ensures.value c.in_ok-ok_or-2.was).fitting;
    }

pub returns : goal.returns
returns c =
    let l = lent c.admit.ensures.answer c.admit.ensures.rules c.in_ok-rules.was in
    let f = fitting _ _ l c.fit_whole.ensures c.ok_or.ensures.value c.in_ok-ok_or.was in
    let g = fitting _ _ l c.fit_whole-2.ensures c.ok_or-2.ensures.value c.in_ok-ok_or-2.was in
    let x = with-precedence _ _ _ _
    (both-fit _ _ _ _ l.given f.fitting g.fitting _ (c.compare_fitting.ensures f.fitting g.fitting)) in
    record { answer = x.0; precedence = x.1 }
