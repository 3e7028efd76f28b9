-- `matcher::read` meets its contract: each way out is one of Outcomes.
-- Assumes nothing.
use native.Mathlib.Omega.{arith}
use mathlib.Core.Path.{refl, ◌∙◌}
use Rattle.table.proofs.Exits.{passed_on}
use Rattle.reading.proofs.Admission.{lent}
use Rattle.matcher.proofs.Outcomes.{outcome-table, records-few, outcome-line, outcome-work, Ready, whole_row, whole-fact, whole_here, outcome-missing, outcome-answered}
use Rattle.matcher.proofs.read.Goals as goal

pub returns-in_err-rules : goal.returns-in_err-rules
returns-in_err-rules c =
    let s = c.args in
    let x = outcome-table s.table.now s.start s.line.now s.work.now s.out.now _ c.admit.ensures.answer c.in_err-rules.was in
    rw (passed_on _ _ c.from_residual.ensures)
    (record { answer = x.0; buffer = x.1.0; work = x.1.1.0; relation = x.1.1.1.0; unbeaten = x.1.1.1.1.0; rivals = x.1.1.1.1.1 })

pub returns-then-n-gt255 : goal.returns-then-n-gt255
returns-then-n-gt255 c =
    let s = c.args in
    let l = lent c.admit.ensures.answer c.admit.ensures.rules c.in_ok-rules.was in
    let x = outcome-line l.given s.line.now s.work.now s.out.now (omega (arith, c.if-n-gt255.true)) in
    record { answer = x.0; buffer = x.1.0; work = x.1.1.0; relation = x.1.1.1.0; unbeaten = x.1.1.1.1.0; rivals = x.1.1.1.1.1 }

pub area_size-size-requires : goal.area_size-size-requires
area_size-size-requires c =
    let l = lent c.admit.ensures.answer c.admit.ensures.rules c.in_ok-rules.was in
    record { m_bound = rw (c.count-m.ensures.count, l.same) (records-few l.given); n_bound = c.if-n-gt255.false }

pub returns-then-work-size : goal.returns-then-work-size
returns-then-work-size c =
    let s = c.args in
    let l = lent c.admit.ensures.answer c.admit.ensures.rules c.in_ok-rules.was in
    let x = outcome-work l.given s.line.now s.work.now s.out.now c.if-n-gt255.false
    (omega (arith, rw (c.count-m.ensures.count, l.same) at c.area_size-size.ensures, c.if-work-size.true)) in
    record { answer = x.0; buffer = x.1.0; work = x.1.1.0; relation = x.1.1.1.0; unbeaten = x.1.1.1.1.0; rivals = x.1.1.1.1.1 }

pub may_spell-requires : goal.may_spell-requires
may_spell-requires c = let l = lent c.admit.ensures.answer c.admit.ensures.rules c.in_ok-rules.was in rw l.same l.given.inside

pub returns-then-not-may_spell : goal.returns-then-not-may_spell
returns-then-not-may_spell c =
    let l = lent c.admit.ensures.answer c.admit.ensures.rules c.in_ok-rules.was in
    let ready : Ready c.args.table.now c.args.start c.args.line.now c.args.work.now =
    record {
      admitted = l.given;
      short = c.if-n-gt255.false;
      large = omega (arith, rw (c.count-m.ensures.count, l.same) at c.area_size-size.ensures, c.if-work-size.false);
    } in
    let x = outcome-missing ready c.args.out.now _ ((rw l.same at c.may_spell.ensures) c.if-not-may_spell.true) in
    record { answer = x.0; buffer = x.1.0; work = x.1.1.0; relation = x.1.1.1.0; unbeaten = x.1.1.1.1.0; rivals = x.1.1.1.1.1 }

pub fill-requires : goal.fill-requires
fill-requires c =
    record { short = c.if-n-gt255.false; room = omega (arith, rw c.count-m.ensures.count at c.area_size-size.ensures, c.if-work-size.false) }

pub tell-requires : goal.tell-requires
tell-requires c =
    let l = lent c.admit.ensures.answer c.admit.ensures.rules c.in_ok-rules.was in
    let ready : Ready c.args.table.now c.args.start c.args.line.now c.args.work.now =
    record {
      admitted = l.given;
      short = c.if-n-gt255.false;
      large = omega (arith, rw (c.count-m.ensures.count, l.same) at c.area_size-size.ensures, c.if-work-size.false);
    } in
    record { inside = rw (c.count-m.ensures.count, l.same) (whole_row ready _ c.fill.ensures.length); e_le_d = omega arith }

pub returns-then-not-tell : goal.returns-then-not-tell
returns-then-not-tell c =
    let l = lent c.admit.ensures.answer c.admit.ensures.rules c.in_ok-rules.was in
    let ready : Ready c.args.table.now c.args.start c.args.line.now c.args.work.now =
    record {
      admitted = l.given;
      short = c.if-n-gt255.false;
      large = omega (arith, rw (c.count-m.ensures.count, l.same) at c.area_size-size.ensures, c.if-work-size.false);
    } in
    let x = outcome-missing ready c.args.out.now _
    (whole-fact ready (rw l.same at c.fill.ensures.told) (rw (c.count-m.ensures.count, l.same) at c.tell.ensures) ∙ c.if-not-tell.true) in
    record { answer = x.0; buffer = x.1.0; work = x.1.1.0; relation = x.1.1.1.0; unbeaten = x.1.1.1.1.0; rivals = x.1.1.1.1.1 }

pub write_reading-requires : goal.write_reading-requires
write_reading-requires c =
    let l = lent c.admit.ensures.answer c.admit.ensures.rules c.in_ok-rules.was in
    let ready : Ready c.args.table.now c.args.start c.args.line.now c.args.work.now =
    record {
      admitted = l.given;
      short = c.if-n-gt255.false;
      large = omega (arith, rw (c.count-m.ensures.count, l.same) at c.area_size-size.ensures, c.if-work-size.false);
    } in
    rw l.same
    (record {
      here = whole_here ready (rw l.same at c.fill.ensures.told) (rw (c.count-m.ensures.count, l.same) at c.tell.ensures) c.if-not-tell.false;
      whole = (refl, refl);
      area = omega (arith, ready.large, c.fill.ensures.length);
    })

pub returns : goal.returns
returns c =
    let l = lent c.admit.ensures.answer c.admit.ensures.rules c.in_ok-rules.was in
    let ready : Ready c.args.table.now c.args.start c.args.line.now c.args.work.now =
    record {
      admitted = l.given;
      short = c.if-n-gt255.false;
      large = omega (arith, rw (c.count-m.ensures.count, l.same) at c.area_size-size.ensures, c.if-work-size.false);
    } in
    let x = outcome-answered ready c.args.out.now
    (whole_here ready (rw l.same at c.fill.ensures.told) (rw (c.count-m.ensures.count, l.same) at c.tell.ensures) c.if-not-tell.false)
    (rw l.same at c.write_reading.ensures) in
    record { answer = x.0; buffer = x.1.0; work = x.1.1.0; relation = x.1.1.1.0; unbeaten = x.1.1.1.1.0; rivals = x.1.1.1.1.1 }
