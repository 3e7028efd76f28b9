-- `live::find_facts` meets its contract: 10, a line that has a reading, and one for which the search is made.
-- Assumes nothing.
use mathlib.Core.Path.{refl}
use Rattle.live.proofs.Finding.{facts-refused, facts-read, facts-searched}
use Rattle.live.proofs.Answering.{not-refused}
use Rattle.live.proofs.find_facts.Goals as goal

pub returns-then-work-area_size : goal.returns-then-work-area_size
returns-then-work-area_size c = record { answer = facts-refused c.args.rules.now c.args.start c.args.line.now _ c.count-m.ensures.count c.area_size.ensures c.if-work-area_size.true; work = λ h. refl }

pub returns-then-tell : goal.returns-then-tell
returns-then-tell c =
    let e =
    facts-read c.args.rules.now c.args.start c.args.line.now _ c.count-m.ensures.count c.area_size.ensures c.if-work-area_size.false c.requires.start_bound
    c.fill.ensures.told c.tell.ensures c.if-tell.true in
    record { answer = e; work = not-refused e }

pub returns : goal.returns
returns c =
    let e =
    facts-searched c.args.rules.now c.args.start c.args.line.now _ c.count-m.ensures.count c.area_size.ensures c.if-work-area_size.false c.requires.start_bound
    c.fill.ensures.told c.tell.ensures c.if-tell.false c.can_extend-extends.ensures in
    record { answer = e; work = not-refused e }
