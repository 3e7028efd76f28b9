-- `table::Rules::new` meets its contract, by what Check's answer says of the table. Assumes nothing.
use mathlib.Core.Path.{sym, ap, ◌∙◌}
use Rattle.table.specs.Answers.{gives, says}
use Rattle.table.proofs.Checking.{check-gives}
use Rattle.table.proofs.Rules.new.Goals as goal

pub of-requires : goal.of-requires
of-requires c =
    (check-gives c.args.bytes.now c.in_ok-check.field-0 (sym c.check.ensures.answer ∙ ap says c.in_ok-check.was)).0

pub returns-clause-answer : goal.returns-clause-answer
returns-clause-answer c =
    let g = sym c.check.ensures.answer ∙ ap says c.in_ok-check.was in
    rw c.of.ensures (ap gives (sym (check-gives c.args.bytes.now c.in_ok-check.field-0 g).1) ∙ sym g)
