-- `verdict_number` meets its contract. Assumes nothing.
use mathlib.Core.Path.{sym, ◌∙◌, ap, subst}
use Rattle.std.specs.Prelude.{Result}
use Rattle.table.specs.Answers.{number}
use Rattle.table.specs.declared.Refusal.{Refusal}
use Rattle.order.specs.declared.Verdict.{Verdict}
use Rattle.order.specs.Verdicts.{verdict_says}
use Rattle.trace.specs.Numbers.{Encodable}
use Rattle.trace.proofs.Ordering.{refusal-encodable}
use Rattle.trace.proofs.verdict_number.Goals as goal

pub refusal_number-requires : goal.refusal_number-requires
refusal_number-requires c =
    refusal-encodable c.in-Err.why (subst (λ (v : Result Verdict Refusal). Encodable (verdict_says v)) c.in-Err.is c.requires)

pub returns-in-Err : goal.returns-in-Err
returns-in-Err c = c.refusal_number.ensures ∙ ap (λ (v : Result Verdict Refusal). number (verdict_says v)) (sym c.in-Err.is)
