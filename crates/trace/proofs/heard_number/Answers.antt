-- `heard_number` meets its contract. Assumes nothing.
use mathlib.Core.Path.{sym, ◌∙◌, ap}
use native.Mathlib.Omega.{arith}
use Rattle.std.specs.Prelude.{Result}
use Rattle.table.specs.Answers.{number}
use Rattle.table.specs.declared.Refusal.{Refusal}
use Rattle.live.specs.declared.Facts.{Facts}
use Rattle.live.specs.Calls.{heard_says}
use Rattle.trace.proofs.Living.{byte-bound, known-number, refused-small}
use Rattle.trace.proofs.heard_number.Goals as goal

pub overflow_mul-result : goal.overflow_mul-result
overflow_mul-result c = let f = c.in-Ok.facts in omega (arith, byte-bound f.reads, byte-bound f.extends)

pub overflow_add-result : goal.overflow_add-result
overflow_add-result c = omega (arith, byte-bound c.in-Ok.facts.reads, byte-bound c.in-Ok.facts.extends)

pub refusal_number-requires : goal.refusal_number-requires
refusal_number-requires c = refused-small _ c.in-Err.why c.in-Err.is c.requires

pub returns-in-Ok : goal.returns-in-Ok
returns-in-Ok c = known-number _ c.in-Ok.facts c.in-Ok.is

pub returns-in-Err : goal.returns-in-Err
returns-in-Err c = c.refusal_number.ensures ∙ ap (λ (v : Result Facts Refusal). number (heard_says v)) (sym c.in-Err.is)
