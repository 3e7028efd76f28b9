-- `tracerules::respond` meets its contract: by what the compiler says. Assumes nothing.
use native.Mathlib.Omega.{arith}
use Rattle.tracerules.proofs.Outputs.{done-room, replied-table, replied-complaint}
use Rattle.table.specs.Answers.{refusal, detail_in}
use Rattle.table.proofs.Refusals.{refusal-shown}
use Rattle.tracerules.proofs.respond.Goals as goal

pub overflow_mul-result : goal.overflow_mul-result
overflow_mul-result c = omega (arith, c.requires, done-room c.args.input.now c.text_of-text.result.now c.args.out.now c.compile.result c.text_of-text.ensures c.requires c.compile.ensures.answer c.in-Ok.count c.in-Ok.is)

pub returns-in-Ok : goal.returns-in-Ok
returns-in-Ok c = let x = replied-table c.args.input.now c.text_of-text.result.now c.args.out.now c.compile.result c.text_of-text.ensures c.requires c.compile.ensures.answer c.in-Ok.count _ c.in-Ok.is c.compile.ensures.buffer c.compile.auto.out in record { inside = x.0; output = x.1 }

pub returns-in-Err : goal.returns-in-Err
returns-in-Err c = let x = replied-complaint c.args.input.now c.text_of-text.result.now c.args.out.now c.compile.result c.text_of-text.ensures c.requires c.compile.ensures.answer c.number.result (detail_in (refusal c.in-Err.why)) c.in-Err.is (rw c.number.ensures (refusal-shown c.in-Err.why)) c.compile.auto.out c.put_refused.ensures.line c.put_refused.ensures.bound in record { inside = x.0; output = x.1 }
