-- `lexer::lex` meets its contract: Tokens on the reading that Read gave, or Read's refusal. Assumes nothing.
use mathlib.Core.Path.{refl, sym, ◌∙◌, ap}
use native.Mathlib.Omega.{arith}
use lib.ListN.{length}
use lib.Seq.{length-take-le}
use Rattle.table.specs.Answers.{says}
use Rattle.table.proofs.Exits.{passed_on}
use Rattle.lexer.proofs.Lexing.{record-count, reading-room, front-said, front-left, line_refused}
use Rattle.lexer.proofs.lex.Goals as goal

pub returns-in_err-records : goal.returns-in_err-records
returns-in_err-records c =
    let x = line_refused c.args.table.now c.args.start c.args.line.now (length c.args.work.now) (length c.args.reading.now)
    c.args.tokens.now c.read.ensures.answer c.in_err-records.was in
    record { answer = rw (passed_on _ _ c.from_residual.ensures) x.0; buffer = x.1 }

pub overflow_mul-records : goal.overflow_mul-records
overflow_mul-records c =
    omega (
      arith,
      record-count (c.read.ensures.relation c.in_ok-records.records (ap says c.in_ok-records.was)) (length c.args.work.now)
          (length c.args.reading.now) (sym c.read.ensures.answer ∙ ap says c.in_ok-records.was),
    )

pub slice_bounds-tokens-end : goal.slice_bounds-tokens-end
slice_bounds-tokens-end c = omega (arith, reading-room (c.read.ensures.relation c.in_ok-records.records (ap says c.in_ok-records.was)))

pub slice_bounds-tokens-end-2 : goal.slice_bounds-tokens-end-2
slice_bounds-tokens-end-2 c =
    sym (length-take-le _ _ (omega (arith, reading-room (c.read.ensures.relation c.in_ok-records.records (ap says c.in_ok-records.was)))))

pub returns : goal.returns
returns c =
    let said = sym c.read.ensures.answer ∙ ap says c.in_ok-records.was in
    record {
      answer = front-said (c.read.ensures.relation c.in_ok-records.records (ap says c.in_ok-records.was)) (length c.args.work.now)
          (length c.args.reading.now) said _ (length c.args.tokens.now) c.tokens.ensures.answer refl;
      buffer = front-left (c.read.ensures.relation c.in_ok-records.records (ap says c.in_ok-records.was)) (length c.args.work.now)
          (length c.args.reading.now) said _ c.args.tokens.now c.tokens.ensures.buffer refl;
    }
