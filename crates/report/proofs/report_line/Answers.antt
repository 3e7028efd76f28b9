-- `report::report_line` meets its contract: the lines of the tokens that Lex gave after the line's own, or the refusal. Assumes nothing.
use native.Mathlib.Omega.{arith}
use lib.ListN.{length}
use Rattle.lexer.specs.Lexing.{tokens_of}
use Rattle.lexer.proofs.Lexing.{Lexed, lexed}
use Rattle.printing.proofs.Writes.{wrote-length}
use Rattle.report.proofs.Reports.{line_refused, line_read}
use Rattle.report.proofs.report_line.Goals as goal

pub put_tokens-requires : goal.put_tokens-requires
put_tokens-requires c =
    let x : Lexed c.args.table.now c.args.start c.args.line.now c.args.tokens.now c.lex.new.tokens c.in-Ok.count =
    lexed c.args.table.now c.args.start c.args.line.now (length c.args.work.now) (length c.args.reading.now) c.args.tokens.now
    c.lex.ensures.answer c.in-Ok.is c.lex.ensures.buffer in
    record {
      tokens = omega (arith, x.room, c.lex.auto.tokens);
      room = omega (arith, x.few, c.requires.out, c.put_ok-at.ensures.bound, wrote-length c.put_ok-at.ensures.line);
    }

pub returns-in-Ok : goal.returns-in-Ok
returns-in-Ok c =
    let x : Lexed c.args.table.now c.args.start c.args.line.now c.args.tokens.now c.lex.new.tokens c.in-Ok.count =
    lexed c.args.table.now c.args.start c.args.line.now (length c.args.work.now) (length c.args.reading.now) c.args.tokens.now
    c.lex.ensures.answer c.in-Ok.is c.lex.ensures.buffer in
    let y = line_read _ _ _ c.args.number c.requires.work c.requires.reading c.requires.tokens c.lex.ensures.answer c.in-Ok.is
    x.counted c.put_ok-at.ensures.line
    (c.put_tokens.ensures.lines (tokens_of c.args.table.now c.args.start c.args.line.now) x.front)
    (omega (arith, x.few, c.put_ok-at.ensures.bound, c.put_tokens.ensures.bound)) c.requires.out in
    record { bound = y.0; size = y.1.0; buffer = y.1.1 }

pub returns-in-Err : goal.returns-in-Err
returns-in-Err c =
    let y = line_refused _ _ _ c.args.number c.requires.work c.requires.reading c.requires.tokens c.lex.ensures.answer c.in-Err.is
    c.refusal_number.ensures c.put_refused.ensures.line c.put_refused.ensures.bound c.requires.out in
    record { bound = y.0; size = y.1.0; buffer = y.1.1 }
