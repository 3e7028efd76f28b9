-- `page::take_line` meets its contract: the line's tokens, and its class where it opens a run; or its refusal.
-- Assumes nothing.
use mathlib.Core.Path.{sym}
use native.Mathlib.Omega.{arith}
use lib.Seq.{length-take-le}
use Rattle.lexer.proofs.Lexing.{lexed}
use Rattle.page.specs.Steps.{rules_of}
use Rattle.page.proofs.Taking.{tokens-within, line-goes-on, line-opens}
use Rattle.page.proofs.take_line.Goals as goal

pub overflow_mul-size : goal.overflow_mul-size
overflow_mul-size c = omega (arith, (lexed _ _ _ _ _ _ c.lex.ensures.answer c.in_ok-tokens.was c.lex.ensures.buffer).few)

pub slice_bounds-line-end : goal.slice_bounds-line-end
slice_bounds-line-end c = omega (arith, (lexed _ _ _ _ _ _ c.lex.ensures.answer c.in_ok-tokens.was c.lex.ensures.buffer).room, c.lex.auto.tokens)

pub slice_bounds-line-end-2 : goal.slice_bounds-line-end-2
slice_bounds-line-end-2 c =
    sym (length-take-le _ _ (omega (arith, (lexed _ _ _ _ _ _ c.lex.ensures.answer c.in_ok-tokens.was c.lex.ensures.buffer).room, c.lex.auto.tokens)))

pub invariant_of-line : goal.invariant_of-line
invariant_of-line c = record { inside = tokens-within (lexed _ _ _ _ _ _ c.lex.ensures.answer c.in_ok-tokens.was c.lex.ensures.buffer) }

pub returns-then-not-opens_run : goal.returns-then-not-opens_run
returns-then-not-opens_run c = line-goes-on (rules_of c.args.reader) _ _ _ _ _ _ _ _ _ _ c.lex.ensures.answer c.in_ok-tokens.was c.lex.ensures.buffer c.opens_run.ensures c.if-not-opens_run.true

pub returns : goal.returns
returns c = line-opens (rules_of c.args.reader) _ _ _ _ _ _ _ _ _ _ c.lex.ensures.answer c.in_ok-tokens.was c.lex.ensures.buffer c.opens_run.ensures c.if-not-opens_run.false c.requires c.first_name.ensures
