-- `page::Line::same_tokens` meets its contract: lists of other lengths are not of alike lines; the loop's invariant: the tokens so far are the same.
-- Assumes nothing.
use mathlib.Core.Path.{sym, ◌∙◌}
use native.Mathlib.Omega.{arith}
use Rattle.page.proofs.Comparing.{tokens_none, tokens-lengths, tokens-differ, tokens-go-on, tokens-end}
use Rattle.page.proofs.Line.same_tokens.Goals as goal

pub returns-then-self-other : goal.returns-then-self-other
returns-then-self-other c = tokens-lengths _ _ _ _ (omega (arith, c.if-self-other.true))

pub loop-i-init : goal.loop-i-init
loop-i-init c = tokens_none _ _ _ _

pub returns-then-not-same_token : goal.returns-then-not-same_token
returns-then-not-same_token c = tokens-differ _ _ _ _ c.loop-i.invariant (omega (arith, c.if-self-other.false)) (omega arith) (sym c.if-not-same_token.true ∙ c.same_token.ensures)

pub loop-i-preserved : goal.loop-i-preserved
loop-i-preserved c = tokens-go-on _ _ _ _ c.loop-i.invariant (omega (arith, c.if-self-other.false)) (omega arith) (sym c.if-not-same_token.false ∙ c.same_token.ensures)

pub returns : goal.returns
returns c = tokens-end _ _ _ _ c.loop-i.invariant (omega (arith, c.if-self-other.false)) (omega arith)
