-- `page::Line::same_tokens` meets its contract: lists of other lengths are not of alike lines; the loop's invariant: the tokens so far are the same.
-- Assumes nothing.
use Rattle.page.proofs.Comparing.{SameTokens}
use Rattle.page.proofs.Line.same_tokens.Given as goal

abbrev pub invariant-loop-i : goal.invariant-loop-i
invariant-loop-i l = SameTokens l.self.text.now l.self.tokens.now l.other.text.now l.other.tokens.now l.i
