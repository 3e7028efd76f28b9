-- The lines of the first tokens are written, in at most 12 bytes each. Assumes nothing.
use Prim.Native.Nat.{◌+◌, ◌*◌, ◌≤◌}
use Rattle.report.specs.Report.{token_lines}
use Rattle.printing.specs.Writes.{Wrote}
use Rattle.report.proofs.TokenLines.{first_tokens}
use Rattle.report.proofs.put_tokens.Given as goal

abbrev pub invariant-loop-tag : goal.invariant-loop-tag
invariant-loop-tag l = (l.next ≤ l.at + 12 * l.tag-index) × Wrote l.initial.out l.out l.at l.next (token_lines (first_tokens l.tag-index l.tokens))
