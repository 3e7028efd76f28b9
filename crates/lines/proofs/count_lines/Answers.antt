-- `lines::count_lines` meets its contract: by the last byte. Assumes nothing.
use Rattle.lines.proofs.Counting.{counted-open, counted-ended}
use Rattle.lines.proofs.count_lines.Goals as goal

pub returns-in-Some : goal.returns-in-Some
returns-in-Some c = counted-open c.args.input.now _ _ c.count_ends-ended.ensures c.in-Some.ensures.value c.if-last-ne10.true

pub returns-in_default : goal.returns-in_default
returns-in_default c = counted-ended c.args.input.now _ _ c.count_ends-ended.ensures c.in-Some.ensures.value c.if-last-ne10.false
