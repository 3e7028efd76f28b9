-- `live::LiveLine::new` meets its contract: the refused line, or the copy.
-- Assumes nothing.
use mathlib.Core.Path.{sym, ◌∙◌, ap}
use mathlib.Core.List.{List, ◌++◌}
use Prim.Native.Nat.{ℕ}
use lib.ListN.{length, drop, replicate}
use Rattle.table.specs.Answers.{rules_say}
use Rattle.live.proofs.Holding.{new-says, new-accepted, new-refused, copied-line}
use Rattle.live.proofs.LiveLine.new.Goals as goal

pub returns-in-Ok-clause-answer : goal.returns-in-Ok-clause-answer
returns-in-Ok-clause-answer c =
    rw c.count.ensures.count (ap rules_say (sym c.in-Ok.is) ∙ new-says c.args.table.now c.args.start _ c.admit.ensures.answer)

pub returns-in-Ok-clause-line : goal.returns-in-Ok-clause-line
returns-in-Ok-clause-line c =
    let t = c.args.table.now in
    copied-line t c.args.start _ (ap (λ (u : List ℕ). u ++ drop (length t) (replicate 1020 0)) c.copy_from_slice.ensures.after)
    ∙ sym (new-accepted t c.args.start _ c.admit.ensures.answer _ c.in-Ok.is)

pub returns-in-Err-clause-answer : goal.returns-in-Err-clause-answer
returns-in-Err-clause-answer c = ap rules_say (sym c.in-Err.is) ∙ new-says c.args.table.now c.args.start _ c.admit.ensures.answer

pub returns-in-Err-clause-line : goal.returns-in-Err-clause-line
returns-in-Err-clause-line c =
    c.refused_line.ensures ∙ sym (new-refused c.args.table.now c.args.start _ c.admit.ensures.answer _ c.in-Err.is)
