-- `notation::compile` meets its contract. Assumes nothing.
use mathlib.Core.Path.{sym, ◌∙◌}
use native.Mathlib.Omega.{arith}
use Rattle.std.proofs.lemmas.Result.{MatchResult-at_ok}
use Rattle.notation.proofs.Compiling.{within, not-whole, too_many, too_short, walks-again, compiles}
use Rattle.notation.proofs.compile.Goals as goal

pub returns-then-count-gt255 : goal.returns-then-count-gt255
returns-then-count-gt255 c =
    let a = too_many c.args.text.now c.args.out.now _ (sym c.in-Ok.is ∙ c.count_text.ensures) (omega arith) in
    record { answer = a.says_right; buffer = a.leaves_right }

pub returns-then-out-count : goal.returns-then-out-count
returns-then-out-count c =
    let a = too_short c.args.text.now c.args.out.now _ (sym c.in-Ok.is ∙ c.count_text.ensures) (omega arith) (omega arith) in
    record { answer = a.says_right; buffer = a.leaves_right }

pub walk_text-requires : goal.walk_text-requires
walk_text-requires c = within c.args.text.now _ (sym c.in-Ok.is ∙ c.count_text.ensures)

pub returns-in_default : goal.returns-in_default
returns-in_default c =
    let a = not-whole c.args.text.now c.args.out.now _ (sym c.in_default.is ∙ c.count_text.ensures) in
    record { answer = a.says_right; buffer = a.leaves_right }

pub returns : goal.returns
returns c =
    let e = sym c.in-Ok.is ∙ c.count_text.ensures in
    let a = compiles c.args.text.now c.args.out.now _ e _ _ c.walk_text.ensures (omega arith) (omega arith) in
    let m = MatchResult-at_ok _ _ _ (walks-again c.args.text.now c.args.out.now _ e _ _ c.walk_text.ensures) c.map_err.ensures.cases in
    record { answer = rw m a.says_right; buffer = a.leaves_right }
