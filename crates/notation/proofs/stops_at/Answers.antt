-- `notation::stops_at` meets its contract. Assumes nothing.
use mathlib.Core.Path.{sym, ◌∙◌}
use Rattle.notation.proofs.Compiling.{stops-whole, stops-stuck}
use Rattle.notation.proofs.stops_at.Goals as goal

pub returns-in-Ok : goal.returns-in-Ok
returns-in-Ok c = stops-whole c.args.text.now _ (sym c.in-Ok.is ∙ c.count_text.ensures)

pub returns-in-Err : goal.returns-in-Err
returns-in-Err c = stops-stuck c.args.text.now _ (sym c.in-Err.is ∙ c.count_text.ensures)
