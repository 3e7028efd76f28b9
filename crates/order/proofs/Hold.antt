-- The examples of the order of tokens follow from the definitions: one proof over the list.
-- Assumes nothing.
use mathlib.Core.Path.{◌≡◌, refl}
use mathlib.Core.List.{map}
use Rattle.order.specs.Verdicts.{judged, ordered}
use Rattle.order.specs.Cases.{Case, cases}

pub cases-hold : map (λ (c : Case). ordered c.tokens c.pairs) cases ≡ map (λ (c : Case). c.verdict) cases
unfolding ordered judged
cases-hold = refl
