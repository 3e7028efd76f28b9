-- `ranking::earlier` meets its contract: what it hands back by what Compare says. Assumes nothing.
use mathlib.Core.Path.{refl, sym, ◌∙◌}
use native.Mathlib.Omega.{arith}
use Rattle.ranking.proofs.Answering.{chosen-first, chosen-second, chosen-neither, first-second, first-neither, second-neither}
use Rattle.ranking.proofs.earlier.Goals as goal

pub returns-then-verdict-lt2 : goal.returns-then-verdict-lt2
returns-then-verdict-lt2 c =
    let a = chosen-first _ _ _ c.compare.ensures.answer c.in-Ok.is (omega (arith, c.if-verdict-lt2.true)) in
    record { ahead = (λ e. refl); behind = (λ e. absurd (first-second (sym a ∙ e))); refused = λ e. absurd (first-neither (sym a ∙ e)) }

pub returns-else-verdict-lt2 : goal.returns-else-verdict-lt2
returns-else-verdict-lt2 c =
    let a = chosen-second _ _ _ c.compare.ensures.answer c.in-Ok.is (omega (arith, c.if-verdict-lt2.false)) in
    record { ahead = (λ e. absurd (first-second (sym e ∙ a))); behind = (λ e. refl); refused = λ e. absurd (second-neither (sym a ∙ e)) }

pub returns-in-Err : goal.returns-in-Err
returns-in-Err c =
    let a = chosen-neither _ _ _ c.compare.ensures.answer c.in-Err.is in
    record { ahead = (λ e. absurd (first-neither (sym e ∙ a))); behind = (λ e. absurd (second-neither (sym e ∙ a))); refused = λ e. (refl, refl) }
