-- What a call answers where it passes a refusal on.
-- Assumes nothing.
use mathlib.Core.Path.{◌≡◌, refl, sym, ◌∙◌}
use Rattle.std.specs.Prelude.{Option, Some, None, Result, Ok, Err, IsErr}
use Rattle.std.specs.Result.{IsErrAnd}
use Rattle.std.specs.Option.{ok_or}
use Rattle.std.proofs.lemmas.Result.{err_from_is_err_and}
use Rattle.table.specs.declared.Refusal.{Refusal}

-- the exit of a `?` gives the callee's error
pub passed_on : {A E : Type 0} (r : Result A E) (why : E) → IsErr r × IsErrAnd r (λ e. e ≡ why) → r ≡ Err why
passed_on r why h = let p = err_from_is_err_and r h.1 in rw (p.1, p.2) refl

-- an option with a refusal for none
pub refused-none : {A : Type 0} (o : Option A) (e why : Refusal) (r : Result A Refusal) → r ≡ ok_or o e → r ≡ Err why → (o ≡ None) × (why ≡ e)
refused-none None e why r f g = let h : ◌≡◌ {A = Result _ Refusal} (Err e) (Err why) = sym f ∙ g in (refl, cc)
refused-none (Some x) e why r f g = let h : ◌≡◌ {A = Result _ Refusal} (Ok x) (Err why) = sym f ∙ g in absurd cc

pub given-some : {A : Type 0} (o : Option A) (e : Refusal) (x : A) (r : Result A Refusal) → r ≡ ok_or o e → r ≡ Ok x → o ≡ Some x
given-some None e x r f g = let h : ◌≡◌ {A = Result _ Refusal} (Err e) (Ok x) = sym f ∙ g in absurd cc
given-some (Some y) e x r f g = let h : ◌≡◌ {A = Result _ Refusal} (Ok y) (Ok x) = sym f ∙ g in cc
