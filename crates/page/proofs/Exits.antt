-- What `map_err` was given.
-- Assumes nothing.
use mathlib.Core.Path.{◌≡◌, refl}
use Rattle.std.specs.Prelude.{Result, Ok, Err, IsErr}
use Rattle.std.specs.Result.{IsErrAnd, MatchResult}
use Rattle.std.proofs.lemmas.Result.{err_from_is_err_and}

-- what the exit of a `?` ensures
abbrev pub Exit : {A E : Type 0} → Result A E → E → Type 0
Exit r why = IsErr r × IsErrAnd r (λ e. e ≡ why)

-- a refusal that goes by another name
abbrev pub Renamed : {A E D : Type 0} → (E → D) → Result A E → D → Type 0
Renamed {E = E} f r why = (e : E) × (r ≡ Err e) × (why ≡ f e)

pub mapped_ok :
    {A E D : Type 0} (Q : E → D → Type 0) (r : Result A E) (q : Result A D) (x : A) → MatchResult r (λ x. q ≡ Ok x) (λ e. IsErrAnd q (Q e))
    → q ≡ Ok x
    → r ≡ Ok x
mapped_ok Q (Ok y) q x m e = cc
mapped_ok Q (Err y) q x m e = let p = err_from_is_err_and q m in absurd cc

pub mapped_err :
    {A E D : Type 0} (Q : E → D → Type 0) (f : E → D) → ((e : E) (y : D) → Q e y → y ≡ f e) → (r : Result A E) (q : Result A D) (why : D)
    → MatchResult r (λ x. q ≡ Ok x) (λ e. IsErrAnd q (Q e))
    → q ≡ Err why
    → Renamed f r why
mapped_err Q f h (Ok y) q why m e = absurd cc
mapped_err Q f h (Err y) q why m e =
    let p = err_from_is_err_and q m in
    let g : p.0 ≡ f y = h y p.0 p.2 in
    (y, refl, cc)
