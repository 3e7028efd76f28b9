-- What a walk leaves in a buffer that writes bytes at a position, or only counts them.
-- Assumes nothing.
use Rattle.std.specs.Prelude.{ℕ, Bool, true, false, List}
use Rattle.std.proofs.lemmas.List.Edits.{sets}

abbrev pub wrote : Bool → List ℕ → ℕ → List ℕ → List ℕ
wrote true out at bytes = sets out at bytes
wrote false out at bytes = out
