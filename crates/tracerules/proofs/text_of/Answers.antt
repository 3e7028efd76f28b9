-- `tracerules::text_of` meets its contract: by what `strip_suffix` found. Assumes nothing.
use Rattle.std.proofs.Common.{◌∷◌, []}
use Rattle.std.proofs.lemmas.Bool.Decides.{Decides-eqb}
use Rattle.std.proofs.lemmas.Slice.Eq.{strip_suffix_is}
use Rattle.tracerules.proofs.Text.{text-strip}
use Rattle.tracerules.proofs.text_of.Goals as goal

pub returns : goal.returns
returns c =
    rw c.unwrap_or.ensures (text-strip c.args.input c.strip_suffix.result (strip_suffix_is Decides-eqb c.args.input.now (10 ∷ []) c.strip_suffix.result c.strip_suffix.ensures.cases))
