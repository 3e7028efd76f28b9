-- What Spell and Tokens leave where they refuse (demand 1).
-- Assumes nothing.
use Prim.Native.Nat.{ℕ}
use mathlib.Core.Path.{◌≡◌}
use mathlib.Core.List.{List}
use lib.ListN.{length}
use Rattle.table.specs.Answers.{refuses}
use Rattle.reading.specs.Calls.{spell_says, spell_leaves}
use Rattle.tokens.specs.Listed.{tokens_says, tokens_leaves}
use Rattle.matcher.proofs.Written.{after-refusal}

pub spell-refused : (t : List ℕ) (k : ℕ) (bs out : List ℕ) (n d : ℕ) → spell_says t k bs (length out) ≡ refuses n d → spell_leaves t k bs out ≡ out
unfolding spell_leaves
spell-refused t k bs out n d e = after-refusal (spell_says t k bs (length out)) n d _ out e

pub tokens-refused : (t : List ℕ) (k : ℕ) (bs out : List ℕ) (n d : ℕ) → tokens_says t k bs (length out) ≡ refuses n d → tokens_leaves t k bs out ≡ out
unfolding tokens_leaves
tokens-refused t k bs out n d e = after-refusal (tokens_says t k bs (length out)) n d _ out e
