-- What Tokens answers and leaves in the output buffer (document 01, "Tokens", and the order of refusals in "Who is refused, and by which
-- number").
-- Assumes nothing.
use Rattle.std.specs.Prelude.{ℕ, List, length}
use Rattle.table.specs.Answers.{Said}
use Rattle.reading.specs.Fitting.{reading_of}
use Rattle.table.specs.Buffers.{if_room, after}
use Rattle.reading.specs.Calls.{if_start, if_fits, bytes_of}
use Rattle.tokens.specs.Tokens.{tokens_from, token_bytes}

-- Tokens: the token list from the start record, and the token count
unfoldable pub tokens_says : List ℕ → ℕ → List ℕ → ℕ → Said
tokens_says t k bs room =
    if_start t k
    (if_fits (reading_of t k bs) (λ v. if_room room (token_bytes (tokens_from t k v 0)) (length (tokens_from t k v 0))))

unfoldable pub tokens_leaves : List ℕ → ℕ → List ℕ → List ℕ → List ℕ
tokens_leaves t k bs out =
    after (tokens_says t k bs (length out)) (bytes_of (reading_of t k bs) (λ v. token_bytes (tokens_from t k v 0))) out
