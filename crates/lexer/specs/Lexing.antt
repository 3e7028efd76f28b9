-- The tokens of a line (document 01, "Read and its space" and "Tokens"): those of the reading that the relation gives it. A line is refused by
-- Read's refusals, then by Tokens' 11.
-- Assumes nothing.
use Rattle.std.specs.Prelude.{ℕ, List, [], length}
use Rattle.posix.specs.Decision.{Parsed, found, missing, parse}
use Rattle.table.specs.Answers.{Said}
use Rattle.table.specs.Expression.{exp_of}
use Rattle.table.specs.Buffers.{if_room, after}
use Rattle.reading.specs.Calls.{if_passed}
use Rattle.tokens.specs.Tokens.{Token, tokens_from, token_bytes}
use Rattle.matcher.specs.Calls.{read_says}

-- the tokens of a reading, or none where there is none
abbrev pub reading_tokens : List ℕ → ℕ → Parsed → List Token
reading_tokens t k (found v) = tokens_from t k v 0
reading_tokens t k missing = []

-- the tokens of line s by table t from record k
abbrev pub tokens_of : List ℕ → ℕ → List ℕ → List Token
tokens_of t k s = reading_tokens t k (parse (exp_of t k) s)

-- Read's refusals, then 11 where the token buffer is shorter than the tokens, or the token count
unfoldable pub lex_says : List ℕ → ℕ → List ℕ → ℕ → ℕ → ℕ → Said
lex_says t k s work room space =
    if_passed (read_says t k s work room) (if_room space (token_bytes (tokens_of t k s)) (length (tokens_of t k s)))

-- the token buffer afterwards: the tokens in front and the later bytes left, or nothing changed
unfoldable pub lex_leaves : List ℕ → ℕ → List ℕ → ℕ → ℕ → List ℕ → List ℕ
lex_leaves t k s work room list = after (lex_says t k s work room (length list)) (token_bytes (tokens_of t k s)) list
