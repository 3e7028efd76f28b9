-- What the program prints (document 01, "The program and the host"): "A refused table prints `table refused` and the number, and nothing more.
-- For each line it prints `line`, its number from 1, then `ok` and the token count or `refused` and the number; then each token's tag, offset
-- and length on a line of its own. One space parts the items, and byte 10 ends every printed line."
-- Assumes nothing.
use Rattle.std.specs.Prelude.{ℕ, List, [], ◌∷◌, ◌++◌, length}
use Rattle.table.specs.Answers.{Said, gives, refuses}
use Rattle.table.specs.Checked.{checked}
use Rattle.tokens.specs.Tokens.{Token}
use Rattle.lexer.specs.Lexing.{tokens_of, lex_says}
use Rattle.printing.specs.Decimal.{decimal}
use Rattle.report.specs.Text.{line_word, ok_word, refused_word, table_word, failure_word}

-- "Its work area is 65,536 bytes, reading buffer 32,768, token buffer 4,096."
abbrev pub work_length : ℕ
work_length = 65536

abbrev pub reading_length : ℕ
reading_length = 32768

abbrev pub token_length : ℕ
token_length = 4096

-- a token's line: tag, offset, length
abbrev pub token_line : Token → List ℕ
token_line x = decimal x.tag ++ (0x20 ∷ (decimal x.offset ++ (0x20 ∷ (decimal x.size ++ (10 ∷ [])))))

abbrev pub token_lines : List Token → List ℕ
token_lines [] = []
token_lines (x ∷ xs) = token_line x ++ token_lines xs

-- a line that was refused
abbrev pub refused_line : ℕ → ℕ → List ℕ
refused_line number r = line_word ++ (decimal number ++ (refused_word ++ (decimal r ++ (10 ∷ []))))

-- a line that was read, and its tokens
abbrev pub ok_line : ℕ → List Token → List ℕ
ok_line number xs = line_word ++ (decimal number ++ (ok_word ++ (decimal (length xs) ++ (10 ∷ token_lines xs))))

-- by what is said of its tokens. No line is refused by 11 (proofs/Room.never-buffer)
abbrev pub reported : List ℕ → ℕ → ℕ → List ℕ → Said → List ℕ
reported t k number s (gives n) = ok_line number (tokens_of t k s)
reported t k number s (refuses r d) = refused_line number r

-- what is printed for line s with its number, by table t from record k
unfoldable pub line_report : List ℕ → ℕ → ℕ → List ℕ → List ℕ
line_report t k number s = reported t k number s (lex_says t k s work_length reading_length token_length)

-- what is printed for a table: nothing where it passes
abbrev pub table_said : Said → List ℕ
table_said (gives m) = []
table_said (refuses r d) = table_word ++ (refused_word ++ (decimal r ++ (10 ∷ [])))

unfoldable pub table_report : List ℕ → List ℕ
table_report t = table_said (checked t)

-- what is said on standard error of a read that failed in the line with a number; the error's own text follows it there
abbrev pub failure_text : ℕ → List ℕ
failure_text number = failure_word ++ decimal number
