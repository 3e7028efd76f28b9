-- What is printed as the input comes in blocks. Between two blocks stand the bytes kept of the line that has not ended yet, and the number of
-- lines that ended.
-- Assumes nothing.
use Rattle.std.specs.Prelude.{ℕ, suc, ◌+◌, ◌≤◌, ◌<◌, ◌≡◌, List, [], ◌++◌, length, take, drop}
use Rattle.lines.specs.Lines.{ended_lines, open_line, last_line, kept_of}
use Rattle.stream.specs.Output.{last_record, reports}

-- the reports of the lines that end in the bytes s, where u is kept of the line before them and n lines ended before
abbrev pub ended_reports : List ℕ → List ℕ → ℕ → List ℕ → List ℕ
ended_reports t u n s = reports t (last_record t) (suc n) (ended_lines u s)

-- the report of the last line at the end of the input, of which u is kept, after n lines: none where it is empty
abbrev pub last_report : List ℕ → List ℕ → ℕ → List ℕ
last_report t u n = reports t (last_record t) (suc n) (last_line u)

-- The first `taken` bytes of a block are taken: from u kept and n lines ended to u' and n'. The buffer `out` becomes `final`: exactly the
-- reports of the lines that ended stand in front, `written` bytes, and the later bytes are left. Less than the block is taken only where the
-- buffer has no room for a further report, which is at most 32,768 bytes long.
pub record Took (t u : List ℕ) (n : ℕ) (block out : List ℕ) (u' : List ℕ) (n' taken written : ℕ) (final : List ℕ) : Type 0 where
  pub within : taken ≤ length block
  pub kept : u' ≡ kept_of (open_line u (take taken block))
  pub ended : n' ≡ n + length (ended_lines u (take taken block))
  pub size : written ≡ length (ended_reports t u n (take taken block))
  pub buffer : final ≡ ended_reports t u n (take taken block) ++ drop written out
  pub stopped : taken < length block → length out < written + 32768

-- The program on its way: an input s that came in blocks of any lengths, what was printed for it, the bytes kept and the lines ended. It
-- begins with no byte and no line, and each step prints what a block left in the buffer.
pub data Went (t : List ℕ) : (s printed u : List ℕ) (n : ℕ) → Type 0 where
  begun : Went t [] [] [] 0
  went_on :
      {s p u : List ℕ} {n : ℕ} {block out u' : List ℕ} {n' taken written : ℕ} {final s' p' : List ℕ}
      → Went t s p u n
      → Took t u n block out u' n' taken written final
      → s' ≡ s ++ take taken block
      → p' ≡ p ++ take written final
      → Went t s' p' u' n'

-- what was printed for the input so far: the reports of the lines that ended in it
pub record Printed (t s p u : List ℕ) (n : ℕ) : Type 0 where
  pub reported : p ≡ ended_reports t [] 0 s
  pub kept : u ≡ kept_of (open_line [] s)
  pub ended : n ≡ length (ended_lines [] s)
