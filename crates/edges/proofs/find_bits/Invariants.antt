-- The loop of `edges::find_bits`: the bytes of the records below `j` are found, `near` is the last of them, and the bytes of the letters below
-- `j` are marked.
-- Assumes nothing.
use Prim.Native.Nat.{◌+◌, ◌≤◌}
use Rattle.edges.specs.Bits.{Found, Near}
use Rattle.edges.specs.Held.{LettersMarked}
use Rattle.edges.proofs.find_bits.Given as goal

abbrev pub invariant-loop-j : goal.invariant-loop-j
invariant-loop-j l =
    record {
      inside : l.j ≤ l.k + 1;
      found : Found l.table l.first l.last l.j l.found;
      near : Near l.found l.j l.near;
      marked : LettersMarked l.table l.j l.words;
    }
