-- `notation::word_at` meets its contract. Assumes nothing.
use native.Mathlib.Omega.{arith}
use borrow.Author.Tests.{ne_eqb}
use lib.ListN.{get_or}
use Rattle.notation.specs.Decision.{word_at}
use Rattle.notation.proofs.Words.{from_place}
use Rattle.notation.proofs.word_at.Goals as goal

pub returns-in-92 : goal.returns-in-92
unfolding word_at
returns-in-92 c = rw c.in-92.is (rw (from_place 1 c.args.text.now) at c.escaped_word.ensures)

pub returns-in-91 : goal.returns-in-91
unfolding word_at
returns-in-91 c = rw c.in-91.is (rw (from_place 1 c.args.text.now) at c.range_word.ensures)

pub returns-in-35 : goal.returns-in-35
unfolding word_at
returns-in-35 c = rw c.in-35.is (rw (from_place 1 c.args.text.now) at c.tag_word.ensures)

pub returns-in_default : goal.returns-in_default
unfolding word_at
returns-in_default c =
    rw (ne_eqb (get_or c.args.text.now 0 0) 92 (λ e. omega arith), ne_eqb (get_or c.args.text.now 0 0) 91 (λ e. omega arith), ne_eqb (get_or c.args.text.now 0 0) 35 (λ e. omega arith))
    c.byte_word.ensures
