-- `edges::bits_of` meets its contract: one law of Records for each kind, and one of Marks for each kind of letter. Assumes nothing.
use mathlib.Core.Path.{◌≡◌, refl, sym}
use mathlib.Core.Logic.{inl, inr}
use Rattle.table.specs.Records.{kind_at}
use Rattle.table.proofs.Passing.{a-below, b-below, star-a-below, letter_at}
use Rattle.edges.proofs.Records.{nothing-bits, empty-bits, letter-found, star-found, or-found, seq-found}
use Rattle.edges.proofs.Marks.{range-marked, other-marked}
use Rattle.edges.proofs.bits_of.Goals as goal

pub returns-in-Nothing-clause-value : goal.returns-in-Nothing-clause-value
returns-in-Nothing-clause-value c =
    let z : kind_at c.args.table.now c.args.k ≡ 0 = sym (rw c.in-Nothing.is at c.kind_at-kind.ensures.kind) in
    nothing-bits c.args.table.now _ _ c.args.k z

pub returns-in-Empty-clause-value : goal.returns-in-Empty-clause-value
returns-in-Empty-clause-value c =
    let z : kind_at c.args.table.now c.args.k ≡ 1 = sym (rw c.in-Empty.is at c.kind_at-kind.ensures.kind) in
    empty-bits c.args.table.now _ _ c.args.k z

pub returns-in-Range-clause-value : goal.returns-in-Range-clause-value
returns-in-Range-clause-value c =
    let q : 2 ≡ kind_at c.args.table.now c.args.k = rw c.in-Range.is at c.kind_at-kind.ensures.kind in
    letter-found c.args.table.now _ _ c.args.k _ _ _ q c.a_at-a.ensures c.b_at-b.ensures (letter_at c.args.table.now c.args.k q (inl refl)) _ c.letter_bits.ensures

pub returns-in-Range-clause-marked : goal.returns-in-Range-clause-marked
returns-in-Range-clause-marked c =
    let z : kind_at c.args.table.now c.args.k ≡ 2 = sym (rw c.in-Range.is at c.kind_at-kind.ensures.kind) in
    range-marked c.args.table.now _ _ _ c.a_at-a.ensures c.b_at-b.ensures _ c.requires.marked z _ c.mark_range.ensures

pub returns-in-Or-clause-value : goal.returns-in-Or-clause-value
returns-in-Or-clause-value c =
    let z : kind_at c.args.table.now c.args.k ≡ 3 = sym (rw c.in-Or.is at c.kind_at-kind.ensures.kind) in
    let p = c.kind_at-kind.ensures.passes in
    or-found c.args.table.now _ _ c.args.k _ c.requires.found _ _ c.a_at-a.ensures c.b_at-b.ensures
    (a-below _ p _ c.requires.record (inl z)) (b-below _ p _ c.requires.record (inl z)) z

pub returns-in-Seq-clause-value : goal.returns-in-Seq-clause-value
returns-in-Seq-clause-value c =
    let z : kind_at c.args.table.now c.args.k ≡ 4 = sym (rw c.in-Seq.is at c.kind_at-kind.ensures.kind) in
    let p = c.kind_at-kind.ensures.passes in
    seq-found c.args.table.now _ _ c.args.k _ c.requires.found _ _ c.a_at-a.ensures c.b_at-b.ensures
    (a-below _ p _ c.requires.record (inr z)) (b-below _ p _ c.requires.record (inr z)) z _ (rw c.found_at.ensures at c.seq_bits.ensures)

pub returns-in-Star-clause-value : goal.returns-in-Star-clause-value
returns-in-Star-clause-value c =
    let z : kind_at c.args.table.now c.args.k ≡ 5 = sym (rw c.in-Star.is at c.kind_at-kind.ensures.kind) in
    star-found c.args.table.now _ _ c.args.k _ c.requires.found _ _ c.a_at-a.ensures c.b_at-b.ensures
    (star-a-below _ c.kind_at-kind.ensures.passes _ c.requires.record z) z

pub returns-in-Other-clause-value : goal.returns-in-Other-clause-value
returns-in-Other-clause-value c =
    let q : 6 ≡ kind_at c.args.table.now c.args.k = rw c.in-Other.is at c.kind_at-kind.ensures.kind in
    letter-found c.args.table.now _ _ c.args.k _ _ _ q c.a_at-a.ensures c.b_at-b.ensures (letter_at c.args.table.now c.args.k q (inr refl)) _ c.letter_bits-in-Other.ensures

pub returns-in-Other-clause-marked : goal.returns-in-Other-clause-marked
returns-in-Other-clause-marked c =
    let z : kind_at c.args.table.now c.args.k ≡ 6 = sym (rw c.in-Other.is at c.kind_at-kind.ensures.kind) in
    other-marked c.args.table.now _ _ _ c.a_at-a.ensures c.b_at-b.ensures _ c.requires.marked z _ _ c.mark_below.ensures c.mark_above.ensures
