-- `reading::fit_element`, `reading::part_length` and `reading::fit_iterations` meet their contracts. Assumes nothing.
use native.Mathlib.Omega.{arith}
use mathlib.Core.Path.{◌≡◌, sym, ◌∙◌, ap}
use Rattle.reading.proofs.Walks.{length-there, held_found, held-other, held-unfit, fit-bounds}
use Rattle.reading.proofs.Parts.{seen, seen-one, then_found, then-first, then-second, walk-next, walk-room, walk-empty, walk-unfit, walk_end}
use Rattle.reading.proofs.+fitting.Goals as goal
use Rattle.std.proofs.Common.{◌+◌, ◌-◌, Some}

pub fit_element-returns-in_err-part : goal.fit_element-returns-in_err-part
fit_element-returns-in_err-part t c =
    rw c.from_residual.ensures
    (held-unfit _ c.part_length.ensures.passes _ c.requires.inside _ _ c.part_length.ensures.length c.in_err-part.was)

pub fit_element-record_length-written-requires : goal.fit_element-record_length-written-requires
fit_element-record_length-written-requires t c =
    length-there _ c.part_length.ensures.passes _ c.requires.inside _ _ (sym c.part_length.ensures.length ∙ c.in_ok-part.was)

pub fit_element-returns-then-written-part : goal.fit_element-returns-then-written-part
fit_element-returns-then-written-part t c =
    held_found _ c.part_length.ensures.passes _ c.requires.inside _ _ c.part_length.ensures.length c.in_ok-part.was
    c.record_length-written.ensures.length c.record_length-written.ensures.byte (omega (arith, c.if-written-part.true))

pub fit_element-returns-else-written-part : goal.fit_element-returns-else-written-part
fit_element-returns-else-written-part t c =
    held-other _ c.part_length.ensures.passes _ c.requires.inside _ _ c.part_length.ensures.length c.in_ok-part.was
    c.record_length-written.ensures.length (λ e. omega (arith, e, c.if-written-part.false))

pub fit_iterations-returns-in_err-part : goal.fit_iterations-returns-in_err-part
fit_iterations-returns-in_err-part t c =
    rw c.from_residual.ensures
    (sym (walk-unfit c.loop.invariant (omega (arith, c.loop-test.true)) (sym c.fit_element.ensures ∙ c.in_err-part.was)))

pub fit_iterations-returns-then-part-eq0 : goal.fit_iterations-returns-then-part-eq0
fit_iterations-returns-then-part-eq0 t c =
    sym
    (walk-empty c.loop.invariant (omega (arith, c.loop-test.true)) _ (sym c.fit_element.ensures ∙ c.in_ok-part.was) c.if-part-eq0.true)

pub fit_iterations-overflow_add-size : goal.fit_iterations-overflow_add-size
fit_iterations-overflow_add-size t c =
    omega (arith, c.well_formed, walk-room c.loop.invariant _ (sym c.fit_element.ensures ∙ c.in_ok-part.was))

pub fit_iterations-loop-preserved : goal.fit_iterations-loop-preserved
fit_iterations-loop-preserved t c =
    let e : c.args.times - (c.loop.counter + 1) ≡ (c.args.times - c.loop.counter) - 1 = omega arith in
    rw e
    (walk-next c.loop.invariant (omega (arith, c.loop-test.true)) _ (sym c.fit_element.ensures ∙ c.in_ok-part.was) c.if-part-eq0.false)

pub fit_iterations-returns : goal.fit_iterations-returns
fit_iterations-returns t c = sym (walk_end c.loop.invariant (omega (arith, c.loop-test.false)))

pub part_length-returns-in_err-size-clause-length : goal.part_length-returns-in_err-size-clause-length
part_length-returns-in_err-size-clause-length t c =
    rw c.from_residual.ensures
    (sym (seen _ c.look.ensures.passes _ c.requires.inside _ _ _ _ _ c.look.ensures.shape c.step-next.ensures c.in_err-size.was))

pub part_length-fit_element-requires : goal.part_length-fit_element-requires
part_length-fit_element-requires t c =
    let s = seen _ c.look.ensures.passes _ c.requires.inside _ _ _ _ _ c.look.ensures.shape c.step-next.ensures (c.in_ok-size.was ∙ ap Some c.in-Both.is) in
    (omega (arith, c.decreases, s.1), (omega (arith, c.requires.inside, s.1), s.0))

pub part_length-returns-in_err-first-in-Both-clause-length : goal.part_length-returns-in_err-first-in-Both-clause-length
part_length-returns-in_err-first-in-Both-clause-length t c =
    let s = seen _ c.look.ensures.passes _ c.requires.inside _ _ _ _ _ c.look.ensures.shape c.step-next.ensures (c.in_ok-size.was ∙ ap Some c.in-Both.is) in
    rw c.from_residual-in_err-first-in-Both.ensures (sym (s.3 ∙ then-first _ _ (sym c.fit_element.ensures ∙ c.in_err-first-in-Both.was)))

pub part_length-fit_element-requires-in-Both : goal.part_length-fit_element-requires-in-Both
part_length-fit_element-requires-in-Both t c =
    let s = seen _ c.look.ensures.passes _ c.requires.inside _ _ _ _ _ c.look.ensures.shape c.step-next.ensures (c.in_ok-size.was ∙ ap Some c.in-Both.is) in
    let f = fit-bounds _ _ _ _ s.0 _ (sym c.fit_element.ensures ∙ c.in_ok-first-in-Both.was) in
    (omega (arith, c.decreases, s.2), (omega (arith, c.requires.inside, s.2), f.end))

pub part_length-returns-in_err-second-in-Both-clause-length : goal.part_length-returns-in_err-second-in-Both-clause-length
part_length-returns-in_err-second-in-Both-clause-length t c =
    let s = seen _ c.look.ensures.passes _ c.requires.inside _ _ _ _ _ c.look.ensures.shape c.step-next.ensures (c.in_ok-size.was ∙ ap Some c.in-Both.is) in
    rw c.from_residual-in_err-second-in-Both.ensures
    (sym
    (s.3 ∙ then-second _ _ _ (sym c.fit_element.ensures ∙ c.in_ok-first-in-Both.was)
    (sym c.fit_element-in-Both.ensures ∙ c.in_err-second-in-Both.was)))

pub part_length-overflow_add-result : goal.part_length-overflow_add-result
part_length-overflow_add-result t c =
    let s = seen _ c.look.ensures.passes _ c.requires.inside _ _ _ _ _ c.look.ensures.shape c.step-next.ensures (c.in_ok-size.was ∙ ap Some c.in-Both.is) in
    let f = fit-bounds _ _ _ _ s.0 _ (sym c.fit_element.ensures ∙ c.in_ok-first-in-Both.was) in
    omega (arith, f.small, (fit-bounds _ _ _ _ f.end _ (sym c.fit_element-in-Both.ensures ∙ c.in_ok-second-in-Both.was)).small)

pub part_length-fit_iterations-requires : goal.part_length-fit_iterations-requires
part_length-fit_iterations-requires t c =
    let s = seen _ c.look.ensures.passes _ c.requires.inside _ _ _ _ _ c.look.ensures.shape c.step-next.ensures (c.in_ok-size.was ∙ ap Some c.in-Many.is) in
    (omega (arith, c.decreases, s.1), (omega (arith, c.requires.inside, s.1), s.0))

pub part_length-fit_element-requires-in-Left : goal.part_length-fit_element-requires-in-Left
part_length-fit_element-requires-in-Left t c =
    let s = seen-one _ c.look.ensures.passes _ c.requires.inside _ _ _ _ _ _ c.look.ensures.shape c.step-next.ensures c.in_ok-size.was c.in-Left.is in
    (omega (arith, c.decreases, s.1), (omega (arith, c.requires.inside, s.1), s.0))

pub part_length-returns-in-Leaf-clause-length : goal.part_length-returns-in-Leaf-clause-length
part_length-returns-in-Leaf-clause-length t c =
    let s = seen _ c.look.ensures.passes _ c.requires.inside _ _ _ _ _ c.look.ensures.shape c.step-next.ensures (c.in_ok-size.was ∙ ap Some c.in-Leaf.is) in
    sym s.1

pub part_length-returns-in_ok-second-in-Both-clause-length : goal.part_length-returns-in_ok-second-in-Both-clause-length
part_length-returns-in_ok-second-in-Both-clause-length t c =
    let s = seen _ c.look.ensures.passes _ c.requires.inside _ _ _ _ _ c.look.ensures.shape c.step-next.ensures (c.in_ok-size.was ∙ ap Some c.in-Both.is) in
    sym (s.3 ∙ then_found _ _ _ _ (sym c.fit_element.ensures ∙ c.in_ok-first-in-Both.was)
    (sym c.fit_element-in-Both.ensures ∙ c.in_ok-second-in-Both.was))

pub part_length-returns-in-Many-clause-length : goal.part_length-returns-in-Many-clause-length
part_length-returns-in-Many-clause-length t c =
    let s = seen _ c.look.ensures.passes _ c.requires.inside _ _ _ _ _ c.look.ensures.shape c.step-next.ensures (c.in_ok-size.was ∙ ap Some c.in-Many.is) in
    c.fit_iterations.ensures ∙ sym s.2

pub part_length-returns-in-Left-clause-length : goal.part_length-returns-in-Left-clause-length
part_length-returns-in-Left-clause-length t c =
    let s = seen-one _ c.look.ensures.passes _ c.requires.inside _ _ _ _ _ _ c.look.ensures.shape c.step-next.ensures c.in_ok-size.was c.in-Left.is in
    c.fit_element-in-Left.ensures ∙ sym s.2
