-- `plans::find_or` meets its contract. Two Ranges side by side are two letters; otherwise the record is not plain.
-- Assumes nothing.
use native.Mathlib.Omega.{arith}
use mathlib.Core.Path.{◌≡◌, sym, ◌∙◌}
use denote.Enum.Bare.{same_true}
use Rattle.std.proofs.Common.{rules}
use Rattle.table.specs.contracts.Kind.{the_type}
use Rattle.table.specs.declared.Kind.TheVariants.{Range}
use Rattle.plans.proofs.Plain.{none-kind, or-found}
use Rattle.plans.proofs.find_or.Goals as goal

pub returns-then-eq-2 : goal.returns-then-eq-2
returns-then-eq-2 c =
    let first : c.kind_at.result ≡ Range = same_true the_type (search rules) _ _ (sym c.eq.ensures ∙ c.if-eq.true) in
    let second : c.kind_at-then-eq.result ≡ Range = same_true the_type (search rules) _ _ (sym c.eq-then-eq.ensures ∙ c.if-eq-2.true) in
    or-found c.args.table.now c.requires.passes c.args.k c.requires.inside c.requires.bounded c.requires.kind c.a_at-a.ensures c.b_at-b.ensures (sym (rw first at c.kind_at.ensures.kind)) (sym (rw second at c.kind_at-then-eq.ensures.kind)) c.a_at-low.ensures c.b_at-high.ensures c.a_at-low2.ensures c.b_at-high2.ensures c.put.ensures

pub returns-else-eq : goal.returns-else-eq
returns-else-eq c = none-kind c.args.table.now c.requires.passes c.args.k c.requires.inside c.requires.bounded 3 c.requires.kind (λ z. omega arith) (λ z. omega arith) c.put_none.ensures
