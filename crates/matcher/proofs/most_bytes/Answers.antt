-- `matcher::most_bytes` meets its contract: the product fits, and the line counts as one byte where it has none.
-- Assumes nothing.
use Prim.Native.Nat.{max}
use native.Mathlib.Omega.{arith}
use mathlib.Core.Path.{◌≡◌}
use Rattle.rows.proofs.Places.{offset-bound}
use Rattle.matcher.proofs.most_bytes.Goals as goal

pub returns-then-n-eq0 : goal.returns-then-n-eq0
returns-then-n-eq0 c =
    let one : max c.args.n 1 ≡ 1 = omega (arith, c.if-n-eq0.true) in
    rw one (omega arith)

pub overflow_mul-result-2 : goal.overflow_mul-result-2
overflow_mul-result-2 c = omega (arith, offset-bound c.args.m c.args.n c.requires.m_bound c.requires.n_bound)

pub overflow_mul-result-3 : goal.overflow_mul-result-3
overflow_mul-result-3 c = omega (arith, offset-bound c.args.m c.args.n c.requires.m_bound c.requires.n_bound)

pub returns : goal.returns
returns c =
    let same : max c.args.n 1 ≡ c.args.n = omega (arith, c.if-n-eq0.false) in
    rw same
