-- `report::put_tokens` meets its contract. Assumes nothing.
use Rattle.std.proofs.Common.{arith}
use lib.Seq.{length-take-le}
use Rattle.printing.proofs.Writes.{wrote_as}
use Rattle.report.proofs.TokenLines.{token-room, line_at, lines_more, lines-all}
use Rattle.report.proofs.put_tokens.Goals as goal

pub loop-tag-preserved : goal.loop-tag-preserved
loop-tag-preserved c =
    let line = wrote_as c.put_token-next.ensures (line_at c.args.tokens.now c.as_chunks.result.0.now c.args.count c.loop-tag.tag-index c.as_chunks.ensures.front c.as_chunks.ensures.front_len c.loop-tag-test.true c.requires.tokens) in (
      omega (arith, token-room c.args.tokens.now _ _ c.loop-tag.tag-index _ _ line (λ j. omega (arith, c.type_inv.tokens j))),
      lines_more c.args.tokens.now _ _ _ _ c.loop-tag.tag-index _ _ c.loop-tag.invariant.1 line,
    )

pub returns-clause-lines : goal.returns-clause-lines
returns-clause-lines c =
    lines-all c.args.tokens.now _ _ _ c.args.count c.loop-tag.tag-index _ c.loop-tag.invariant.1
    (omega (arith, length-take-le c.args.count c.as_chunks.result.0.now (omega (arith, c.as_chunks.ensures.front_len, c.requires.tokens)))) c.requires.tokens
