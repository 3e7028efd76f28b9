-- `tokens::list_record` meets its contract: one law of Walks for each way out. Assumes nothing.
use Prim.Native.Nat.{ℕ}
use mathlib.Core.List.{List}
use mathlib.Core.Path.{◌≡◌, ◌∙◌, ap}
use native.Mathlib.Omega.{arith}
use Rattle.table.specs.Records.{tag_at}
use Rattle.reading.specs.Codec.{Record, record_at}
use Rattle.tokens.specs.Walks.{width}
use Rattle.tokens.proofs.Walks.{Fields, width_small, pass-untagged, pass-empty, pass-inside, pass-room, pass-token}
use Rattle.tokens.proofs.list_record.Goals as goal

-- what the calls read of the record
fields : (t : List ℕ) (r : Record) {number tag size kind own : ℕ} → number ≡ r.number → tag ≡ tag_at t number → size ≡ r.size → kind ≡ r.kind
    → own ≡ width kind → Fields t r tag size own
fields t r n e f k g = record { tagged = e ∙ ap (tag_at t) n; spells = f; moves = g ∙ ap width k }

pub overflow_add-unlisted : goal.overflow_add-unlisted
overflow_add-unlisted c = omega (arith, width_small c.record_kind-kind.result, c.width_of.ensures)

pub returns-then-tag-eq0 : goal.returns-then-tag-eq0
returns-then-tag-eq0 c =
    let f = fields c.args.table.now (record_at c.args.reading.now c.args.at) c.record_number-number.ensures c.tag_at-tag.ensures
    c.record_length-size.ensures.length c.record_kind-kind.ensures c.width_of.ensures in
    pass-untagged f c.args.listing (omega arith)

pub returns-then-size-eq0 : goal.returns-then-size-eq0
returns-then-size-eq0 c =
    let f = fields c.args.table.now (record_at c.args.reading.now c.args.at) c.record_number-number.ensures c.tag_at-tag.ensures
    c.record_length-size.ensures.length c.record_kind-kind.ensures c.width_of.ensures in
    pass-empty f c.args.listing (omega arith)

pub returns-then-offset-listing : goal.returns-then-offset-listing
returns-then-offset-listing c =
    let f = fields c.args.table.now (record_at c.args.reading.now c.args.at) c.record_number-number.ensures c.tag_at-tag.ensures
    c.record_length-size.ensures.length c.record_kind-kind.ensures c.width_of.ensures in
    pass-inside f c.args.listing (omega arith)

pub put-requires : goal.put-requires
put-requires c =
    let f = fields c.args.table.now (record_at c.args.reading.now c.args.at) c.record_number-number.ensures c.tag_at-tag.ensures
    c.record_length-size.ensures.length c.record_kind-kind.ensures c.width_of.ensures in
    record {
      bytes = (omega (arith, c.requires.given.near, c.record_length-size.ensures.byte), c.record_length-size.ensures.byte);
      low = c.requires.given.low;
      room = pass-room f c.args.listing (omega arith) (omega arith) (omega arith) c.requires.given;
    }

pub overflow_add-result : goal.overflow_add-result
overflow_add-result c =
    omega (arith, c.requires.given.near, c.record_length-size.ensures.byte, width_small c.record_kind-kind.result, c.width_of.ensures)

pub returns : goal.returns
returns c =
    let f = fields c.args.table.now (record_at c.args.reading.now c.args.at) c.record_number-number.ensures c.tag_at-tag.ensures
    c.record_length-size.ensures.length c.record_kind-kind.ensures c.width_of.ensures in
    pass-token f c.args.listing (omega arith) (omega arith) (omega arith) (omega arith) (omega (arith, c.put.ensures.index))
    c.put.ensures.buffer
