-- The answer for a line that a record spells: its reading written where the largest one has room, otherwise counted, then written.
-- Assumes nothing.
use Prim.Native.Nat.{ℕ, ◌*◌, ◌/◌, ◌≤◌, ◌<◌, max}
use native.Mathlib.Nat.{mul-le-mul}
use native.Mathlib.Omega.{arith}
use borrow.Author.Tests.{lt-ltb, le-ltb}
use mathlib.Core.Path.{◌≡◌, sym, ◌∙◌, ap, subst}
use mathlib.Core.Bool.{Bool, true, false, true≢false}
use mathlib.Core.List.{List, ◌++◌}
use lib.ListN.{length, drop}
use Rattle.posix.specs.Values.{Val, records}
use Rattle.posix.specs.Relation.{Posix}
use Rattle.posix.proofs.Flats.{posix-flat, posix-reads}
use Rattle.table.specs.Records.{count}
use Rattle.table.specs.Answers.{gives, refuses}
use Rattle.table.specs.Checked.{or_else}
use Rattle.table.specs.Expression.{exp_of}
use Rattle.table.proofs.Passing.{count-bound}
use Rattle.rows.specs.Layout.{area_size}
use Rattle.area.specs.Area.{part}
use Rattle.reading.specs.Codec.{record_size, encode}
use Rattle.table.specs.Buffers.{if_room, after}
use Rattle.reading.proofs.Lengths.{encode-length}
use Rattle.reading.proofs.Sizes.{records-reads}
use Rattle.reading.proofs.Writing.{sets-front}
use Rattle.matcher.specs.Walks.{most_bytes, Here, Given, Walked, Answered}
use Rattle.area.proofs.Parts.{part-line}
use Rattle.matcher.proofs.Positions.{reading}

-- the whole line at the start record
module _ {t s w : List ℕ} {k : ℕ} (h : Here t s w k (length s) (length s)) where
  -- the sizes of the table and the line
  pub sizes-small : (count t ≤ 65535) × (length s ≤ 255)
  sizes-small = (omega (arith, count-bound t h.passes), h.short)

  whole-line : {v : Val} → Posix (part s (length s) (length s)) (exp_of t k) v → Posix s (exp_of t k) v
  whole-line {v} p = subst (λ (u : List ℕ). Posix u (exp_of t k) v) (part-line s) p

  whole_part : {v : Val} → Posix s (exp_of t k) v → Posix (part s (length s) (length s)) (exp_of t k) v
  whole_part {v} p = subst (λ (u : List ℕ). Posix u (exp_of t k) v) (sym (part-line s)) p

  -- no reading is larger than the largest there can be
  whole-most : {v : Val} → Posix s (exp_of t k) v → length (encode t k v) ≤ most_bytes (count t) (length s)
  whole-most {v} p =
      let most : records v ≤ count t * max (length s) 1 =
      subst (λ (u : List ℕ). records v ≤ count t * max (length u) 1) (posix-flat p) (records-reads t h.passes k h.record_inside (posix-reads p)) in
      omega (arith, encode-length t k (posix-reads p))

  whole-small : {v : Val} → Posix s (exp_of t k) v → length (encode t k v) ≤ record_size * 65025
  whole-small p =
      let few : count t ≤ 255 = omega (arith, count-bound t h.passes) in
      let short : max (length s) 1 ≤ 255 = omega (arith, h.short) in
      let product : count t * max (length s) 1 ≤ 255 * 255 = mul-le-mul few short in
      omega (arith, whole-most p)

  -- the buffer holds every reading of the line
  abbrev Holds : List ℕ → Type 0
  Holds out = (v : Val) → Posix s (exp_of t k) v → length (encode t k v) ≤ length out

  pub most-held : (out : List ℕ) → most_bytes (count t) (length s) ≤ length out → Holds out
  most-held out l v p = omega (arith, whole-most p)

  module _ {out : List ℕ} (holds : Holds out) where
    -- room to write
    pub write-given : area_size (count t) (length s) ≤ length w → Given (encode t k) t s w k (length s) (length s) out 0 true
    write-given a =
        record {
          here = h;
          area = a;
          room = λ v p. record {
            small = omega (arith, whole-small (whole-line p));
            inside = λ e. omega (arith, holds v (whole-line p));
          };
        }

    -- the record count, and the reading in front
    pub answer-done :
        {out1 : List ℕ} {end : ℕ} → Walked (encode t k) t s k (length s) (length s) out 0 true out1 end → Answered t s k out out1 (gives (end / record_size))
    answer-done {out1} {end} d = record { answer = said; buffer = λ v p. written v p ∙ sym (ap (λ x. after x (encode t k v) out) (room v p)) }
      where
        room : (v : Val) → Posix s (exp_of t k) v → if_room (length out) (encode t k v) (records v) ≡ gives (records v)
        room v p =
            ap (λ (b : Bool). or_else b (refuses 11 (length (encode t k v))) (gives (records v))) (le-ltb (length out) (length (encode t k v)) (holds v p))

        said : (v : Val) → Posix s (exp_of t k) v → gives (end / record_size) ≡ if_room (length out) (encode t k v) (records v)
        said v p =
            let half : end / record_size ≡ records v = omega (arith, (d.stored v (whole_part p)).next, encode-length t k (posix-reads p)) in
            ap gives half ∙ sym (room v p)

        written : (v : Val) → Posix s (exp_of t k) v → out1 ≡ encode t k v ++ drop (length (encode t k v)) out
        written v p = (d.stored v (whole_part p)).buffer ∙ sets-front (encode t k v) out (holds v p)

  -- counting asks for no room
  pub count_given :
      (out : List ℕ) → area_size (count t) (length s) ≤ length w → Given (encode t k) t s w k (length s) (length s) out 0 false
  count_given out a =
      record {
        here = h;
        area = a;
        room = λ v p. record {
          small = omega (arith, whole-small (whole-line p));
          inside = λ e. absurd (true≢false (sym e));
        };
      }

  module _ {out out1 : List ℕ} {need : ℕ} (c : Walked (encode t k) t s k (length s) (length s) out 0 false out1 need) where
    needed : {v : Val} → Posix s (exp_of t k) v → need ≡ length (encode t k v)
    needed {v} p = omega (arith, (c.stored v (whole_part p)).next)

    same_out : out1 ≡ out
    same_out = (c.stored (reading h).0 (reading h).1).buffer

    -- 11, with the bytes needed
    pub answer-buffer : length out1 < need → Answered t s k out out1 (refuses 11 need)
    answer-buffer l = record { answer = said; buffer = λ v p. same_out ∙ sym (ap (λ x. after x (encode t k v) out) (sym (said v p))) }
      where
        said : (v : Val) → Posix s (exp_of t k) v → refuses 11 need ≡ if_room (length out) (encode t k v) (records v)
        said v p =
            let short : length out < length (encode t k v) = omega (arith, needed p, ap length same_out) in
            ap (refuses 11) (needed p)
            ∙ ap (λ (b : Bool). or_else b (refuses 11 (length (encode t k v))) (gives (records v))) (sym (lt-ltb (length out) (length (encode t k v)) short))

    -- room for what was counted
    pub counted-held : need ≤ length out1 → Holds out1
    counted-held l v p = omega (arith, needed p)

    -- counted, then written
    pub answer-counted :
        {out2 : List ℕ} {end : ℕ} → need ≤ length out1 → Walked (encode t k) t s k (length s) (length s) out1 0 true out2 end
        → Answered t s k out out2 (gives (end / record_size))
    answer-counted {out2} {end} l d =
        subst (λ (o : List ℕ). Answered t s k o out2 (gives (end / record_size))) same_out (answer-done (counted-held l) d)
