-- The iterations of a Star, longest first part by longest first part: counted, and stored.
-- Assumes nothing.
use Prim.Native.Nat.{ℕ, ◌+◌, ◌-◌, ◌≤◌}
use native.Mathlib.Omega.{arith}
use mathlib.Core.Path.{◌≡◌, refl, sym, ◌∙◌, ap, subst}
use mathlib.Core.Bool.{Bool}
use mathlib.Core.List.{List, [], ◌++◌, append_assoc, append-nil}
use lib.ListN.{length}
use Rattle.posix.specs.Expressions.{Exp, star}
use Rattle.posix.specs.Values.{Val, none, more}
use Rattle.posix.specs.Relation.{Posix}
use Rattle.posix.proofs.Flats.{posix-flat, posix-reads}
use Rattle.posix.proofs.Ahead.{posix-unique}
use Rattle.table.specs.Records.{count, kind_at, a_at}
use Rattle.table.specs.Expression.{exp_of}
use Rattle.rows.specs.Layout.{area_size}
use Rattle.area.specs.Area.{part}
use Rattle.reading.specs.Codec.{argument_of, encode_below, encode}
use Rattle.reading.proofs.ByteLists.{iterations-bound}
use Rattle.matcher.specs.Walks.{Here, Room, Stored, LongestCut, Given, Walked, Counted}
use Rattle.area.proofs.Parts.{part_length, part_none}
use Rattle.matcher.proofs.Cuts.{CutReading, star-reading}
use Rattle.matcher.proofs.Readings.{none-reading}
use Rattle.matcher.proofs.Storing.{stored-none, stored-join, room-first, room-rest}
use Rattle.matcher.proofs.Positions.{reading, star-a, star-exp, cut-largest, first-here, second-here}
use Rattle.matcher.proofs.Walking.{given_by, walked_by}

module _
    {t s w : List ℕ} {k d e a : ℕ} (h : Here t s w k d e) (q : a ≡ a_at t k) (z : kind_at t k ≡ 5) {v : Val}
    (p : Posix (part s d e) (exp_of t k) v)
  where
    read_star : Posix (part s d e) (star (exp_of t a)) v
    read_star = subst (λ (r : Exp). Posix (part s d e) r v) (star-exp h q z) p

    iterations-fit : argument_of v ≤ e
    iterations-fit = omega (arith, iterations-bound (posix-reads read_star), ap length (posix-flat p), part_length s d e h.left h.size)

    -- no byte is left
    star-none : e ≡ 0 → v ≡ none
    star-none o = none-reading (ap (part s d) o ∙ part_none s d) read_star

    -- the first iteration and the others
    star-cut-reading :
        {low cut : ℕ} → 1 ≤ cut → LongestCut (count t) w a k d e low cut → CutReading more (exp_of t a) (star (exp_of t a)) s d e cut v
    star-cut-reading {low} {cut} o x =
        let g = cut-largest h (omega (arith, star-a h q z, h.record_inside)) h.record_inside x in
        star-reading o (rw (star-exp h q z) at g) read_star

module _ {t s w : List ℕ} {k d e : ℕ} (h : Here t s w k d e) (z : kind_at t k ≡ 5) {times : ℕ} (g : Counted t s k d e times) where
  -- a Star's count is a byte
  pub count_small : times ≤ 255
  count_small =
      omega (arith, g.counted (reading h).0 (reading h).1, iterations-fit h refl z (reading h).1, h.size, h.left, h.short)

-- so many iterations of a part's reading are counted, and the rest reads what is left of the part
pub record Counting (t s w : List ℕ) (k d e left size times : ℕ) : Type 0 where
  pub here : Here t s w k left size
  pub value : Val
  pub rest : Val
  pub whole : Posix (part s d e) (exp_of t k) value
  pub rest_read : Posix (part s left size) (exp_of t k) rest
  pub counted : times + argument_of rest ≡ argument_of value
  pub small : times + size ≤ 255

pub counting-none : {t s w : List ℕ} {k d e : ℕ} → Here t s w k d e → Counting t s w k d e d e 0
counting-none h =
    record {
      here = h;
      value = (reading h).0;
      rest = (reading h).0;
      whole = (reading h).1;
      rest_read = (reading h).1;
      counted = omega arith;
      small = omega (arith, h.size, h.left, h.short);
    }

module _ {t s w : List ℕ} {k d e left size times : ℕ} (c : Counting t s w k d e left size times) {a : ℕ} (q : a ≡ a_at t k) (z : kind_at t k ≡ 5) where
  pub counting_more :
      {low cut : ℕ} → 1 ≤ cut → LongestCut (count t) w a k left size low cut → Counting t s w k d e (left - cut) (size - cut) (times + 1)
  counting_more {low} {cut} o x =
      let y : CutReading more (exp_of t a) (star (exp_of t a)) s left size cut c.rest =
      star-cut-reading c.here q z c.rest_read o x in
      record {
        here = second-here c.here c.here.record_inside x.found;
        value = c.value;
        rest = y.v2;
        whole = c.whole;
        rest_read = subst (λ (r : Exp). Posix (part s (left - cut) (size - cut)) r y.v2) (sym (star-exp c.here q z)) y.second;
        counted = omega (arith, c.counted, ap argument_of y.value);
        small = omega (arith, c.small, x.found.inside);
      }

  pub counting-end : size ≡ 0 → Counted t s k d e times
  counting-end n0 =
      record {
        counted = λ v o.
            let n : argument_of c.rest ≡ 0 = ap argument_of (star-none c.here q z c.rest_read n0) in
            let m : argument_of c.value ≡ argument_of v = ap argument_of (posix-unique c.whole o) in
            omega (arith, c.counted);
      }

-- some iterations of a part's reading are stored, and the rest reads what is left of the part
pub record Iterating (t s w : List ℕ) (k d e : ℕ) (out : List ℕ) (at : ℕ) (b : Bool) (left size : ℕ) (out1 : List ℕ) (next : ℕ) : Type 0 where
  pub here : Here t s w k left size
  pub value : Val
  pub rest : Val
  pub done : List ℕ
  pub whole : Posix (part s d e) (exp_of t k) value
  pub rest_read : Posix (part s left size) (exp_of t k) rest
  pub items : encode_below t k value ≡ done ++ encode_below t k rest
  pub stored : Stored done out at b out1 next
  pub room : Room (encode_below t k value) out at b

pub iterating-none :
    {t s w : List ℕ} {k d e : ℕ} {out : List ℕ} {at : ℕ} {b : Bool} → Given (encode_below t k) t s w k d e out at b
    → Iterating t s w k d e out at b d e out at
iterating-none {out = out} {at = at} {b = b} g =
    record {
      here = g.here;
      value = (reading g.here).0;
      rest = (reading g.here).0;
      done = [];
      whole = (reading g.here).1;
      rest_read = (reading g.here).1;
      items = refl;
      stored = stored-none out at b;
      room = g.room (reading g.here).0 (reading g.here).1;
    }

module _
    {t s w : List ℕ} {k d e : ℕ} {out : List ℕ} {at : ℕ} {b : Bool} {left size : ℕ} {out1 : List ℕ} {next : ℕ}
    (c : Iterating t s w k d e out at b left size out1 next) {a : ℕ} (q : a ≡ a_at t k) (z : kind_at t k ≡ 5)
  where
    pub iterating-end : size ≡ 0 → Walked (encode_below t k) t s k d e out at b out1 next
    iterating-end o =
        let n : encode_below t k c.rest ≡ [] = ap (encode_below t k) (star-none c.here q z c.rest_read o) in
        let all : c.done ≡ encode_below t k c.value = sym (append-nil c.done) ∙ ap (λ (bs : List ℕ). c.done ++ bs) (sym n) ∙ sym c.items in
        walked_by c.value c.whole (subst (λ (bs : List ℕ). Stored bs out at b out1 next) all c.stored)

    module _ {low cut : ℕ} (l : 1 ≤ cut) (x : LongestCut (count t) w a k left size low cut) where
      y : CutReading more (exp_of t a) (star (exp_of t a)) s left size cut c.rest
      y = star-cut-reading c.here q z c.rest_read l x

      split : encode_below t k c.value ≡ c.done ++ (encode t a y.v1 ++ encode_below t k y.v2)
      split =
          c.items ∙ ap (λ (v : Val). c.done ++ encode_below t k v) y.value
          ∙ ap (λ (i : ℕ). c.done ++ (encode t i y.v1 ++ encode_below t k y.v2)) (sym q)

      -- what the walk of the first iteration is given
      pub iterating-first : area_size (count t) (length s) ≤ length w → Given (encode t a) t s w a left cut out1 next b
      iterating-first o =
          given_by y.v1 (first-here c.here (omega (arith, star-a c.here q z, c.here.record_inside)) x.found) o y.first
          (room-first (encode t a y.v1) (encode_below t k y.v2)
          (room-rest c.done (encode t a y.v1 ++ encode_below t k y.v2) (subst (λ (bs : List ℕ). Room bs out at b) split c.room) c.stored))

      pub iterating-more :
          {out2 : List ℕ} {n : ℕ} → Walked (encode t a) t s a left cut out1 next b out2 n
          → Iterating t s w k d e out at b (left - cut) (size - cut) out2 n
      iterating-more o =
          record {
            here = second-here c.here c.here.record_inside x.found;
            value = c.value;
            rest = y.v2;
            done = c.done ++ encode t a y.v1;
            whole = c.whole;
            rest_read = subst (λ (r : Exp). Posix (part s (left - cut) (size - cut)) r y.v2) (sym (star-exp c.here q z)) y.second;
            items = split ∙ sym (append_assoc c.done (encode t a y.v1) (encode_below t k y.v2));
            stored = stored-join c.stored (o.stored y.v1 y.first);
            room = c.room;
          }
