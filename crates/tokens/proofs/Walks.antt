-- The walk over the records: what it leaves behind each, and what holds before each, so that the tokens of the reading are listed at its end.
-- Assumes nothing.
use Prim.Native.Nat.{ℕ, zero, suc, ◌+◌, ◌≤◌, ◌<◌}
use mathlib.Core.Path.{◌≡◌, refl, sym, ◌∙◌, ap, ap₂, subst}
use mathlib.Core.Bool.{Bool, true, false, and-false}
use mathlib.Core.List.{List, [], ◌∷◌, ◌++◌, append_assoc, append-nil}
use native.Mathlib.Omega.{arith}
use borrow.Author.Tests.{le-leb, lt-leb, eq-eqb, ne_eqb}
use lib.Dec.{eqb}
use lib.ListN.{length, drop, length-append}
use Rattle.table.specs.Records.{count, tag_at}
use Rattle.reading.specs.Codec.{record_size, Record, record_at, records_of}
use Rattle.reading.specs.Fitting.{argument_if, byte_arguments, spelled}
use Rattle.reading.specs.Writing.{wrote}
use Rattle.reading.proofs.Places.{records-next, records-end}
use Rattle.reading.proofs.Writing.{wrote-more, wrote_none, wrote-length}
use Rattle.tokens.specs.declared.Listing.{Listing}
use Rattle.tokens.specs.Tokens.{Token, cons_if, positive, token_bytes}
use Rattle.tokens.specs.Walks.{one_if, width, is_listed, token_at, end_after, list_records, list_reading, Numbered, numbered_more, Listable, Passable, Passed}
use Rattle.tokens.proofs.Counts.{bytes_count}
use Rattle.tokens.proofs.Writing.{bytes-append}

-- the bytes of a record
pub byte_width : (kind : ℕ) → kind ≡ 1 → 1 ≡ width kind
byte_width kind e = sym (ap one_if (eq-eqb kind 1 e))

pub other_width : (kind : ℕ) → ¬ (kind ≡ 1) → 0 ≡ width kind
other_width kind e = sym (ap one_if (ne_eqb kind 1 e))

one-small : (b : Bool) → one_if b ≤ 1
one-small true = omega arith
one-small false = omega arith

pub width_small : (kind : ℕ) → width kind ≤ 1
width_small kind = one-small (eqb kind 1)

-- what is read of a record: its table record's tag, its length, and how many bytes of the line it is
pub record Fields (t : List ℕ) (r : Record) (tag size own : ℕ) : Type 0 where
  pub tagged : tag ≡ tag_at t r.number
  pub spells : size ≡ r.size
  pub moves : own ≡ width r.kind

positive-some : (n : ℕ) → 0 < n → positive n ≡ true
positive-some zero h = absurd (omega arith)
positive-some (suc n) h = refl

module _ {t : List ℕ} {r : Record} {tag size own : ℕ} (f : Fields t r tag size own) (x : Listing) where
  abbrev token : List Token
  token = token_at t r x.offset x.end

  abbrev entry : Token
  entry = record { tag = tag; offset = x.offset; size = size }

  token-if : (b : Bool) → is_listed tag size x.offset x.end ≡ b → token ≡ cons_if b entry []
  token-if b h = rw (← h, f.tagged, f.spells)

  pass :
      {writing : Bool} {old new : List ℕ} {end to : ℕ} (xs : List Token) → token ≡ xs → end ≡ end_after xs x.end
      → to ≡ x.to + length (token_bytes xs)
      → new ≡ wrote writing old x.to (token_bytes xs)
      → Passed t r writing old new x (record { offset = x.offset + own; end = end; to = to })
  pass {writing} {old} xs e g h i =
      record {
        moved = ap (λ (n : ℕ). x.offset + n) f.moves;
        ends = g ∙ sym (ap (λ (ys : List Token). end_after ys x.end) e);
        behind = h ∙ sym (ap (λ (ys : List Token). x.to + length (token_bytes ys)) e);
        holds = i ∙ sym (ap (λ (ys : List Token). wrote writing old x.to (token_bytes ys)) e);
      }

  -- a record that is not listed: untagged, empty, or inside a token
  module _ {writing : Bool} {out : List ℕ} where
    pass-none :
        is_listed tag size x.offset x.end ≡ false
        → Passed t r writing out out x (record { offset = x.offset + own; end = x.end; to = x.to })
    pass-none h = pass [] (token-if false h) refl (omega arith) (sym (wrote_none writing out x.to))

    pub pass-untagged : tag ≡ 0 → Passed t r writing out out x (record { offset = x.offset + own; end = x.end; to = x.to })
    pass-untagged e = pass-none (rw e)

    pub pass-empty : size ≡ 0 → Passed t r writing out out x (record { offset = x.offset + own; end = x.end; to = x.to })
    pass-empty e = pass-none (rw e (and-false (positive tag)))

    pub pass-inside : x.offset < x.end → Passed t r writing out out x (record { offset = x.offset + own; end = x.end; to = x.to })
    pass-inside h = pass-none (rw (lt-leb x.end x.offset h, and-false (positive size)) (and-false (positive tag)))

  -- one that is
  module _ (g : 0 < tag) (h : 0 < size) (l : x.end ≤ x.offset) where
    token-listed : token ≡ entry ∷ []
    token-listed = token-if true (rw (positive-some tag g, positive-some size h, le-leb x.end x.offset l))

    pub pass-room : {writing : Bool} {space : ℕ} → Passable t r writing space x → writing ≡ true → x.to + 3 ≤ space
    pass-room p e = omega (arith, p.room e, ap (λ (xs : List Token). length (token_bytes xs)) token-listed)

    pub pass-token :
        {writing : Bool} {out new : List ℕ} {end to : ℕ} → end ≡ x.offset + size → to ≡ x.to + 3
        → new ≡ wrote writing out x.to (token_bytes (entry ∷ []))
        → Passed t r writing out new x (record { offset = x.offset + own; end = end; to = to })
    pass-token = pass (entry ∷ []) token-listed

-- before the record at a place: the tokens so far, and those of the records from there on
pub record Walking (t bs : List ℕ) (writing : Bool) (entry out : List ℕ) (at : ℕ) (x : Listing) : Type 0 where
  pub done : List Token
  pub given : Listable t bs writing (length entry)
  pub placed : at ≤ length bs
  pub numbers : Numbered t (records_of (drop at bs))
  pub line : x.offset + length (spelled (drop at bs)) ≡ length (spelled bs)
  pub so_far : done ++ list_records t (records_of (drop at bs)) x.offset x.end ≡ list_reading t bs
  pub behind : x.to ≡ length (token_bytes done)
  pub holds : out ≡ wrote writing entry 0 (token_bytes done)

pub walk_start :
    {t bs : List ℕ} {writing : Bool} {entry : List ℕ} {offset end to : ℕ} → Listable t bs writing (length entry) → offset ≡ 0 → end ≡ 0 → to ≡ 0
    → Walking t bs writing entry entry 0 (record { offset = offset; end = end; to = to })
walk_start {t} {bs} {writing} {entry} g i j k =
    record {
      done = [];
      given = g;
      placed = omega arith;
      numbers = g.numbers;
      line = omega arith;
      so_far = ap₂ (list_records t (records_of bs)) i j;
      behind = k;
      holds = sym (wrote_none writing entry 0);
    }

numbered-first : {t : List ℕ} {r : Record} {rs : List Record} → Numbered t (r ∷ rs) → r.number < count t
numbered-first (numbered_more l n) = l

numbered-later : {t : List ℕ} {r : Record} {rs : List Record} → Numbered t (r ∷ rs) → Numbered t rs
numbered-later (numbered_more l n) = n

argument-width : (b : Bool) (y : ℕ) (s : List ℕ) → length (argument_if b y s) ≡ one_if b + length s
argument-width true y s = omega arith
argument-width false y s = omega arith

module _ {t bs : List ℕ} {writing : Bool} {entry out : List ℕ} {at : ℕ} {x : Listing} (w : Walking t bs writing entry out at x) where
  pub walk-length : length out ≡ length entry
  walk-length = ap length w.holds ∙ wrote-length writing entry 0 (token_bytes w.done)

  -- all is listed where less than a record is left
  pub walk_end :
      length bs < at + record_size
      → (x.to ≡ length (token_bytes (list_reading t bs))) × (out ≡ wrote writing entry 0 (token_bytes (list_reading t bs)))
  walk_end h =
      let all : w.done ≡ list_reading t bs =
      sym (append-nil w.done)
      ∙ ap (λ (rs : List Record). w.done ++ list_records t rs x.offset x.end) (sym (records-end bs at h))
      ∙ w.so_far in (
        w.behind ∙ ap (λ (xs : List Token). length (token_bytes xs)) all,
        w.holds ∙ ap (λ (xs : List Token). wrote writing entry 0 (token_bytes xs)) all,
      )

  module _ (h : at + record_size ≤ length bs) where
    abbrev here : List Token
    here = token_at t (record_at bs at) x.offset x.end

    abbrev next : ℕ
    next = x.offset + width (record_at bs at).kind

    abbrev later : List Token
    later = list_records t (records_of (drop (at + record_size) bs)) next (end_after here x.end)

    all_listed : w.done ++ (here ++ later) ≡ list_reading t bs
    all_listed = ap (λ (rs : List Record). w.done ++ list_records t rs x.offset x.end) (sym (records-next bs at h)) ∙ w.so_far

    numbers-here : Numbered t (record_at bs at ∷ records_of (drop (at + record_size) bs))
    numbers-here = subst (λ (rs : List Record). Numbered t rs) (records-next bs at h) w.numbers

    listed-count : x.to + length (token_bytes here) + length (token_bytes later) ≡ length (token_bytes (list_reading t bs))
    listed-count =
        omega (
          arith,
          w.behind,
          ap length all_listed,
          length-append w.done (here ++ later),
          length-append here later,
          bytes_count w.done,
          bytes_count here,
          bytes_count later,
          bytes_count (list_reading t bs),
        )

    pub walk-given : Passable t (record_at bs at) writing (length out) x
    walk-given =
        record {
          number = numbered-first numbers-here;
          near = omega (arith, w.line, w.given.short);
          low = omega (arith, listed-count, bytes_count (list_reading t bs), w.given.few);
          room = λ e. omega (arith, listed-count, w.given.room e, walk-length);
        }

    pub walk_step :
        {new : List ℕ} {y : Listing} → Passed t (record_at bs at) writing out new x y → Walking t bs writing entry new (at + record_size) y
    walk_step {new} {y} p =
        record {
          done = w.done ++ here;
          given = w.given;
          placed = h;
          numbers = numbered-later numbers-here;
          line =
              omega (
                arith,
                w.line,
                p.moved,
                ap (λ (rs : List Record). length (byte_arguments rs)) (records-next bs at h),
                argument-width (eqb (record_at bs at).kind 1) (record_at bs at).argument (spelled (drop (at + record_size) bs)),
              );
          so_far =
              append_assoc w.done here (list_records t (records_of (drop (at + record_size) bs)) y.offset y.end)
              ∙ ap₂ (λ (i e : ℕ). w.done ++ (here ++ list_records t (records_of (drop (at + record_size) bs)) i e)) p.moved p.ends
              ∙ all_listed;
          behind =
              omega
              (arith, p.behind, w.behind, ap length (bytes-append w.done here), length-append (token_bytes w.done) (token_bytes here));
          holds =
              p.holds ∙ ap (λ (o : List ℕ). wrote writing o x.to (token_bytes here)) w.holds
              ∙ wrote-more writing (token_bytes w.done) (token_bytes here) entry 0 x.to (omega (arith, w.behind))
              ∙ ap (wrote writing entry 0) (sym (bytes-append w.done here));
        }
