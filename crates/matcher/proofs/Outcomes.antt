-- Read's ways out: what each says, and what it leaves in the work area and in the output buffer.
-- Assumes nothing.
use Prim.Native.Nat.{ℕ, ◌≤◌, ◌<◌}
use native.Mathlib.Nat.{le_refl}
use native.Mathlib.Omega.{arith}
use borrow.Author.Tests.{lt-ltb, le-ltb}
use mathlib.Core.Path.{◌≡◌, refl, sym, ◌∙◌, ap, subst}
use mathlib.Core.Bool.{Bool, true, false, true≢false}
use mathlib.Core.List.{List, ◌++◌}
use lib.Dec.{ltb}
use lib.ListN.{length, get_or, drop}
use Rattle.posix.specs.Expressions.{Exp}
use Rattle.posix.specs.Values.{Val, flat, records, Reads}
use Rattle.posix.specs.Relation.{Posix}
use Rattle.posix.specs.Decision.{Parsed, missing, parse}
use Rattle.posix.specs.Spells.{spells}
use Rattle.posix.proofs.Spells.{spells-complete}
use Rattle.posix.proofs.Flats.{posix-flat, posix-reads}
use Rattle.posix.proofs.Ahead.{posix-unbeaten}
use Rattle.posix.proofs.Found.{parse-found, parse-none}
use Rattle.table.specs.declared.Refusal.{Refusal}
use Rattle.std.specs.Prelude.{Result, Err}
use Rattle.table.specs.Records.{count}
use Rattle.table.specs.Answers.{Said, gives, refuses, refusal, rules_say}
use Rattle.table.specs.Checked.{or_else}
use Rattle.table.specs.Expression.{exp_of}
use Rattle.table.proofs.Passing.{count-bound}
use Rattle.rows.specs.Layout.{area_size, tells}
use Rattle.rows.specs.Rows.{Inside}
use Rattle.rows.proofs.Places.{area_size-formula, row-held}
use Rattle.area.specs.Area.{Told}
use Rattle.reading.specs.Codec.{fits, encode, decode}
use Rattle.table.specs.Buffers.{if_room, after}
use Rattle.reading.specs.Calls.{if_start, bytes_of}
use Rattle.reading.proofs.Codec.{decode-complete}
use Rattle.reading.proofs.Lengths.{spelled-fits}
use Rattle.reading.proofs.Admission.{Admitted, refusal-numbers, not-admitted}
use Rattle.matcher.specs.Calls.{work_size, read_parsed, read_says, read_leaves, keeps_work, PosixWritten, Unbeaten}
use Rattle.matcher.specs.Demands.{Setting, NoneOutranks}
use Rattle.matcher.specs.Walks.{Here, Answered}
use Rattle.area.proofs.Parts.{part-line}
use Rattle.matcher.proofs.Positions.{reading}
use Rattle.matcher.proofs.Rivals.{outranks}

-- Read's contract, in the order of its clauses
abbrev pub Outcome : List ℕ → ℕ → List ℕ → List ℕ → List ℕ → List ℕ → List ℕ → Said → Type 0
Outcome t k s work out work1 out1 said =
    (said ≡ read_says t k s (length work) (length out))
    × ((out1 ≡ read_leaves t k s (length work) out)
    × ((keeps_work (read_says t k s (length work) (length out)) ≡ true → work1 ≡ work)
    × (((n : ℕ) → said ≡ gives n → PosixWritten t k s out out1 n)
    × (((n : ℕ) → said ≡ gives n → Unbeaten t k s out out1)
    × (Setting t k s (length work) → NoneOutranks (λ x. said ≡ x) t k s out out1)))))

refuses-gives : {x : Said} {n d m : ℕ} → x ≡ refuses n d → x ≡ gives m → ⊥
refuses-gives e f = let z : ◌≡◌ {A = ℕ} 0 1 = cc in omega arith

-- a refusal leaves the buffer
refused :
    (t : List ℕ) (k : ℕ) (s work out work1 : List ℕ) {said : Said} {n d : ℕ} → said ≡ refuses n d
    → read_says t k s (length work) (length out) ≡ refuses n d
    → (keeps_work (refuses n d) ≡ true → work1 ≡ work)
    → Outcome t k s work out work1 out said
unfolding read_leaves
refused t k s work out work1 e f kept =
    let left : out ≡ read_leaves t k s (length work) out =
    sym (ap (λ (x : Said). after x (bytes_of (parse (exp_of t k) s) (λ v. encode t k v)) out) f) in (
      e ∙ sym f,
      (
        left,
        (
          (λ g. kept (ap keeps_work (sym f) ∙ g)),
          (
            (λ n g. absurd (refuses-gives e g)),
            ((λ n g. absurd (refuses-gives e g)), outranks t k s (length work) out (e ∙ sym f) left),
          ),
        ),
      ),
    )

-- 1 to 6, and 9
pub outcome-table :
    (t : List ℕ) (k : ℕ) (s work out : List ℕ) {r : Result (List ℕ) Refusal} (why : Refusal) → rules_say r ≡ if_start t k (gives (count t)) → r ≡ Err why
    → Outcome t k s work out work out (refusal why)
unfolding read_says
outcome-table t k s work out {r} why e f =
    let x : (n : ℕ) × (d : ℕ) × (refusal why ≡ refuses n d) = refusal-numbers why in
    let g : refusal why ≡ read_says t k s (length work) (length out) =
    not-admitted t k r why e f
    (or_else (ltb 255 (length s)) (refuses 7 0)
    (or_else (ltb (length work) (work_size (count t) (length s))) (refuses 10 0) (read_parsed t k (parse (exp_of t k) s) (length out)))) in
    refused t k s work out work x.2 (sym g ∙ x.2) (λ h. refl)

-- a result says that there was room
room-gives : (b : Bool) (l m n : ℕ) → or_else b (refuses 11 l) (gives m) ≡ gives n → (b ≡ false) × (n ≡ m)
room-gives true l m n e = absurd (refuses-gives refl e)
room-gives false l m n e = (refl, cc)

-- the bytes in front of a buffer are the encoding of one reading only
same-reading :
    (t : List ℕ) (k : ℕ) (r : Exp) {v w : Val} (xs ys : List ℕ) → Reads r v → Reads r w → length (flat v) ≤ 255 → encode t k v ++ xs ≡ encode t k w ++ ys
    → v ≡ w
same-reading t k r {v} {w} xs ys p q h e =
    let i : length (flat w) ≡ length (flat v) = ap (λ (bs : List ℕ). get_or bs 2 0) (sym e) in
    let f : fits v xs ≡ fits w ys = sym (decode-complete t k r p h xs) ∙ ap (decode t k r) e ∙ decode-complete t k r q (omega arith) ys in
    cc

-- the answer for a spelled line, by its POSIX reading
module _
    {t : List ℕ} {k : ℕ} {s out out1 : List ℕ} {said : Said} {v : Val} (w : Answered t s k out out1 said) (p : Posix s (exp_of t k) v) {n : ℕ}
    (e : said ≡ gives n)
  where
    gave : (ltb (length out) (length (encode t k v)) ≡ false) × (n ≡ records v)
    gave = room-gives (ltb (length out) (length (encode t k v))) (length (encode t k v)) (records v) n (sym (w.answer v p) ∙ e)

    in-front : out1 ≡ encode t k v ++ drop (length (encode t k v)) out
    in-front =
        w.buffer v p
        ∙ ap (λ (b : Bool). after (or_else b (refuses 11 (length (encode t k v))) (gives (records v))) (encode t k v) out) gave.0

    -- it is the relation's
    posix-written : PosixWritten t k s out out1 n
    posix-written = record { value = v; posix = p; counted = gave.1; written = in-front }

    -- and no other ranks ahead of it
    unbeaten : length s ≤ 255 → Unbeaten t k s out out1
    unbeaten short =
        record {
          none_ahead = λ u q f bs rival spells-line.
              let same : v ≡ u =
              same-reading t k (exp_of t k) (drop (length (encode t k v)) out) (drop (length (encode t k u)) out) (posix-reads p) q (rw (posix-flat p) short)
              (sym in-front ∙ f) in
              posix-unbeaten (subst (λ (x : Val). Posix s (exp_of t k) x) same p) rival.reads (sym (spelled-fits rival) ∙ spells-line);
        }

room-keeps : (b : Bool) (l m : ℕ) → keeps_work (or_else b (refuses 11 l) (gives m)) ≡ true → ⊥
room-keeps true l m e = true≢false (sym e)
room-keeps false l m e = true≢false (sym e)

-- what is known of a table that passes with the start record in it
module _ {t : List ℕ} {k : ℕ} (a : Admitted t k) where
  -- the number of records is small
  pub records-few : count t ≤ 65535
  records-few = omega (arith, count-bound t a.passes)

  module _ (s work out : List ℕ) where
    said-admitted :
        read_says t k s (length work) (length out)
        ≡ or_else (ltb 255 (length s)) (refuses 7 0)
        (or_else (ltb (length work) (work_size (count t) (length s))) (refuses 10 0) (read_parsed t k (parse (exp_of t k) s) (length out)))
    unfolding read_says
    said-admitted = a.said_on _

    -- 7
    pub outcome-line : 255 < length s → Outcome t k s work out work out (refuses 7 0)
    outcome-line l = refused t k s work out work refl (said-admitted ∙ rw (lt-ltb 255 (length s) l)) (λ h. refl)

    -- 10
    pub outcome-work : length s ≤ 255 → length work < area_size (count t) (length s) → Outcome t k s work out work out (refuses 10 0)
    outcome-work short l =
        let small : length work < work_size (count t) (length s) = omega (arith, area_size-formula (count t) (length s)) in
        refused t k s work out work refl
        (said-admitted ∙ rw (le-ltb 255 (length s) short, lt-ltb (length work) (work_size (count t) (length s)) small))
        (λ h. refl)

-- what the walk needs of its arguments: the table passes with the start record in it, the line is short, and the work area is large enough
pub record Ready (t : List ℕ) (k : ℕ) (s work : List ℕ) : Type 0 where
  pub admitted : Admitted t k
  pub short : length s ≤ 255
  pub large : area_size (count t) (length s) ≤ length work

module _ {t : List ℕ} {k : ℕ} {s work : List ℕ} (r : Ready t k s work) where
  -- the start record's row of the whole line is in the area as it is filled
  pub whole_row : (work1 : List ℕ) → length work1 ≡ length work → Inside (count t) (length s) k work1
  whole_row work1 same =
      row-held (records-few r.admitted) r.short r.admitted.inside (le_refl (length s)) (omega (arith, r.large))

  module _ {work1 : List ℕ} (told : Told t s work1) {x : Bool} (e : x ≡ tells (count t) work1 k (length s) (length s)) where
    pub whole-fact : spells (exp_of t k) s ≡ x
    whole-fact =
        ap (spells (exp_of t k)) (sym (part-line s))
        ∙ sym (told.fact k (length s) (length s) r.admitted.inside (le_refl (length s)) (le_refl (length s)))
        ∙ sym e

    -- the start record spells the line
    pub whole_here : x ≡ true → Here t s work1 k (length s) (length s)
    whole_here f =
        record {
          passes = r.admitted.passes;
          told = told;
          record_inside = r.admitted.inside;
          short = r.short;
          left = le_refl (length s);
          size = le_refl (length s);
          spelled = ap (spells (exp_of t k)) (part-line s) ∙ whole-fact ∙ f;
        }

  module _ (out : List ℕ) where
    said-parsed : read_says t k s (length work) (length out) ≡ read_parsed t k (parse (exp_of t k) s) (length out)
    said-parsed =
        let enough : work_size (count t) (length s) ≤ length work = omega (arith, r.large, area_size-formula (count t) (length s)) in
        said-admitted r.admitted s work out
        ∙ rw (le-ltb 255 (length s) r.short, le-ltb (length work) (work_size (count t) (length s)) enough)

    -- 8
    pub outcome-missing : (work1 : List ℕ) → spells (exp_of t k) s ≡ false → Outcome t k s work out work1 out (refuses 8 0)
    outcome-missing work1 f =
        let none : parse (exp_of t k) s ≡ missing =
        (parse-none (exp_of t k) s).1 (λ l. true≢false (sym (spells-complete (exp_of t k) s l) ∙ f)) in
        refused t k s work out work1 refl (said-parsed ∙ ap (λ (p : Parsed). read_parsed t k p (length out)) none)
        (λ h. absurd (true≢false (sym h)))

    leaves :
        (v : Val) → Posix s (exp_of t k) v → read_says t k s (length work) (length out) ≡ if_room (length out) (encode t k v) (records v)
        → read_leaves t k s (length work) out ≡ after (if_room (length out) (encode t k v) (records v)) (encode t k v) out
    unfolding read_leaves
    leaves v p e =
        ap (λ (x : Said). after x (bytes_of (parse (exp_of t k) s) (λ u. encode t k u)) out) e
        ∙ ap (λ (x : Parsed). after (if_room (length out) (encode t k v) (records v)) (bytes_of x (λ u. encode t k u)) out) ((parse-found (exp_of t k) s v).1 p)

    -- 11, or the reading
    pub outcome-answered :
        {work1 out1 : List ℕ} {said : Said} → Here t s work1 k (length s) (length s) → Answered t s k out out1 said
        → Outcome t k s work out work1 out1 said
    outcome-answered {work1} {out1} {said} h w =
        answered (reading h).0 (subst (λ (u : List ℕ). Posix u (exp_of t k) (reading h).0) (part-line s) (reading h).1)
      where
        answered : (v : Val) → Posix s (exp_of t k) v → Outcome t k s work out work1 out1 said
        answered v p =
            let says-room : read_says t k s (length work) (length out) ≡ if_room (length out) (encode t k v) (records v) =
            said-parsed ∙ ap (λ (x : Parsed). read_parsed t k x (length out)) ((parse-found (exp_of t k) s v).1 p) in (
              w.answer v p ∙ sym says-room,
              (
                w.buffer v p ∙ sym (leaves v p says-room),
                (
                  (λ g. absurd (room-keeps (ltb (length out) (length (encode t k v))) (length (encode t k v)) (records v) (ap keeps_work (sym says-room) ∙ g))),
                  (
                    (λ n g. posix-written w p g),
                    (
                      (λ n g. unbeaten w p g r.short),
                      outranks t k s (length work) out (w.answer v p ∙ sym says-room) (w.buffer v p ∙ sym (leaves v p says-room)),
                    ),
                  ),
                ),
              ),
            )
