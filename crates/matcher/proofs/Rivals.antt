-- No rival outranks the reading that Read writes, and none exists where it says that there is none (demand 3).
-- Assumes nothing.
use Prim.Native.Nat.{ℕ, ◌≤◌, ◌<◌}
use mathlib.Core.Path.{◌≡◌, refl, sym, ◌∙◌, ap, subst}
use mathlib.Core.Bool.{Bool, true, false}
use mathlib.Core.List.{List}
use mathlib.Core.Logic.{◌↔◌, ⊎_elim}
use native.Mathlib.Omega.{arith}
use borrow.Author.Tests.{lt-ltb, le-ltb, ltb-true}
use lib.Dec.{ltb}
use lib.ListN.{length}
use Rattle.posix.specs.Values.{Val, flat, records}
use Rattle.posix.specs.Language.{L}
use Rattle.posix.specs.Relation.{Posix}
use Rattle.posix.specs.Precedence.{Ahead}
use Rattle.posix.specs.Decision.{Parsed, found, missing, parse}
use Rattle.posix.proofs.Flats.{posix-flat, posix-reads, reads-spelled}
use Rattle.posix.proofs.Ahead.{posix-ahead, posix-best}
use Rattle.posix.proofs.Parse.{parse-sound, parse-missing}
use Rattle.table.specs.Records.{count}
use Rattle.table.specs.Expression.{exp_of}
use Rattle.table.specs.Answers.{Said, gives, refuses}
use Rattle.table.proofs.Checking.{check-passes}
use Rattle.reading.specs.Codec.{encode}
use Rattle.reading.specs.Fitting.{Fits}
use Rattle.table.specs.Buffers.{if_room}
use Rattle.reading.proofs.Lengths.{encode-length, spelled-fits}
use Rattle.reading.proofs.ByteLists.{encode-bytes}
use Rattle.ranking.specs.Answers.{compare_says}
use Rattle.ranking.specs.OneLine.{OneLine}
use Rattle.ranking.proofs.CompareRanks.{compared}
use Rattle.matcher.specs.Calls.{work_size, read_parsed, read_says, read_leaves}
use Rattle.matcher.specs.Demands.{Rival, Best, Setting, ReadsBest, NoneOutranks}

module _ (t : List ℕ) (k : ℕ) (s : List ℕ) (work : ℕ) (h : Setting t k s work) where
  -- in the setting only 8, 11 and a reading are left
  settled : (room : ℕ) → read_says t k s work room ≡ read_parsed t k (parse (exp_of t k) s) room
  unfolding read_says
  settled room =
      rw (check-passes t h.passes, lt-ltb k (count t) h.inside, le-ltb 255 (length s) h.short, le-ltb work (work_size (count t) (length s)) h.enough)

  module _ (v : Val) (p : Posix s (exp_of t k) v) where
    -- the encoding of the POSIX reading fits and spells the line
    own : Rival t k s (encode t k v)
    own =
        let e : flat v ≡ s = posix-flat p in
        let short : length (flat v) ≤ 255 = rw e h.short in
        let f : Fits t k (encode t k v) = record { value = v; reads = posix-reads p; encoded = refl; short = short } in
        record {
          bytes = encode-bytes t h.passes k h.inside (posix-reads p) short;
          fits = f;
          spells = spelled-fits f ∙ e;
        }

    lines : (bs : List ℕ) (r : Rival t k s bs) → flat r.fits.value ≡ s
    lines bs r = sym (spelled-fits r.fits) ∙ r.spells

    -- two rivals, as Compare is lent them
    both : {bs cs : List ℕ} → Rival t k s bs → Rival t k s cs → OneLine t k bs cs
    both b c =
        record {
          passes = h.passes;
          inside = h.inside;
          first = b.fits;
          second = c.fits;
          same_line = b.spells ∙ sym c.spells;
        }

    -- it ranks ahead of every other
    own-best : Best t k s (encode t k v)
    unfolding own both
    own-best = record { rival = own; ahead = ahead }
      where
        ahead : (cs : List ℕ) → Rival t k s cs → ¬ (cs ≡ encode t k v) → (compare_says t k (encode t k v) cs ≡ gives 1) × (compare_says t k cs (encode t k v) ≡ gives 2)
        ahead cs r n =
            let a : Ahead v r.fits.value =
            posix-best p r.fits.reads (lines cs r) (λ e. n (r.fits.encoded ∙ ap (encode t k) e)) in
            ((compared (both own r)).first_ahead.1 a, (compared (both r own)).second_ahead.1 a)

    -- no other does
    own-only : (bs : List ℕ) → Best t k s bs → bs ≡ encode t k v
    unfolding own both
    own-only bs b =
        ⊎_elim (λ (e : b.rival.fits.value ≡ v). b.rival.fits.encoded ∙ ap (encode t k) e) behind
        (posix-ahead p b.rival.fits.reads (lines bs b.rival))
      where
        behind : Ahead v b.rival.fits.value → bs ≡ encode t k v
        behind a =
            let n : ¬ (bs ≡ encode t k v) =
            λ e. let z : compare_says t k bs (encode t k v) ≡ gives 0 = (compared (both b.rival own)).same_bytes.1 e in
            let y : compare_says t k bs (encode t k v) ≡ gives 2 = (compared (both b.rival own)).second_ahead.1 a in
            let x : gives 0 ≡ gives 2 = sym z ∙ y in let w : ◌≡◌ {A = ℕ} 0 2 = cc in omega arith in
            let x : compare_says t k (encode t k v) bs ≡ gives 1 = (own-best.ahead bs b.rival n).0 in
            let y : compare_says t k (encode t k v) bs ≡ gives 2 = (b.ahead (encode t k v) own (λ e. n (sym e))).1 in
            let z : gives 1 ≡ gives 2 = sym x ∙ y in let w : ◌≡◌ {A = ℕ} 1 2 = cc in absurd (omega arith)

    -- Read with a buffer, where parse finds the reading
    own_read :
        (out : List ℕ) → parse (exp_of t k) s ≡ found v
        → ReadsBest (λ x. read_says t k s work (length out) ≡ x) t k s out (read_leaves t k s work out)
    unfolding read_leaves
    own_read out e =
        record {
          reading = encode t k v;
          best = own-best;
          only = own-only;
          too_short = λ d. (short d, λ x. told ∙ rw (lt-ltb (length out) (length (encode t k v)) x.0) (ap (refuses 11) (sym x.1)));
          records = records v;
          whole_records = encode-length t k (posix-reads p);
          written = λ l. (fits l, rw (fits l, e));
        }
      where
        told : read_says t k s work (length out) ≡ if_room (length out) (encode t k v) (records v)
        told = settled (length out) ∙ ap (λ (x : Parsed). read_parsed t k x (length out)) e

        fits : length (encode t k v) ≤ length out → read_says t k s work (length out) ≡ gives (records v)
        fits l = told ∙ rw (le-ltb (length out) (length (encode t k v)) l)

        short : (d : ℕ) → read_says t k s work (length out) ≡ refuses 11 d → (length out < length (encode t k v)) × (d ≡ length (encode t k v))
        short d f = go (ltb (length out) (length (encode t k v))) refl
          where
            go : (b : Bool) → ltb (length out) (length (encode t k v)) ≡ b → (length out < length (encode t k v)) × (d ≡ length (encode t k v))
            go true g =
                let z : refuses 11 (length (encode t k v)) ≡ refuses 11 d = sym (told ∙ rw g) ∙ f in
                (ltb-true (length out) (length (encode t k v)) g, cc)
            go false g =
                let z : gives (records v) ≡ refuses 11 d = sym (told ∙ rw g) ∙ f in
                let y : ◌≡◌ {A = ℕ} 0 1 = cc in
                absurd (omega arith)

  -- Read gives 8 exactly when no byte sequence fits and spells the line
  none-fits : (room : ℕ) → (read_says t k s work room ≡ refuses 8 0) ↔ ((bs : List ℕ) → ¬ (Rival t k s bs))
  unfolding own
  none-fits room = (forth (parse (exp_of t k) s) refl, back (parse (exp_of t k) s) refl)
    where
      forth : (x : Parsed) → parse (exp_of t k) s ≡ x → read_says t k s work room ≡ refuses 8 0 → (bs : List ℕ) → ¬ (Rival t k s bs)
      forth missing e f bs r =
          let m : L (exp_of t k) (flat r.fits.value) = reads-spelled r.fits.reads in
          let l : flat r.fits.value ≡ s = sym (spelled-fits r.fits) ∙ r.spells in
          parse-missing (exp_of t k) s e (rw l at m)
      forth (found v) e f bs r = go (ltb room (length (encode t k v))) refl
        where
          told : read_says t k s work room ≡ if_room room (encode t k v) (records v)
          told = settled room ∙ ap (λ (x : Parsed). read_parsed t k x room) e

          go : (b : Bool) → ltb room (length (encode t k v)) ≡ b → ⊥
          go true g =
              let z : refuses 11 (length (encode t k v)) ≡ refuses 8 0 = sym (told ∙ rw g) ∙ f in
              let y : ◌≡◌ {A = ℕ} 11 8 = cc in
              omega arith
          go false g =
              let z : gives (records v) ≡ refuses 8 0 = sym (told ∙ rw g) ∙ f in
              let y : ◌≡◌ {A = ℕ} 0 1 = cc in
              omega arith

      back : (x : Parsed) → parse (exp_of t k) s ≡ x → ((bs : List ℕ) → ¬ (Rival t k s bs)) → read_says t k s work room ≡ refuses 8 0
      back missing e f = settled room ∙ ap (λ (x : Parsed). read_parsed t k x room) e
      back (found v) e f = absurd (f (encode t k v) (own v (parse-sound (exp_of t k) s v e)))

  -- otherwise one byte sequence is best, and Read says 11 or writes it
  best-read :
      (out : List ℕ) → ¬ (read_says t k s work (length out) ≡ refuses 8 0)
      → ReadsBest (λ x. read_says t k s work (length out) ≡ x) t k s out (read_leaves t k s work out)
  best-read out n = go (parse (exp_of t k) s) refl
    where
      go : (x : Parsed) → parse (exp_of t k) s ≡ x → ReadsBest (λ x. read_says t k s work (length out) ≡ x) t k s out (read_leaves t k s work out)
      go missing e = absurd (n (settled (length out) ∙ ap (λ (x : Parsed). read_parsed t k x (length out)) e))
      go (found v) e = own_read v (parse-sound (exp_of t k) s v e) out e

-- demand 3, of what Read says and leaves
pub read-outranks :
    (t : List ℕ) (k : ℕ) (s : List ℕ) (work : ℕ) → Setting t k s work
    → (out : List ℕ)
    → NoneOutranks (λ x. read_says t k s work (length out) ≡ x) t k s out (read_leaves t k s work out)
read-outranks t k s work h out = record { none = none-fits t k s work h (length out); otherwise = best-read t k s work h out }

-- and of an answer and a buffer that are these
pub outranks :
    (t : List ℕ) (k : ℕ) (s : List ℕ) (work : ℕ) (out : List ℕ) {said : Said} {final : List ℕ} → said ≡ read_says t k s work (length out)
    → final ≡ read_leaves t k s work out
    → Setting t k s work
    → NoneOutranks (λ x. said ≡ x) t k s out final
outranks t k s work out {said} {final} e f h =
    subst (λ (y : Said). NoneOutranks (λ x. y ≡ x) t k s out final) (sym e)
    (subst (λ (o : List ℕ). NoneOutranks (λ x. read_says t k s work (length out) ≡ x) t k s out o) (sym f) (read-outranks t k s work h out))
