-- Read where it answers and where it refuses: what it says shows what it left in the buffer; and how many records a reading has.
-- Assumes nothing.
use Prim.Native.Nat.{ℕ, ◌*◌, ◌≤◌, ◌<◌, max}
use mathlib.Core.Path.{◌≡◌, refl, sym, ◌∙◌, ap}
use mathlib.Core.List.{List}
use native.Mathlib.Omega.{arith}
use native.Mathlib.Nat.{mul-le-mul}
use lib.Dec.{ltb}
use lib.ListN.{length}
use Rattle.posix.specs.Values.{Val, flat, records, Reads}
use Rattle.posix.specs.Decision.{Parsed, found, missing, parse}
use Rattle.posix.proofs.Parse.{parse-sound}
use Rattle.table.specs.Records.{count}
use Rattle.table.specs.Faults.{Passes}
use Rattle.table.specs.Expression.{exp_of}
use Rattle.table.specs.Answers.{Said, gives, refuses}
use Rattle.table.specs.Buffers.{if_room, after}
use Rattle.table.proofs.Passing.{count-bound}
use Rattle.reading.specs.Codec.{encode}
use Rattle.reading.proofs.Admission.{or-gives, start_gives}
use Rattle.reading.proofs.Sizes.{records-reads}
use Rattle.matcher.specs.Calls.{work_size, read_parsed, read_says, read_leaves, PosixWritten}

-- a refusal leaves the buffer as it was
pub after-refusal : (said : Said) (n d : ℕ) (bytes out : List ℕ) → said ≡ refuses n d → after said bytes out ≡ out
after-refusal said n d bytes out e = rw e

pub read-refused : (t : List ℕ) (k : ℕ) (s : List ℕ) (work : ℕ) (out : List ℕ) (n d : ℕ) → read_says t k s work (length out) ≡ refuses n d → read_leaves t k s work out ≡ out
unfolding read_leaves
read-refused t k s work out n d e = after-refusal (read_says t k s work (length out)) n d _ out e

-- where Read gives a result, it wrote the reading that the relation gives the line
pub read-writes : (t : List ℕ) (k : ℕ) (s : List ℕ) (work : ℕ) (out : List ℕ) (n : ℕ) → read_says t k s work (length out) ≡ gives n → PosixWritten t k s out (read_leaves t k s work out) n
unfolding read_says read_leaves
read-writes t k s work out n e = go (parse (exp_of t k) s) refl
  where
    read : read_parsed t k (parse (exp_of t k) s) (length out) ≡ gives n
    read =
        (or-gives (ltb work (work_size (count t) (length s))) 10 0 _ n
        (or-gives (ltb 255 (length s)) 7 0 _ n (sym ((start_gives t k _ n e).said_on _) ∙ e)).1).1

    go : (x : Parsed) → parse (exp_of t k) s ≡ x → PosixWritten t k s out (read_leaves t k s work out) n
    go missing f =
        let z : refuses 8 0 ≡ gives n = sym (ap (λ (y : Parsed). read_parsed t k y (length out)) f) ∙ read in
        let y : ◌≡◌ {A = ℕ} 0 1 = cc in
        absurd (omega arith)
    go (found v) f =
        let z : if_room (length out) (encode t k v) (records v) ≡ gives n = sym (ap (λ (y : Parsed). read_parsed t k y (length out)) f) ∙ read in
        let y : gives (records v) ≡ gives n = (or-gives (ltb (length out) (length (encode t k v))) 11 (length (encode t k v)) _ n z).1 in
        record { value = v; posix = parse-sound (exp_of t k) s v f; counted = cc; written = rw (e, f) }

-- a reading that spells at most 255 bytes has at most 255 * 255 records
pub few-records : (t : List ℕ) (k : ℕ) (v : Val) → Passes t → k < count t → Reads (exp_of t k) v → length (flat v) ≤ 255 → records v ≤ 65025
few-records t k v p l r h =
    let m : count t ≤ 255 = (count-bound t p).1 in
    let x : max (length (flat v)) 1 ≤ 255 = omega arith in
    let y : count t * max (length (flat v)) 1 ≤ 255 * 255 = mul-le-mul m x in
    omega (arith, records-reads t p k l r)
