-- What the call says and leaves, by the grammar: which texts it accepts, what it refuses the others by, and what it writes.
-- Assumes nothing.
use Prim.Native.Nat.{ℕ, ◌*◌, ◌-◌, ◌≤◌, ◌<◌}
use mathlib.Core.Path.{◌≡◌, refl, sym, ◌∙◌, ap}
use mathlib.Core.Bool.{Bool, true, false, cond}
use mathlib.Core.List.{List, ◌++◌}
use mathlib.Core.Logic.{◌⊎◌, inl, inr, ◌↔◌}
use native.Mathlib.Omega.{arith}
use borrow.Author.Tests.{le-ltb, ltb-true, ltb-false}
use lib.Dec.{ltb}
use lib.ListN.{length, take, drop}
use lib.Seq.{take_at}
use Rattle.table.specs.Answers.{Said, gives, refuses}
use Rattle.table.specs.Checked.{or_else}
use Rattle.table.specs.Buffers.{if_room}
use Rattle.notation.specs.Tables.{size, table_of}
use Rattle.notation.specs.Decision.{Outcome, whole, stuck, outcome}
use Rattle.notation.specs.Calls.{limited, compiled, compile_says, table_bytes, compile_leaves}
use Rattle.notation.specs.Accepted.{Text, TableFor}
use Rattle.notation.proofs.Complete.{complete, one-tree}
use Rattle.notation.proofs.Sound.{sound}
use Rattle.notation.proofs.Records.{records-length}
use Rattle.notation.proofs.Standing.{table-count, table-stands, table-expression}
use Rattle.notation.proofs.Passing.{table-passes}

-- what is said of a text, and why
data Way (s : List ℕ) (room : ℕ) : Said → Type 0 where
  way_outside : ¬ (Text s) → Way s room (refuses 15 0)
  way_many : (x : Text s) → 255 < size x.tree → Way s room (refuses 16 0)
  way_short : (x : Text s) → size x.tree ≤ 255 → room < 4 * size x.tree → Way s room (refuses 11 (4 * size x.tree))
  way_table : (x : Text s) → size x.tree ≤ 255 → 4 * size x.tree ≤ room → Way s room (gives (size x.tree))

module _ (s : List ℕ) (room : ℕ) where
  room-way : (x : Text s) → size x.tree ≤ 255 → Way s room (if_room room (table_of x.tree) (size x.tree))
  room-way x few = rw (records-length 0 x.tree) (go (ltb room (4 * size x.tree)) refl)
    where
      go : (b : Bool) → ltb room (4 * size x.tree) ≡ b → Way s room (or_else b (refuses 11 (4 * size x.tree)) (gives (size x.tree)))
      go true e = way_short x few (ltb-true room (4 * size x.tree) e)
      go false e = way_table x few (ltb-false room (4 * size x.tree) e)

  tree-way : (x : Text s) → Way s room (compiled (whole x.tree) room)
  tree-way x = go (ltb 255 (size x.tree)) refl
    where
      go : (b : Bool) → ltb 255 (size x.tree) ≡ b
          → Way s room (or_else b (refuses 16 0) (if_room room (table_of x.tree) (size x.tree)))
      go true e = way_many x (ltb-true 255 (size x.tree) e)
      go false e = room-way x (ltb-false 255 (size x.tree) e)

  way : Way s room (compile_says s room)
  unfolding compile_says limited
  way = limit (ltb 4096 (length s)) refl
    where
      decided-way : length s ≤ 4096 → (o : Outcome) → outcome s ≡ o → Way s room (compiled o room)
      decided-way short (whole t) e = tree-way (record { tree = t; grouped = sound e; short = short })
      decided-way short (stuck n) e =
          way_outside (λ x. let z : stuck n ≡ whole x.tree = sym e ∙ complete x.grouped in let y : ◌≡◌ {A = ℕ} 0 1 = cc in omega arith)

      limit : (b : Bool) → ltb 4096 (length s) ≡ b → Way s room (compiled (cond b (stuck (length s - 4096)) (outcome s)) room)
      limit true e = way_outside (λ x. omega (arith, x.short, ltb-true 4096 (length s) e))
      limit false e = decided-way (ltb-false 4096 (length s) e) (outcome s) refl

  -- 15 exactly for the texts that are not of the grammar or are too long
  pub compile-outside : (compile_says s room ≡ refuses 15 0) ↔ ¬ (Text s)
  compile-outside = (from way, to way)
    where
      from : {said : Said} → Way s room said → said ≡ refuses 15 0 → ¬ (Text s)
      from (way_outside h) e = h
      from (way_many x h) e = let z : ◌≡◌ {A = ℕ} 16 15 = cc in absurd (omega arith)
      from (way_short x f h) e = let z : ◌≡◌ {A = ℕ} 11 15 = cc in absurd (omega arith)
      from (way_table x f h) e = let z : ◌≡◌ {A = ℕ} 0 1 = cc in absurd (omega arith)

      to : {said : Said} → Way s room said → ¬ (Text s) → said ≡ refuses 15 0
      to (way_outside h) n = refl
      to (way_many x h) n = absurd (n x)
      to (way_short x f h) n = absurd (n x)
      to (way_table x f h) n = absurd (n x)

  -- a result comes of a text of the grammar, and is its record count
  pub compile-gives : (m : ℕ) → compile_says s room ≡ gives m → (x : Text s) × (m ≡ size x.tree) × (m ≤ 255) × (4 * m ≤ room)
  compile-gives m = from way
    where
      from : {said : Said} → Way s room said → said ≡ gives m → (x : Text s) × (m ≡ size x.tree) × (m ≤ 255) × (4 * m ≤ room)
      from (way_outside h) e = let z : ◌≡◌ {A = ℕ} 0 1 = cc in absurd (omega arith)
      from (way_many x h) e = let z : ◌≡◌ {A = ℕ} 0 1 = cc in absurd (omega arith)
      from (way_short x f h) e = let z : ◌≡◌ {A = ℕ} 0 1 = cc in absurd (omega arith)
      from (way_table x f h) e = let n : m ≡ size x.tree = cc in (x, n, omega arith, omega arith)

  -- a text of the grammar: 16 exactly where it has more than 255 records, then 11 exactly where the buffer is shorter than its table, with the
  -- bytes needed
  module _ (x : Text s) where
    same_size : (y : Text s) → size y.tree ≡ size x.tree
    same_size y = ap size (one-tree y.grouped x.grouped)

    pub compile-many : (compile_says s room ≡ refuses 16 0) ↔ (255 < size x.tree)
    compile-many = (from way, to way)
      where
        from : {said : Said} → Way s room said → said ≡ refuses 16 0 → 255 < size x.tree
        from (way_outside h) e = absurd (h x)
        from (way_many y h) e = omega (arith, same_size y)
        from (way_short y f h) e = let z : ◌≡◌ {A = ℕ} 11 16 = cc in absurd (omega arith)
        from (way_table y f h) e = let z : ◌≡◌ {A = ℕ} 0 1 = cc in absurd (omega arith)

        to : {said : Said} → Way s room said → 255 < size x.tree → said ≡ refuses 16 0
        to (way_outside h) m = absurd (h x)
        to (way_many y h) m = refl
        to (way_short y f h) m = absurd (omega (arith, same_size y))
        to (way_table y f h) m = absurd (omega (arith, same_size y))

    module _ (few : size x.tree ≤ 255) where
      pub compile-short : (d : ℕ) → (compile_says s room ≡ refuses 11 d) ↔ ((room < 4 * size x.tree) × (d ≡ 4 * size x.tree))
      compile-short d = (from way, to way)
        where
          from : {said : Said} → Way s room said → said ≡ refuses 11 d → (room < 4 * size x.tree) × (d ≡ 4 * size x.tree)
          from (way_outside h) e = absurd (h x)
          from (way_many y h) e = absurd (omega (arith, same_size y))
          from (way_short y f h) e = let n : d ≡ 4 * size y.tree = cc in (omega (arith, same_size y), omega (arith, same_size y))
          from (way_table y f h) e = let z : ◌≡◌ {A = ℕ} 0 1 = cc in absurd (omega arith)

          to : {said : Said} → Way s room said → (room < 4 * size x.tree) × (d ≡ 4 * size x.tree) → said ≡ refuses 11 d
          to (way_outside h) m = absurd (h x)
          to (way_many y h) m = absurd (omega (arith, same_size y))
          to (way_short y f h) m = ap (refuses 11) (omega (arith, same_size y, m.1))
          to (way_table y f h) m = absurd (omega (arith, same_size y, m.0))

      says-table : 4 * size x.tree ≤ room → compile_says s room ≡ gives (size x.tree)
      says-table h = to way
        where
          to : {said : Said} → Way s room said → said ≡ gives (size x.tree)
          to (way_outside n) = absurd (n x)
          to (way_many y m) = absurd (omega (arith, same_size y))
          to (way_short y f m) = absurd (omega (arith, same_size y))
          to (way_table y f m) = ap gives (same_size y)

-- and otherwise its table is written, and the later bytes are left
pub compile-writes :
    (s out : List ℕ) (x : Text s) → size x.tree ≤ 255 → 4 * size x.tree ≤ length out
    → (compile_says s (length out) ≡ gives (size x.tree)) × (compile_leaves s out ≡ table_of x.tree ++ drop (4 * size x.tree) out)
unfolding compile_leaves limited
compile-writes s out x few room =
    let e : compile_says s (length out) ≡ gives (size x.tree) = says-table s (length out) x few room in
    (e, rw (e, le-ltb 4096 (length s) x.short, complete x.grouped, records-length 0 x.tree))

-- a refusal leaves the buffer
pub compile-refused : (s out : List ℕ) (n d : ℕ) → compile_says s (length out) ≡ refuses n d → compile_leaves s out ≡ out
unfolding compile_leaves
compile-refused s out n d e = rw e

-- a result's table stands in front of the buffer
pub compile-front :
    (s out : List ℕ) (m : ℕ) → compile_says s (length out) ≡ gives m
    → (4 * m ≤ length out) × (take (4 * m) (compile_leaves s out) ≡ table_bytes (limited s))
unfolding limited
compile-front s out m e =
    let (x, n, few, room) = compile-gives s (length out) m e in
    let w = compile-writes s out x (omega arith) (omega arith) in
    let l : length (table_of x.tree) ≡ 4 * m = records-length 0 x.tree ∙ ap (λ (i : ℕ). 4 * i) (sym n) in (
      room,
      rw (w.1, le-ltb 4096 (length s) x.short, complete x.grouped)
          (take_at (table_of x.tree) (drop (4 * size x.tree) out) (4 * m) l),
    )

-- a text over the limit, and a buffer as long as the longest table: the refusals left are 15 and 16
pub compile-long : (s : List ℕ) (room : ℕ) → 4096 < length s → compile_says s room ≡ refuses 15 0
compile-long s room h = (compile-outside s room).1 (λ x. omega (arith, x.short))

pub compile-refuses : (s : List ℕ) (room n d : ℕ) → 1020 ≤ room → compile_says s room ≡ refuses n d → (n ≡ 15) ⊎ (n ≡ 16)
compile-refuses s room n d h = go (way s room)
  where
    go : {said : Said} → Way s room said → said ≡ refuses n d → (n ≡ 15) ⊎ (n ≡ 16)
    go (way_outside x) e = let f : n ≡ 15 = cc in inl f
    go (way_many x m) e = let f : n ≡ 16 = cc in inr f
    go (way_short x f m) e = absurd (omega arith)
    go (way_table x f m) e = let z : ◌≡◌ {A = ℕ} 0 1 = cc in absurd (omega arith)

-- what the table is
pub compile-table : (s : List ℕ) (x : Text s) → size x.tree ≤ 255 → TableFor x.tree (table_of x.tree)
compile-table s x few =
    record {
      passes = table-passes x.grouped few;
      root_last = table-count x.tree;
      stands = table-stands x.tree;
      expressed = table-expression x.tree;
    }

-- what holds of every refusal that the call gives, and of every result, holds of what it says
pub compile-said :
    (P : Said → Type 0) (s : List ℕ) (room : ℕ) → P (refuses 15 0) → P (refuses 16 0)
    → ((n : ℕ) → n ≤ 255 → room < 4 * n → P (refuses 11 (4 * n)))
    → ((n : ℕ) → n ≤ 255 → 4 * n ≤ room → P (gives n))
    → P (compile_says s room)
compile-said P s room a b c d = go (way s room)
  where
    go : {said : Said} → Way s room said → P said
    go (way_outside h) = a
    go (way_many x h) = b
    go (way_short x f h) = c (size x.tree) f h
    go (way_table x f h) = d (size x.tree) f h
