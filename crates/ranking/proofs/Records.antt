-- Held against each other record by record, the encodings of two readings of one expression rank as the readings do (document 01, "Precedence of
-- readings", and document 02, request 6): a record's length is its part's, and the kinds tell Left from Right.
-- Assumes nothing.
use Prim.Native.Nat.{ℕ}
use mathlib.Core.Path.{◌≡◌, refl, sym, ◌∙◌, ap, ap₂}
use mathlib.Core.Bool.{Bool, true, false}
use mathlib.Core.List.{List, [], ◌∷◌, ◌++◌, append_assoc, append-nil}
use native.Mathlib.Omega.{arith}
use borrow.Author.Tests.{ltb-false}
use lib.Dec.{ltb}
use lib.ListN.{length, length-append}
use Rattle.posix.specs.Expressions.{Exp}
use Rattle.posix.specs.Values.{Val, flat, Reads, reads_void, reads_byte, reads_left, reads_right, reads_pair, reads_none, reads_more}
use Rattle.posix.specs.Ranking.{Verdict, same, first, second, choose, rank}
use Rattle.posix.specs.RankingParts.{by_size, then_by, rank_below}
use Rattle.posix.proofs.Sizes.{rank-size, below-left-right, below-right-left, below-pair, below_more}
use Rattle.table.specs.Records.{a_at, b_at}
use Rattle.reading.specs.Codec.{records_of, kind_of, encode_below, encode}
use Rattle.reading.specs.Fitting.{Fits}
use Rattle.reading.proofs.Codec.{star-kind}
use Rattle.ranking.specs.Records.{rank_records}

-- the first verdict that is not `same`, of three
then-assoc : (a b c : Verdict) → then_by (then_by a b) c ≡ then_by a (then_by b c)
then-assoc same b c = refl
then-assoc first b c = refl
then-assoc second b c = refl

then_same : (a : Verdict) → then_by a same ≡ a
then_same same = refl
then_same first = refl
then_same second = refl

-- a later verdict counts where the first is `same`
then-after : (a b c : Verdict) → (a ≡ same → b ≡ c) → then_by a b ≡ then_by a c
then-after same b c e = e refl
then-after first b c e = refl
then-after second b c e = refl

-- two lengths decide, then a verdict and another
pub size-then : (m n : ℕ) (d e : Verdict) → then_by (by_size m n d) e ≡ by_size m n (then_by d e)
size-then m n d e = go (ltb n m) (ltb m n)
  where
    go : (a b : Bool) → then_by (choose a first (choose b second d)) e ≡ choose a first (choose b second (then_by d e))
    go true b = refl
    go false true = refl
    go false false = refl

-- a verdict after two lengths counts where they are equal
size-after : (m n : ℕ) (d e : Verdict) → (m ≡ n → d ≡ e) → by_size m n d ≡ by_size m n e
size-after m n d e f = go (ltb n m) (ltb m n) refl refl
  where
    go : (a b : Bool) → ltb n m ≡ a → ltb m n ≡ b → choose a first (choose b second d) ≡ choose a first (choose b second e)
    go true b p q = refl
    go false true p q = refl
    go false false p q = f (omega (arith, ltb-false n m p, ltb-false m n q))

-- the lengths are equal where the verdict is `same`
size-equal : (m n : ℕ) (d : Verdict) → by_size m n d ≡ same → m ≡ n
size-equal m n d e = go (ltb n m) (ltb m n) refl refl e
  where
    go : (a b : Bool) → ltb n m ≡ a → ltb m n ≡ b → choose a first (choose b second d) ≡ same → m ≡ n
    go true b p q e = let z : ◌≡◌ {A = ℕ} 0 1 = cc in absurd (omega arith)
    go false true p q e = let z : ◌≡◌ {A = ℕ} 0 1 = cc in absurd (omega arith)
    go false false p q e = omega (arith, ltb-false n m p, ltb-false m n q)

-- how the records of two byte sequences rank
abbrev pub ranked : List ℕ → List ℕ → Verdict
ranked bs cs = rank_records (records_of bs) (records_of cs)

-- the encodings rank as the readings do if, where these spell equally many bytes, their kinds and what is below their records do
by-head :
    (t : List ℕ) (k : ℕ) (v w : Val) (xs ys : List ℕ)
    → (length (flat v) ≡ length (flat w)
    → by_size (kind_of w) (kind_of v) (ranked (encode_below t k v ++ xs) (encode_below t k w ++ ys)) ≡ then_by (rank_below v w) (ranked xs ys))
    → ranked (encode t k v ++ xs) (encode t k w ++ ys) ≡ then_by (rank v w) (ranked xs ys)
by-head t k v w xs ys e =
    size-after (length (flat v)) (length (flat w)) _ (then_by (rank_below v w) (ranked xs ys)) e
    ∙ sym (size-then (length (flat v)) (length (flat w)) (rank_below v w) (ranked xs ys))
    ∙ ap (λ (d : Verdict). then_by d (ranked xs ys)) (sym (rank-size v w))

-- an iteration spells a byte
spells-some : (s u : List ℕ) → ¬ (s ≡ []) → length (s ++ u) ≡ 0 → ⊥
spells-some [] u n e = n refl
spells-some (c ∷ s) u n e = omega arith

-- the kinds of two readings that spell equally many bytes, and what is below their records
rank_below_lem :
    (t : List ℕ) (k : ℕ) {r : Exp} {v w : Val} → Reads r v → Reads r w → (xs ys : List ℕ) → length (flat v) ≡ length (flat w)
    → by_size (kind_of w) (kind_of v) (ranked (encode_below t k v ++ xs) (encode_below t k w ++ ys)) ≡ then_by (rank_below v w) (ranked xs ys)
rank_below_lem t k reads_void reads_void xs ys e = refl
rank_below_lem t k (reads_byte h) (reads_byte i) xs ys e = refl
rank_below_lem t k (reads_left {v = v} p) (reads_left {v = w} q) xs ys e =
    by-head t (a_at t k) v w xs ys (rank_below_lem t (a_at t k) p q xs ys)
rank_below_lem t k (reads_left {v = v} p) (reads_right {v = w} q) xs ys e = rw (below-left-right v w)
rank_below_lem t k (reads_right {v = v} p) (reads_left {v = w} q) xs ys e = rw (below-right-left v w)
rank_below_lem t k (reads_right {v = v} p) (reads_right {v = w} q) xs ys e =
    by-head t (b_at t k) v w xs ys (rank_below_lem t (b_at t k) p q xs ys)
rank_below_lem t k (reads_pair {v = v} {w = v'} p p') (reads_pair {v = w} {w = w'} q q') xs ys e =
    ap₂ ranked (append_assoc (encode t (a_at t k) v) (encode t (b_at t k) v') xs) (append_assoc (encode t (a_at t k) w) (encode t (b_at t k) w') ys)
    ∙ by-head t (a_at t k) v w (encode t (b_at t k) v' ++ xs) (encode t (b_at t k) w' ++ ys) (rank_below_lem t (a_at t k) p q _ _)
    ∙ ap (then_by (rank v w)) (by-head t (b_at t k) v' w' xs ys (rank_below_lem t (b_at t k) p' q' xs ys))
    ∙ sym (then-assoc (rank v w) (rank v' w') (ranked xs ys))
    ∙ ap (λ (d : Verdict). then_by d (ranked xs ys)) (sym (below-pair p q p' q'))
rank_below_lem t k reads_none reads_none xs ys e = refl
rank_below_lem t k reads_none (reads_more {v = w} {w = w'} q n q') xs ys e = absurd (spells-some (flat w) (flat w') n (sym e))
rank_below_lem t k (reads_more {v = v} {w = v'} p n p') reads_none xs ys e = absurd (spells-some (flat v) (flat v') n e)
rank_below_lem t k (reads_more {v = v} {w = v'} p n p') (reads_more {v = w} {w = w'} q m q') xs ys e =
    ap₂ ranked (append_assoc (encode t (a_at t k) v) (encode_below t k v') xs) (append_assoc (encode t (a_at t k) w) (encode_below t k w') ys)
    ∙ by-head t (a_at t k) v w (encode_below t k v' ++ xs) (encode_below t k w' ++ ys) (rank_below_lem t (a_at t k) p q _ _)
    ∙ then-after (rank v w) _ (then_by (rank_below v' w') (ranked xs ys)) (λ f. later (rank_below_lem t k p' q' xs ys (equal f)))
    ∙ sym (then-assoc (rank v w) (rank_below v' w') (ranked xs ys))
    ∙ ap (λ (d : Verdict). then_by d (ranked xs ys)) (sym (below_more v' w' p q))
  where
    equal : rank v w ≡ same → length (flat v') ≡ length (flat w')
    equal f =
        let l : length (flat v) ≡ length (flat w) = size-equal (length (flat v)) (length (flat w)) (rank_below v w) (sym (rank-size v w) ∙ f) in
        omega (arith, l, e, length-append (flat v) (flat v'), length-append (flat w) (flat w'))

    later :
        by_size (kind_of w') (kind_of v') (ranked (encode_below t k v' ++ xs) (encode_below t k w' ++ ys)) ≡ then_by (rank_below v' w') (ranked xs ys)
        → ranked (encode_below t k v' ++ xs) (encode_below t k w' ++ ys) ≡ then_by (rank_below v' w') (ranked xs ys)
    later g = rw (star-kind p', star-kind q') at g

-- the encodings of two readings of one expression rank as the readings do, then as what stands behind them
pub rank-encode :
    (t : List ℕ) (k : ℕ) {r : Exp} {v w : Val} → Reads r v → Reads r w → (xs ys : List ℕ)
    → rank_records (records_of (encode t k v ++ xs)) (records_of (encode t k w ++ ys)) ≡ then_by (rank v w) (rank_records (records_of xs) (records_of ys))
rank-encode t k {v = v} {w = w} p q xs ys = by-head t k v w xs ys (rank_below_lem t k p q xs ys)

-- two byte sequences that fit rank as their readings do
pub rank-fitting :
    {t : List ℕ} {k : ℕ} {bs cs : List ℕ} (f : Fits t k bs) (g : Fits t k cs)
    → rank_records (records_of bs) (records_of cs) ≡ rank f.value g.value
rank-fitting {t} {k} f g =
    ap₂ ranked (f.encoded ∙ sym (append-nil (encode t k f.value))) (g.encoded ∙ sym (append-nil (encode t k g.value)))
    ∙ rank-encode t k f.reads g.reads [] []
    ∙ then_same (rank f.value g.value)
