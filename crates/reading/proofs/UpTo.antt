-- The encoding of a reading by a table that passes is the one by any table with the same records up to the reading's, because children stand below
-- their parents; so the same byte sequences fit, as the same readings.
-- Assumes nothing.
use Prim.Native.Nat.{ℕ, ◌≤◌, ◌<◌}
use native.Mathlib.Omega.{arith}
use mathlib.Core.Path.{◌≡◌, refl, sym, ◌∙◌, ap, ap₂, subst}
use mathlib.Core.List.{List, ◌++◌}
use Rattle.posix.specs.Expressions.{Exp}
use Rattle.posix.specs.Values.{Val, Reads, reads_void, reads_byte, reads_left, reads_right, reads_pair, reads_none, reads_more}
use Rattle.posix.specs.Decision.{Parsed, found, missing}
use Rattle.table.specs.Records.{count, up_to, a_at, b_at}
use Rattle.table.specs.Faults.{Passes}
use Rattle.table.specs.Expression.{exp_of}
use Rattle.table.proofs.Children.{Node, node_or, node_seq, node_star, node}
use Rattle.table.proofs.UpTo.{SameRecords, up-to-records, up-to-exp}
use Rattle.reading.specs.Codec.{record_bytes, head_of, encode_below, encode}
use Rattle.reading.specs.Fitting.{Fits, reading_of}
use Rattle.reading.proofs.Fitting.{found-fits, fits-found, missing-unfit}

module _ {t u : List ℕ} {n : ℕ} (s : SameRecords t u n) (p : Passes t) (m : n ≤ count t) where
  -- a part's records, by those below its own
  same_from : (j : ℕ) → j < n → (v : Val) → (Node t j (exp_of t j) → encode_below u j v ≡ encode_below t j v) → encode u j v ≡ encode t j v
  same_from j l v f = ap (λ (bs : List ℕ). record_bytes (head_of j v) ++ bs) (f (node t p j (omega arith)))

  same-below : (j : ℕ) → j < n → {e : Exp} {v : Val} → Reads e v → Node t j e → encode_below u j v ≡ encode_below t j v
  same-below j l reads_void b = refl
  same-below j l (reads_byte h) b = refl
  same-below j l (reads_left {v = v} r) (node_or x y e f) = rw (s.a j l) (same_from (a_at t j) (omega arith) v (λ z. same-below (a_at t j) (omega arith) r (subst (Node t (a_at t j)) e z)))
  same-below j l (reads_right {v = v} r) (node_or x y e f) = rw (s.b j l) (same_from (b_at t j) (omega arith) v (λ z. same-below (b_at t j) (omega arith) r (subst (Node t (b_at t j)) f z)))
  same-below j l (reads_pair {v = v} {w = w} r q) (node_seq x y e f) =
      rw (s.a j l, s.b j l)
      (ap₂ ◌++◌ (same_from (a_at t j) (omega arith) v (λ z. same-below (a_at t j) (omega arith) r (subst (Node t (a_at t j)) e z)))
      (same_from (b_at t j) (omega arith) w (λ z. same-below (b_at t j) (omega arith) q (subst (Node t (b_at t j)) f z))))
  same-below j l reads_none b = refl
  same-below j l (reads_more {v = v} r h q) (node_star x e) =
      rw (s.a j l)
      (ap₂ ◌++◌ (same_from (a_at t j) (omega arith) v (λ z. same-below (a_at t j) (omega arith) r (subst (Node t (a_at t j)) e z))) (same-below j l q (node_star x e)))

module _ (t : List ℕ) (k : ℕ) (p : Passes t) (l : k < count t) where
  pub up-to-encode : {v : Val} → Reads (exp_of t k) v → encode (up_to t k) k v ≡ encode t k v
  up-to-encode {v} r =
      same_from (up-to-records t k) p (omega arith) k (omega arith) v (same-below (up-to-records t k) p (omega arith) k (omega arith) r)

  same-exp : exp_of (up_to t k) k ≡ exp_of t k
  same-exp = up-to-exp t k k (omega arith)

  -- the same bytes fit
  forth : {bs : List ℕ} → Fits t k bs → Fits (up_to t k) k bs
  forth f =
      record {
        value = f.value;
        reads = subst (λ (r : Exp). Reads r f.value) (sym same-exp) f.reads;
        encoded = f.encoded ∙ sym (up-to-encode f.reads);
        short = f.short;
      }

  back : {bs : List ℕ} → Fits (up_to t k) k bs → Fits t k bs
  back f =
      let r : Reads (exp_of t k) f.value = subst (λ (e : Exp). Reads e f.value) same-exp f.reads in
      record { value = f.value; reads = r; encoded = f.encoded ∙ up-to-encode r; short = f.short }

  pub up-to-reading : (bs : List ℕ) → reading_of (up_to t k) k bs ≡ reading_of t k bs
  unfolding forth
  up-to-reading bs = go (reading_of t k bs) refl (reading_of (up_to t k) k bs) refl
    where
      go : (x : Parsed) → reading_of t k bs ≡ x → (y : Parsed) → reading_of (up_to t k) k bs ≡ y → reading_of (up_to t k) k bs ≡ reading_of t k bs
      go (found v) e y f =
          let a : (g : Fits t k bs) × (g.value ≡ v) = found-fits t k bs v e in
          fits-found (forth a.0) ∙ ap found a.1 ∙ sym e
      go missing e (found w) f = absurd (missing-unfit t k bs e (back (found-fits (up_to t k) k bs w f).0))
      go missing e missing f = f ∙ sym e
