-- A buffer that begins with the words of a list, and one word more.
use Prim.Native.Nat.{ℕ, zero, suc, ◌+◌, ◌<◌, ◌≤◌, min}
use native.Mathlib.Omega.{arith}
use native.Mathlib.Decide.{dec_lt}
use mathlib.Core.Path.{◌≡◌, refl, sym, ap, ◌∙◌}
use mathlib.Core.List.{List, [], ◌∷◌, ◌++◌}
use mathlib.Core.Bool.{cond}
use lib.ListN.{length, set, replicate, length-set, length-append}
use lib.Seq.{set_out}
use lib.Dec.{ltb}
use borrow.Author.Tests.{lt-ltb, le-ltb}
use Rattle.job_form.specs.Buffer.{padded}
use Rattle.job_form.specs.inner.RowRead.{Held}

pub length-padded : (n : ℕ) (ws : List ℕ) → length (padded n ws) ≡ n
length-padded zero ws = refl
length-padded (suc n) [] = ap suc (length-padded n [])
length-padded (suc n) (w ∷ ws) = ap suc (length-padded n ws)

-- one that begins with no word is zeros
pub zeros : (n : ℕ) → replicate n 0 ≡ padded n []
zeros zero = refl
zeros (suc n) = ap (λ (l : List ℕ). 0 ∷ l) (zeros n)

pub set_padded : (n : ℕ) (ws : List ℕ) (v : ℕ) → set (padded n ws) (length ws) v ≡ padded n (ws ++ (v ∷ []))
set_padded zero ws v = refl
set_padded (suc n) [] v = refl
set_padded (suc n) (w ∷ ws) v = ap (λ (l : List ℕ). w ∷ l) (set_padded n ws v)

-- at the place that is held at the end
set_held : (n : ℕ) (ws : List ℕ) (v : ℕ) → Dec (length ws < n) → set (padded n ws) (min (length ws) n) v ≡ padded n (ws ++ (v ∷ []))
set_held n ws v (yes h) = let e : min (length ws) n ≡ length ws = omega arith in rw e (set_padded n ws v)
set_held n ws v (no h) =
    let e : min (length ws) n ≡ n = omega arith in
    rw e
    (set_out (padded n ws) n v (rw (length-padded n ws) (omega arith))
    ∙ sym (set_out (padded n ws) (length ws) v (rw (length-padded n ws) (omega arith)))
    ∙ set_padded n ws v)

held_place : (k n m : ℕ) → m ≡ k + 1 → Dec (min k n < n) → cond (ltb (min k n) n) (min k n + 1) (min k n) ≡ min m n
held_place k n m e (yes h) = rw (lt-ltb (min k n) n h) (omega arith)
held_place k n m e (no h) = rw (le-ltb (min k n) n (omega arith)) (omega arith)

held_store : {ws l : List ℕ} {at : ℕ} (v : ℕ) → Held ws at l → Held (ws ++ (v ∷ [])) (cond (ltb at (length l)) (at + 1) at) (set l at v)
held_store {ws} {l} {at} v h = record {
  content =
      ap (λ (x : List ℕ). set x at v) h.content
      ∙ ap (λ (k : ℕ). set (padded (length l) ws) k v) h.place
      ∙ set_held (length l) ws v (dec_lt (length ws) (length l))
      ∙ ap (λ (n : ℕ). padded n (ws ++ (v ∷ []))) (sym (length-set l at v));
  place = rw (length-set l at v, h.place) (held_place (length ws) (length l) (length (ws ++ (v ∷ []))) (length-append ws (v ∷ [])) (dec_lt (min (length ws) (length l)) (length l)));
}

-- a word that has room, and one that has none
pub held_stored : {ws l : List ℕ} {at : ℕ} (v : ℕ) → at < length l → Held ws at l → Held (ws ++ (v ∷ [])) (at + 1) (set l at v)
held_stored {ws} {l} {at} v h held = rw (lt-ltb at (length l) h) at (held_store v held)

pub held_dropped : {ws l : List ℕ} {at : ℕ} (v : ℕ) → length l ≤ at → Held ws at l → Held (ws ++ (v ∷ [])) at l
held_dropped {ws} {l} {at} v h held = rw (le-ltb at (length l) h, set_out l at v h) at (held_store v held)
