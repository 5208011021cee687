-- Stores at some places: one more in a column.
use Prim.Native.Nat.{ℕ, ◌+◌, ◌*◌, ◌<◌, ◌≤◌}
use native.Mathlib.Omega.{arith}
use native.Mathlib.Decide.{dec_lt, ℕ_discrete}
use mathlib.Core.Path.{◌≡◌, ◌∙◌}
use mathlib.Core.List.{List}
use lib.ListN.{length, get_or, set, length-set}
use lib.Seq.{get_or-set_same, get_or-set_other}
use Rattle.memory.proofs.Geometry.{row_fits}
use Rattle.turns.proofs.Geometry.{rows_apart}
use Rattle.moves.specs.Stored.{Stored}

-- Rows are apart.
pub same_row : (n i m : ℕ) → 1 ≤ n → n * n + i * n ≡ n * n + m * n → i ≡ m
same_row n i m h e = go (dec_lt i m) (dec_lt m i)
  where
    go : Dec (i < m) → Dec (m < i) → i ≡ m
    go (yes d) x = absurd (omega (arith, rows_apart n d))
    go (no d) (yes d') = absurd (omega (arith, rows_apart n d'))
    go (no d) (no d') = omega arith

pub column_one : (n from i w : ℕ) {value : ℕ → ℕ} {old l : List ℕ} → Stored (λ m. (from ≤ m) × (m < i)) (λ m. n * n + m * n) value old l
    → from ≤ i → i < n → length old ≡ 3 * (n * n) → w ≡ value i
    → Stored (λ m. (from ≤ m) × (m < i + 1)) (λ m. n * n + m * n) value old (set l (n * n + i * n) w)
column_one n from i w {value} {old} {l} s first h long e = record {
  size = length-set l (n * n + i * n) w ∙ s.size;
  put = λ j q. at j q.0 q.1 (ℕ_discrete j i);
  kept = λ p f. other p f;
}
  where
    inside : n * n + i * n < length l
    inside = omega (arith, row_fits h, s.size)

    at : (j : ℕ) → from ≤ j → j < i + 1 → Dec (j ≡ i) → get_or (set l (n * n + i * n) w) (n * n + j * n) 0 ≡ value j
    at j q q' (yes d) = rw d (get_or-set_same l (n * n + i * n) w 0 inside ∙ e)
    at j q q' (no d) =
        get_or-set_other l (n * n + i * n) (n * n + j * n) w 0 (λ z. d (same_row n j i (omega arith) z)) ∙ s.put j (q, omega arith)

    other : (p : ℕ) → ((j : ℕ) → (from ≤ j) × (j < i + 1) → p ≡ n * n + j * n → ⊥) → get_or (set l (n * n + i * n) w) p 0 ≡ get_or old p 0
    other p f =
        get_or-set_other l (n * n + i * n) p w 0 (λ z. f i (first, omega arith) z)
        ∙ s.kept p (λ j q z. f j (q.0, omega (arith, q.1)) z)
