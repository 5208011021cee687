-- A memory that holds a table: its words by their place, and that the table decides the memory.
use Prim.Native.Nat.{ℕ, zero, suc, ◌+◌, ◌*◌, ◌/◌, ◌%◌, ◌<◌}
use native.Mathlib.Nat.{div-add-mod', div-lt_iff_lt-mul, mod-lt}
use native.Mathlib.Omega.{arith}
use mathlib.Core.Path.{◌≡◌, ◌∙◌}
use mathlib.Core.List.{List}
use lib.ListN.{get_or}
use lib.Arith.{digits_lt, digits_div, digits_mod}
use Rattle.memory.proofs.ListOf.{length_list_of, get_d_list_of, is_list_of}
use Rattle.closure.specs.Table.{Table, Holds, row_by_row}

pub row_by_row_holds : (n : ℕ) (t : Table) → Holds n t (row_by_row n t)
row_by_row_holds n t = record {
  size = length_list_of (n * n) (λ p. t (p / n) (p % n));
  word = λ i j hi hj.
      get_d_list_of (n * n) (λ p. t (p / n) (p % n)) (i * n + j) (digits_lt hi hj) ∙ rw (digits_div i hj, digits_mod i hj);
}

-- The entry at a place of the memory.
pub holds_at : {n : ℕ} {t : Table} {l : List ℕ} → Holds n t l → (p : ℕ) → p < n * n → get_or l p 0 ≡ t (p / n) (p % n)
holds_at {n = zero} h p b = absurd (omega arith)
holds_at {n = suc n} {t} {l} h p b =
    rw (div-add-mod' p (suc n)) at
    (h.word (p / suc n) (p % suc n) ((div-lt_iff_lt-mul (omega arith)).1 b) (mod-lt p (omega arith)))

-- The table decides the memory.
pub holds_row_by_row : {n : ℕ} {t : Table} {l : List ℕ} → Holds n t l → l ≡ row_by_row n t
holds_row_by_row {n} {t} {l} h = is_list_of (n * n) (λ p. t (p / n) (p % n)) l h.size (holds_at h)
