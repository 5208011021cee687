-- The words of the three planes where they lie in the memory.
use Prim.Native.Nat.{ℕ, ◌+◌, ◌*◌, ◌<◌, ◌≤◌}
use native.Mathlib.Omega.{arith}
use mathlib.Core.Path.{◌≡◌, sym, ap, ◌∙◌}
use mathlib.Core.List.{List}
use lib.ListN.{length, get_or}
use Rattle.memory.proofs.Part.{part_length, part_word}
use Rattle.closure.specs.Table.{entries}
use Rattle.memory.proofs.Geometry.{row_fits}
use Rattle.turns.specs.Layout.{plane_in}

module _ (n : ℕ) (l : List ℕ) (long : length l ≡ 3 * (n * n)) where
  -- word (i, j) of plane m
  plane_word : (m at i j : ℕ) → at ≡ m * (n * n) → m ≤ 2 → m * (n * n) + n * n ≤ 3 * (n * n) → i < n → j < n
      → entries n (plane_in n m l) i j ≡ get_or l (at + (i * n + j)) 0
  plane_word m at i j e h f row b =
      part_word (m * (n * n)) (n * n) l (omega arith) (i * n + j) (omega (arith, row_fits row))
      ∙ ap (λ (x : ℕ). get_or l (x + (i * n + j)) 0) (sym e)

  pub plane_size : (m : ℕ) → m * (n * n) + n * n ≤ 3 * (n * n) → length (plane_in n m l) ≡ n * n
  plane_size m f = part_length (m * (n * n)) (n * n) l (omega arith)

  pub c_word : (i j : ℕ) → i < n → j < n → entries n (plane_in n 0 l) i j ≡ get_or l (i * n + j) 0
  c_word i j h b =
      let e : 0 + (i * n + j) ≡ i * n + j = omega arith in
      plane_word 0 0 i j (omega arith) (omega arith) (omega arith) h b ∙ ap (λ (x : ℕ). get_or l x 0) e

  pub a_word : (i j : ℕ) → i < n → j < n → entries n (plane_in n 1 l) i j ≡ get_or l (n * n + (i * n + j)) 0
  a_word i j h b = plane_word 1 (n * n) i j (omega arith) (omega arith) (omega arith) h b

  pub b_word : (i j : ℕ) → i < n → j < n → entries n (plane_in n 2 l) i j ≡ get_or l (2 * (n * n) + (i * n + j)) 0
  b_word i j h b = plane_word 2 (2 * (n * n)) i j (omega arith) (omega arith) (omega arith) h b
