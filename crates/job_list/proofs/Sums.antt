-- The sum of the first q sizes' squares is where job q begins.
use Prim.Native.Nat.{ℕ, zero, suc, ◌*◌, ◌≤◌}
use native.Mathlib.Numerals.{add-one}
use native.Mathlib.Omega.{arith}
use mathlib.Core.Path.{◌≡◌, sym, ap}
use mathlib.Core.List.{List}
use lib.ListN.{length, take}
use Rattle.std.specs.List.{sum_by}
use Rattle.std.proofs.lemmas.List.Sums.{sum_by_more}
use Rattle.job_list.specs.Jobs.{offset}
use Rattle.job_list.specs.Fits.{Small}
use Rattle.job_list.proofs.Places.{offset_none, offset_next}
use Rattle.job_list.proofs.Fits.{offset_most}

abbrev pub square : ℕ → ℕ
square n = n * n

pub squares : (sizes : List ℕ) (q : ℕ) → q ≤ length sizes → sum_by square (take q sizes) ≡ offset sizes q
squares sizes zero h = sym (offset_none sizes)
squares sizes (suc q) h =
    omega (arith, sum_by_more square sizes q 0 (omega arith), squares sizes q (omega arith), offset_next sizes q (omega arith), ap (λ (m : ℕ). sum_by square (take m sizes)) (add-one q))

pub squares_most : (sizes : List ℕ) (q : ℕ) → (q ≤ length sizes) × Small sizes → sum_by square (take q sizes) ≤ 16384
squares_most sizes q asked =
    omega (arith, squares sizes q asked.0, offset_most asked.1 q asked.0, asked.0, asked.1.few)
