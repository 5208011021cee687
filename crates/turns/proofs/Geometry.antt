-- Rows, passes and parts as products: the bounds that the code's numbers need.
use Prim.Native.Nat.{ℕ, zero, suc, ◌+◌, ◌-◌, ◌*◌, ◌<◌, ◌≤◌}
use native.Mathlib.Nat.{mul-le-mul_left, mul-le-mul_right}
use native.Mathlib.Omega.{arith}
use mathlib.Core.Path.{◌≡◌}

-- a row before another
pub rows_apart : {m i : ℕ} (n : ℕ) → m < i → m * n + n ≤ i * n
rows_apart {m} {i} n h = omega (arith, mul-le-mul_right n h)

-- a product is no less than the factor
pub factor_most : (n pass : ℕ) → 1 ≤ n → pass ≤ n * pass
factor_most n pass h = omega (arith, mul-le-mul_right pass h)

-- a step that is past the first pass
pub pass_least : (n pass point : ℕ) → point < n → n ≤ n * pass + point → 1 ≤ pass
pass_least n zero point h l = absurd (omega arith)
pass_least n (suc pass) point h l = omega arith

-- the pass before
pub pass_before : (n pass : ℕ) → 1 ≤ pass → n * (pass - 1) + n ≡ n * pass
pass_before n zero h = absurd (omega arith)
pass_before n (suc pass) h = let e : suc pass - 1 ≡ pass = omega arith in rw e (omega arith)

pub pass_some : (n pass : ℕ) → 1 ≤ n * pass → 1 ≤ pass
pass_some n zero h = absurd (omega arith)
pass_some n (suc pass) h = omega arith

-- the last row
pub last_row : (n : ℕ) → n * n - n ≡ (n - 1) * n
last_row zero = omega arith
last_row (suc n) = let e : suc n - 1 ≡ n = omega arith in rw e (omega arith)

-- the rows before row i
pub rows_fit : {i : ℕ} (n : ℕ) → i ≤ n → i * n ≤ n * n
rows_fit n h = mul-le-mul_right n h

-- the first pass of a job, as a step
pub early_step : (n pass : ℕ) → 4 ≤ pass → 4 * n ≤ n * pass
early_step n pass h = omega (arith, mul-le-mul_left n h)
