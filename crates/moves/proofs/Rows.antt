-- A row is no longer than its plane.
use Prim.Native.Nat.{ℕ, zero, suc, ◌*◌, ◌≤◌}
use native.Mathlib.Omega.{arith}
use Rattle.turns.proofs.Geometry.{factor_most}

pub square : (n : ℕ) → n ≤ n * n
square zero = omega arith
square (suc n) = factor_most (suc n) (suc n) (omega arith)
