-- How many ticks a list has at most, and that every entry leaves within them.
use Prim.Native.Nat.{ℕ, ◌*◌, ◌≤◌, ◌<◌}
use native.Mathlib.Nat.{mul-le-mul, mul-le-mul_left}
use native.Mathlib.Omega.{arith}
use Rattle.job_list.specs.Jobs.{Jobs, count, size, Entry}
use Rattle.job_list.specs.Fits.{ListFits}
use Rattle.systolic.specs.Tick.{leaves}
use Rattle.systolic.specs.State.{total}

pub total_most : {n count : ℕ} → n ≤ 32 → count ≤ 16 → total n count ≤ 2110
total_most {n} {count} h k = omega (arith, mul-le-mul h k)

pub tick_within : {J : Jobs} {q i k : ℕ} → ListFits J → Entry J q i k → leaves J q i k < total J.order (count J)
tick_within {J} {q} {i} {k} fits at =
    let few : size J q ≤ J.order = (fits.sizes_fit q at.job).1 in
    let below = mul-le-mul_left (4 * J.order) at.job in
    omega (arith, at.row, at.column, fits.ranged.least)
