-- Lengths of an order in range fit a number of 64 bits, and the ticks of a list one of 16.
use Prim.Native.Nat.{ℕ, ◌+◌, ◌*◌, ◌≤◌}
use native.Mathlib.Nat.{mul-le-mul}
use native.Mathlib.Omega.{arith}
use mir.Syntax.{w16, w64}
use mir.Val.{Fits}
use Rattle.job_list.proofs.Fits.{area_fits}
use Rattle.job_list.specs.Fits.{Ranged}
use Rattle.systolic.specs.State.{state_length, total}

module _ (n : ℕ) (most : n ≤ 32) where
  pub area_room : Fits w64 (n * n)
  area_room = omega (arith, area_fits most)

  pub planes_room : Fits w64 (3 * (n * n))
  planes_room = omega (arith, area_fits most)

  pub state_room : Fits w64 (state_length n)
  state_room = omega (arith, area_fits most)

pub ruleset rooms = (area_room, planes_room, state_room)

module _ (order count : ℕ) (ranged : Ranged order count) where
  pub ticks_room : Fits w16 (4 * order * count)
  ticks_room = omega (arith, mul-le-mul ranged.most ranged.few)

  pub sum_room : Fits w16 (4 * order * count + 2 * order)
  sum_room = omega (arith, mul-le-mul ranged.most ranged.few)

  pub total_most : total order count ≤ 2110
  total_most = omega (arith, mul-le-mul ranged.most ranged.few)
