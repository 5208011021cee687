-- What stands in the array on a tick.
use Prim.Native.Nat.{ℕ, ◌+◌, ◌-◌, ◌*◌, ◌≤◌, ◌<◌}
use native.Mathlib.Nat.{mul-le-mul_left}
use native.Mathlib.Omega.{arith}
use native.Mathlib.Decide.{dec_lt}
use mathlib.Core.Path.{refl}
use mathlib.Core.List.{List}
use Rattle.turns.specs.declared.turn.Turn.{Turn}
use Rattle.turns.specs.Turn.{At}
use Rattle.stage.specs.declared.jobs.Job.{Job}
use Rattle.stage.specs.Found.{Findable, Found}
use Rattle.stage.specs.Staged.{Staged}

-- What stands in the array, from the turn of cell (0, 0) and the three jobs.
module _ {n t : ℕ} {algebras sizes starts : List ℕ} {head : Turn}
    (asked : (1 ≤ n) × (n ≤ 32) × (t ≤ 2110) × Findable algebras sizes starts) (at : At n (t + 4 * n) head) where
  head_early : 4 ≤ head.pass
  head_early = go (dec_lt head.pass 4)
    where
      go : Dec (head.pass < 4) → 4 ≤ head.pass
      go (yes h) = absurd (omega (arith, at.at, at.below, mul-le-mul_left n h))
      go (no h) = omega arith

  pub pass_there : 2 ≤ head.pass
  pass_there = omega (arith, head_early)

  pub staged : {front middle back : Job} → Found algebras sizes head.pass front → Found algebras sizes (head.pass - 1) middle
      → Found algebras sizes (head.pass - 2) back
      → Staged n t algebras sizes (record { tick = t; head = head; front = front; middle = middle; back = back })
  staged first second third = record {
    tick = refl;
    head = record {
      least = asked.0;
      most = asked.1;
      few = asked.3.listed.few;
      below = at.below;
      early = head_early;
      late = omega (arith, at.at, asked.1, asked.2);
    };
    step = at.at;
    front = first;
    middle = second;
    back = third;
  }
