-- Which job, pass and point a cell's step is: the only place that divides. Elsewhere a step is s ≡ 4*N*q + N*p + k.
use Prim.Native.Nat.{ℕ, ◌+◌, ◌-◌, ◌*◌, ◌/◌, ◌%◌, ◌<◌, ◌≤◌}
use native.Mathlib.Nat.{div-add-mod', div-lt_iff_lt-mul, mod-lt, mul-le-mul_left}
use native.Mathlib.Omega.{arith}
use mathlib.Core.Path.{◌≡◌, ap, ◌∙◌}
use mathlib.Core.Bool.{true, false}
use lib.Arith.{digits_div, digits_mod}
use borrow.Author.Tests.{le-leb, lt-ltb}
use Rattle.job_list.specs.Jobs.{Jobs, count}
use Rattle.systolic.specs.Cell.{Planes, cell_of, stepped}
use Rattle.systolic.specs.Tick.{works, job_at, pass_at, point_at, cell_after}

-- Step s of a cell is step k of pass p of job q.
pub record Step (J : Jobs) (s q p k : ℕ) : Type 0 where
  pub job : q < count J
  pub pass : p < 4
  pub point : k < J.order
  pub at : s ≡ 4 * J.order * q + J.order * p + k

module _ {J : Jobs} {s q p k : ℕ} (step : Step J s q p k) where
  -- the part of s within the job
  within : J.order * p + k < 4 * J.order
  within = omega (arith, mul-le-mul_left J.order step.pass)

  pub step_job : job_at J s ≡ q
  step_job =
      let e : s ≡ q * (4 * J.order) + (J.order * p + k) = omega (arith, step.at) in
      ap (λ (x : ℕ). x / (4 * J.order)) e ∙ digits_div q within

  -- s to the base N
  by_order : s ≡ (q * 4 + p) * J.order + k
  by_order = omega (arith, step.at)

  pub step_pass : pass_at J s ≡ p
  step_pass =
      ap (λ (x : ℕ). x / J.order % 4) by_order
      ∙ ap (λ (x : ℕ). x % 4) (digits_div (q * 4 + p) step.point)
      ∙ digits_mod q step.pass

  pub step_point : point_at J s ≡ k
  step_point = ap (λ (x : ℕ). x % J.order) by_order ∙ digits_mod (q * 4 + p) step.point

  pub step_below : s < 4 * J.order * count J
  step_below = omega (arith, mul-le-mul_left (4 * J.order) step.job, step.at, within)

  -- Cell (i, j) makes its step s on tick s + i + j.
  module _ {t : ℕ} (i j : ℕ) (e : t ≡ s + (i + j)) where
    pub step_works : works J t i j ≡ true
    step_works =
        let below : t - (i + j) < 4 * J.order * count J = omega (arith, step_below) in
        rw (le-leb (i + j) t (omega arith), lt-ltb (t - (i + j)) (4 * J.order * count J) below)

    pub step_cell : (r : Planes) → cell_after J t r i j ≡ stepped J r q p k i j
    unfolding cell_after
    step_cell r = let f : t - (i + j) ≡ s = omega arith in rw (step_works, f, step_job, step_pass, step_point)

-- Every step below 4NQ has its job, pass and point.
module _ (J : Jobs) (least : 1 ≤ J.order) where
  some_step : (s : ℕ) → s < 4 * J.order * count J → (q : ℕ) × (p : ℕ) × (k : ℕ) × Step J s q p k
  some_step s h =
      let area : ℕ = 4 * J.order in
      let rest : ℕ = s % area in
      let below : rest < 4 * J.order = mod-lt s (omega arith) in (
        s / area,
        rest / J.order,
        rest % J.order,
        record {
          job = (div-lt_iff_lt-mul {k = area} {x = s} {y = count J} (omega arith)).1 (omega arith);
          pass = (div-lt_iff_lt-mul {k = J.order} {x = rest} {y = 4} least).1 below;
          point = mod-lt rest least;
          at = omega (arith, div-add-mod' s area, div-add-mod' rest J.order);
        },
      )

  pub step_of : (s : ℕ) → s < 4 * J.order * count J → Step J s (job_at J s) (pass_at J s) (point_at J s)
  step_of s h =
      let (q, p, k, step) = some_step s h in
      rw (step_job step, step_pass step, step_point step) step

-- A cell whose turn has not come or is over keeps its registers.
pub idle_cell : (J : Jobs) (t : ℕ) (r : Planes) (i j : ℕ) → works J t i j ≡ false → cell_after J t r i j ≡ cell_of J r i j
unfolding cell_after
idle_cell J t r i j e = rw e
