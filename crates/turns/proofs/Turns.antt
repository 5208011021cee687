-- A turn of a cell on a tick: the job, pass and point of its step, or that it has none. Elsewhere nothing divides.
use Prim.Native.Nat.{ℕ, ◌+◌, ◌-◌, ◌*◌, ◌/◌, ◌%◌, ◌<◌, ◌≤◌}
use native.Mathlib.Nat.{div-add-mod', mod-lt, mul-le-mul_left}
use native.Mathlib.Omega.{arith}
use native.Mathlib.Decide.{dec_lt}
use mathlib.Core.Path.{◌≡◌, refl, sym, ap, ◌∙◌}
use mathlib.Core.Bool.{Bool, true, false, cond, and-false}
use lib.Dec.{leb, ltb}
use borrow.Author.Tests.{leb-true, ltb-true, ltb-false, lt-leb, le-ltb, le-leb, lt-ltb}
use Rattle.job_list.specs.Jobs.{Jobs, count}
use Rattle.systolic.specs.Cell.{Planes, cell_of, stepped}
use Rattle.systolic.specs.Tick.{works, cell_after}
use Rattle.memory.proofs.Any.{both_true}
use Rattle.systolic.proofs.Digits.{Step, step_cell, idle_cell}
use Rattle.turns.specs.Turn.{live, job_in, pass_in, Phase, step_of}
use Rattle.turns.specs.declared.turn.Turn.{Turn}

-- A pass of a job.
pub live_bounds : (count pass : ℕ) → live count pass ≡ true → (4 ≤ pass) × (pass < 4 + 4 * count)
live_bounds count pass e =
    let (f, g) = both_true (leb 4 pass) (ltb pass (4 + 4 * count)) e in
    (leb-true 4 pass f, ltb-true pass (4 + 4 * count) g)

pub live_job : (count pass : ℕ) → live count pass ≡ true → job_in pass < count
live_job count pass e = let (f, g) = live_bounds count pass e in omega arith

pub live_within : (count pass : ℕ) → 4 ≤ pass → pass < 4 + 4 * count → live count pass ≡ true
live_within count pass h h' = rw (le-leb 4 pass h, lt-ltb pass (4 + 4 * count) h')

module _ (J : Jobs) (t : ℕ) {i j pass k : ℕ} (on : Phase J.order (t + 4 * J.order) i j pass k) where
  pub on_step : live (count J) pass ≡ true → Step J (t - (i + j)) (job_in pass) (pass_in pass) k
  on_step e =
      let (f, g) = live_bounds (count J) pass e in
      let digits : pass ≡ 4 + 4 * job_in pass + pass_in pass = omega arith in
      let h = ap (λ (x : ℕ). J.order * x) digits in
      record { job = omega arith; pass = omega arith; point = on.below; at = omega (arith, on.at) }

  pub on_tick : live (count J) pass ≡ true → t ≡ t - (i + j) + (i + j)
  on_tick e = let (f, g) = live_bounds (count J) pass e in omega (arith, on.at, mul-le-mul_left J.order f)

  pub on_idle : live (count J) pass ≡ false → works J t i j ≡ false
  on_idle e = go (dec_lt pass 4)
    where
      go : Dec (pass < 4) → works J t i j ≡ false
      go (yes h) =
          let l : t < i + j = omega (arith, on.at, on.below, mul-le-mul_left J.order h) in
          rw (lt-leb (i + j) t l)
      go (no h) =
          let e' : ltb pass (4 + 4 * count J) ≡ false = rw (le-leb 4 pass (omega arith)) at e in
          let m = mul-le-mul_left J.order (ltb-false pass (4 + 4 * count J) e') in
          let l : 4 * J.order * count J ≤ t - (i + j) = omega (arith, on.at) in
          rw (le-ltb (t - (i + j)) (4 * J.order * count J) l) (and-false (leb (i + j) t))

  -- The cell after the tick.
  pub on_cell : (r : Planes)
      → cell_after J t r i j
      ≡ cond (live (count J) pass) (stepped J r (job_in pass) (pass_in pass) k i j) (cell_of J r i j)
  on_cell r = go (live (count J) pass) refl
    where
      go : (b : Bool) → live (count J) pass ≡ b
          → cell_after J t r i j ≡ cond b (stepped J r (job_in pass) (pass_in pass) k i j) (cell_of J r i j)
      go true e = step_cell (on_step e) i j (on_tick e) r
      go false e = idle_cell J t r i j (on_idle e)

-- Each cell is at some point of some pass.
pub phase_of : (n u i j : ℕ) → 1 ≤ n → i + j ≤ u → Phase n u i j ((u - (i + j)) / n) ((u - (i + j)) % n)
phase_of n u i j least h = record {
  below = mod-lt (u - (i + j)) least;
  at = omega (arith, div-add-mod' (u - (i + j)) n);
}

-- No cell is more than two passes behind the first.
module _ {n : ℕ} {s : Turn} (below : s.point < n) {i j pass k : ℕ} (on : Phase n (step_of n s) i j pass k) where
  pub pass_most : pass ≤ s.pass
  pass_most = go (dec_lt s.pass pass)
    where
      go : Dec (s.pass < pass) → pass ≤ s.pass
      go (yes h) = absurd (omega (arith, on.at, mul-le-mul_left n h))
      go (no h) = omega arith

  pub pass_near : i < n → j < n → s.pass ≤ pass + 2
  pass_near h h' = go (dec_lt (pass + 2) s.pass)
    where
      go : Dec (pass + 2 < s.pass) → s.pass ≤ pass + 2
      go (yes d) = absurd (omega (arith, on.at, on.below, mul-le-mul_left n d))
      go (no d) = omega arith

  -- a cell of the first row or column
  pub pass_next : i + j < n → s.pass ≤ pass + 1
  pass_next h = go (dec_lt (pass + 1) s.pass)
    where
      go : Dec (pass + 1 < s.pass) → s.pass ≤ pass + 1
      go (yes d) = absurd (omega (arith, on.at, on.below, mul-le-mul_left n d))
      go (no d) = omega arith

-- Passes of one job are live together.
pub live_same : (count pass pass' : ℕ) → pass / 4 ≡ pass' / 4 → live count pass ≡ live count pass'
live_same count pass pass' e = go (dec_lt pass 4) (dec_lt pass (4 + 4 * count))
  where
    go : Dec (pass < 4) → Dec (pass < 4 + 4 * count) → live count pass ≡ live count pass'
    go (yes h) d =
        let h' : pass' < 4 = omega arith in rw (lt-leb 4 pass h, lt-leb 4 pass' h')
    go (no h) (yes d) =
        let h' : 4 ≤ pass' = omega arith in
        let d' : pass' < 4 + 4 * count = omega arith in
        live_within count pass (omega arith) d ∙ sym (live_within count pass' h' d')
    go (no h) (no d) =
        let h' : 4 ≤ pass' = omega arith in
        let d' : 4 + 4 * count ≤ pass' = omega arith in
        rw (le-leb 4 pass (omega arith), le-leb 4 pass' h', le-ltb pass (4 + 4 * count) (omega arith), le-ltb pass' (4 + 4 * count) d')
