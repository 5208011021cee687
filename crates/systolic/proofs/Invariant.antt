-- The invariant of the ticks, from any planes: a cell whose last step was on the tick before holds what `Registers` says. All that a
-- cell reads was left on the tick before, at the wrapped edge too, so this is one induction on the ticks.
use Prim.Native.Nat.{ℕ, zero, suc, ◌+◌, ◌-◌, ◌*◌, ◌≤◌, ◌<◌}
use native.Mathlib.Nat.{mul-le-mul_left}
use native.Mathlib.Omega.{arith}
use native.Mathlib.Decide.{dec_lt, ℕ_discrete}
use mathlib.Core.Path.{◌≡◌, refl}
use mathlib.Core.Bool.{cond, ◌&&◌, and-false}
use lib.Dec.{eqb, ltb, eqb-suc-zero}
use borrow.Author.Tests.{lt-ltb, le-ltb, eq-eqb, ne_eqb}
use Rattle.semiring.proofs.Order.{AsGood}
use Rattle.closure.specs.Elimination.{passes}
use Rattle.closure.proofs.Holds.{row_by_row_holds}
use Rattle.job_list.specs.Fits.{ListAccepted}
use Rattle.job_list.specs.Jobs.{Jobs, algebra}
use Rattle.systolic.specs.Feeder.{fed}
use Rattle.systolic.specs.Cell.{Planes, Cell, cell_of, aIn, bIn, cIn, new_c, stepped}
use Rattle.systolic.specs.Tick.{cell_after, planes_after}
use Rattle.systolic.proofs.Digits.{Step, step_cell}
use Rattle.systolic.proofs.Padding.{fed_links}
use Rattle.systolic.proofs.Registers.{
  Staying,
  Moving,
  fed_moving,
  none_summed,
  sum_summed,
  kept_summed,
  summed_all,
  row_taken,
  column_taken,
  passed,
  passed_late,
}

-- c of cell (i, j) after n steps for job q; a word of entry (i, j) that has passed v cells for it.
abbrev StayingIn : Jobs → ℕ → ℕ → ℕ → ℕ → ℕ → Type 0
StayingIn J q i j n x = Staying (algebra J q) (fed J q) J.order i j n x

abbrev MovingIn : Jobs → ℕ → ℕ → ℕ → ℕ → ℕ → ℕ → Type 0
MovingIn J q key i j v x = Moving (algebra J q) (fed J q) J.order key i j v x

abbrev Done : Jobs → ℕ → ℕ → ℕ → ℕ → Type 0
Done J q i j x = AsGood (algebra J q) x (passes (algebra J q) (fed J q) J.order i j)

-- What cell (i, j) holds after step k of pass p of job q.
pub record Held (J : Jobs) (q p k i j : ℕ) (x : Cell) : Type 0 where
  pub c : Staying (algebra J q) (fed J q) J.order i j (J.order * p + k + 1) x.c
  pub a : Moving (algebra J q) (fed J q) J.order k i k (J.order * p + j + 1) x.a
  pub b : Moving (algebra J q) (fed J q) J.order k k j (J.order * p + i + 1) x.b
  -- in the fourth pass, from cell (i, k) on, a is as good as the elimination
  pub out : p ≡ 3 → k ≤ j → AsGood (algebra J q) x.a (passes (algebra J q) (fed J q) J.order i k)

-- T ticks are made, and r are the planes.
pub record Invariant (J : Jobs) (T : ℕ) (r : Planes) : Type 0 where
  pub held : {s q p k : ℕ} → Step J s q p k → (i j : ℕ) → i < J.order → j < J.order → T ≡ s + (i + j) + 1
      → Held J q p k i j (cell_of J r i j)

-- The planes after a tick hold each cell as the rule makes it.
module _ (J : Jobs) (t : ℕ) (r : Planes) where
  pub planes_cell : (i j : ℕ) → i < J.order → j < J.order → cell_of J (planes_after J t r) i j ≡ cell_after J t r i j
  unfolding planes_after
  planes_cell i j hi hj =
      let c = (row_by_row_holds J.order (λ i j. (cell_after J t r i j).c)).word i j hi hj in
      let a = (row_by_row_holds J.order (λ i j. (cell_after J t r i j).a)).word i j hi hj in
      let b = (row_by_row_holds J.order (λ i j. (cell_after J t r i j).b)).word i j hi hj in
      λ x. record { c = c x; a = a x; b = b x }

-- The step before, in a pass or at the wrap from one pass to the next.
module _ {J : Jobs} {s q : ℕ} where
  pass_before : {p k : ℕ} → Step J s q (suc p) k → Step J (4 * J.order * q + J.order * p + k) q p k
  pass_before step = record { job = step.job; pass = omega (arith, step.pass); point = step.point; at = refl }

  point_before : {p k : ℕ} → Step J s q p (suc k) → Step J (4 * J.order * q + J.order * p + k) q p k
  point_before step = record { job = step.job; pass = step.pass; point = omega (arith, step.point); at = refl }

  wrap_before : {p k : ℕ} → 1 ≤ J.order → Step J s q (suc p) k
      → Step J (4 * J.order * q + J.order * p + (J.order - 1)) q p (J.order - 1)
  wrap_before least step = record { job = step.job; pass = omega (arith, step.pass); point = omega arith; at = refl }

module _ {J : Jobs} (list : ListAccepted J) where
  last : J.order - 1 < J.order
  last = omega (arith, list.fits.ranged.least)

  -- No cell has made a step before the first tick.
  pub invariant-none : (r : Planes) → Invariant J 0 r
  invariant-none r = record { held = λ step i j hi hj e. absurd (omega arith) }

  module _ {T : ℕ} {r : Planes} (inv : Invariant J T r) where
    -- What enters cell (i, j) at its step s, on tick T.
    row_in : {s q p k : ℕ} → Step J s q p k → (i j : ℕ) → i < J.order → j < J.order → T ≡ s + (i + j)
        → MovingIn J q k i k (J.order * p + j) (aIn J r q p k i j)
    row_in {q} {p = zero} {k} step i zero hi hj e =
        let f : J.order * 0 + 0 ≡ 0 = omega arith in
        rw f (fed_moving (fed_links list q) k i k)
    row_in {q} {p = suc p} {k} step i zero hi hj e =
        let before = inv.held (pass_before step) i (J.order - 1) hi last (omega (arith, step.at, list.fits.ranged.least)) in
        let f : J.order * p + (J.order - 1) + 1 ≡ J.order * suc p + 0 = omega (arith, list.fits.ranged.least) in
        rw (eqb-suc-zero p) (rw f at before.a)
    row_in {p} step i (suc j) hi hj e =
        let f : J.order * p + j + 1 ≡ J.order * p + suc j = omega arith in
        rw f at (inv.held step i j hi (omega arith) (omega arith)).a

    column_in : {s q p k : ℕ} → Step J s q p k → (i j : ℕ) → i < J.order → j < J.order → T ≡ s + (i + j)
        → MovingIn J q k k j (J.order * p + i) (bIn J r q p k i j)
    column_in {q} {p = zero} {k} step zero j hi hj e =
        let f : J.order * 0 + 0 ≡ 0 = omega arith in
        rw f (fed_moving (fed_links list q) k k j)
    column_in {q} {p = suc p} {k} step zero j hi hj e =
        let before = inv.held (pass_before step) (J.order - 1) j last hj (omega (arith, step.at, list.fits.ranged.least)) in
        let f : J.order * p + (J.order - 1) + 1 ≡ J.order * suc p + 0 = omega (arith, list.fits.ranged.least) in
        rw (eqb-suc-zero p) (rw f at before.b)
    column_in {p} step (suc i) j hi hj e =
        let f : J.order * p + i + 1 ≡ J.order * p + suc i = omega arith in
        rw f at (inv.held step i j (omega arith) hj (omega arith)).b

    sum_in : {s q p k : ℕ} → Step J s q p k → (i j : ℕ) → i < J.order → j < J.order → T ≡ s + (i + j)
        → StayingIn J q i j (J.order * p + k) (cIn J r q p k i j)
    sum_in {q} {p = zero} {k = zero} step i j hi hj e =
        let f : J.order * 0 + 0 ≡ 0 = omega arith in
        rw f (none_summed (fed_links list q) i j)
    sum_in {q} {p = suc p} {k = zero} step i j hi hj e =
        let before = inv.held (wrap_before list.fits.ranged.least step) i j hi hj (omega (arith, step.at, list.fits.ranged.least)) in
        let f : J.order * p + (J.order - 1) + 1 ≡ J.order * suc p + 0 = omega (arith, list.fits.ranged.least) in
        rw (eqb-suc-zero p) (rw f at before.c)
    sum_in {q} {p} {k = suc k} step i j hi hj e =
        let before = inv.held (point_before step) i j hi hj (omega (arith, step.at)) in
        let f : J.order * p + k + 1 ≡ J.order * p + suc k = omega arith in
        rw (eqb-suc-zero k, and-false (eqb p 0)) (rw f at before.c)

    -- In the fourth pass what comes from a cell at k or right of it is as good as the elimination.
    out_in : {s q p k : ℕ} → Step J s q p k → (i j : ℕ) → i < J.order → j < J.order → T ≡ s + (i + j)
        → p ≡ 3 → k < j → Done J q i k (aIn J r q p k i j)
    out_in step i zero hi hj e f h = absurd (omega arith)
    out_in step i (suc j) hi hj e f h = (inv.held step i j hi (omega arith) (omega arith)).out f (omega arith)

    -- What the step makes of it.
    module _ {s q p k : ℕ} (step : Step J s q p k) (i j : ℕ) (hi : i < J.order) (hj : j < J.order) (e : T ≡ s + (i + j)) where
      new_sum : StayingIn J q i j (J.order * p + k + 1) (new_c J r q p k i j)
      new_sum = go (dec_lt p 3)
        where
          go : Dec (p < 3) → StayingIn J q i j (J.order * p + k + 1) (new_c J r q p k i j)
          go (yes h) =
              rw (lt-ltb p 3 h)
              (sum_summed (fed_links list q) step.point hi hj p (sum_in step i j hi hj e) (row_in step i j hi hj e)
              (column_in step i j hi hj e))
          go (no h) =
              let late : J.order * 3 ≤ J.order * p = mul-le-mul_left J.order (omega arith) in
              rw (le-ltb p 3 (omega arith)) (kept_summed (fed_links list q) step.point hi hj p late (sum_in step i j hi hj e))

      new_row : MovingIn J q k i k (J.order * p + j + 1) (stepped J r q p k i j).a
      new_row = go (new_c J r q p k i j) new_sum (ℕ_discrete k j)
        where
          go : (x : ℕ) → StayingIn J q i j (J.order * p + k + 1) x → Dec (k ≡ j)
              → MovingIn J q k i k (J.order * p + j + 1) (cond (eqb k j) x (aIn J r q p k i j))
          go x c (yes f) = rw (eq-eqb k j f) (rw (← f) (row_taken (fed_links list q) p step.point (rw (← f) at c)))
          go x c (no f) = rw (ne_eqb k j f) (passed (fed_links list q) p step.point hj f (row_in step i j hi hj e))

      new_column : MovingIn J q k k j (J.order * p + i + 1) (stepped J r q p k i j).b
      new_column = go (new_c J r q p k i j) new_sum (ℕ_discrete k i) (dec_lt p 3)
        where
          go : (x : ℕ) → StayingIn J q i j (J.order * p + k + 1) x → Dec (k ≡ i) → Dec (p < 3)
              → MovingIn J q k k j (J.order * p + i + 1) (cond (eqb k i && ltb p 3) x (bIn J r q p k i j))
          go x c (yes f) (yes h) =
              rw (eq-eqb k i f, lt-ltb p 3 h) (rw (← f) (column_taken (fed_links list q) p step.point (rw (← f) at c)))
          go x c (yes f) (no h) =
              let late : J.order * 3 ≤ J.order * p = mul-le-mul_left J.order (omega arith) in
              rw (eq-eqb k i f, le-ltb p 3 (omega arith))
              (passed_late (fed_links list q) p i late step.point (column_in step i j hi hj e))
          go x c (no f) h = rw (ne_eqb k i f) (passed (fed_links list q) p step.point hi f (column_in step i j hi hj e))

      new-out : p ≡ 3 → k ≤ j → Done J q i k (stepped J r q p k i j).a
      new-out f h = go (new_c J r q p k i j) new_sum (ℕ_discrete k j)
        where
          go : (x : ℕ) → StayingIn J q i j (J.order * p + k + 1) x → Dec (k ≡ j)
              → Done J q i k (cond (eqb k j) x (aIn J r q p k i j))
          go x c (yes g) =
              let late : J.order * 3 ≤ J.order * p = mul-le-mul_left J.order (omega arith) in
              rw (eq-eqb k j g) (rw (← g) at (summed_all (fed_links list q) hi hj (omega arith) c))
          go x c (no g) = rw (ne_eqb k j g) (out_in step i j hi hj e f (omega arith))

      new_held : Held J q p k i j (stepped J r q p k i j)
      new_held = record { c = new_sum; a = new_row; b = new_column; out = new-out }

    pub invariant-tick : Invariant J (T + 1) (planes_after J T r)
    invariant-tick = record {
      held = λ {s} step i j hi hj e.
          let f : T ≡ s + (i + j) = omega arith in
          rw (planes_cell J T r i j hi hj, step_cell step i j f r) (new_held step i j hi hj f);
    }
