-- The array after T ticks from the first one, from any planes and any results: each entry is the job's elimination word once its
-- tick is past, and the old word before that.
use Prim.Native.Nat.{ℕ, zero, suc, ◌+◌, ◌-◌, ◌≤◌, ◌<◌}
use native.Mathlib.Nat.{zero-add, add-zero, suc-add}
use native.Mathlib.Omega.{arith}
use native.Mathlib.Decide.{dec_lt, ℕ_discrete}
use mathlib.Core.Path.{◌≡◌, refl, ◌∙◌}
use mathlib.Core.List.{List}
use mathlib.Core.Bool.{cond}
use lib.ListN.{length, get_or}
use lib.Dec.{ltb}
use borrow.Author.Tests.{lt-ltb, le-ltb}
use Rattle.semiring.proofs.Order.{good_antisym}
use Rattle.closure.specs.Elimination.{closure}
use Rattle.closure.proofs.Holds.{row_by_row_holds}
use Rattle.job_list.specs.Fits.{ListAccepted}
use Rattle.job_list.specs.Jobs.{Jobs, size, words_of, job_weights, place, Entry, algebra}
use Rattle.systolic.specs.Cell.{Planes, Sized, cell_of}
use Rattle.systolic.specs.Tick.{Array, cell_after, planes_after, emitted_rows, ticked, ticks, leaves}
use Rattle.systolic.proofs.Padding.{fed_passes}
use Rattle.systolic.proofs.Invariant.{Invariant, invariant-none, invariant-tick}
use Rattle.job_list.proofs.Places.{entry_below}
use Rattle.systolic.proofs.Emission.{entry_step, rows_length, rows_other, rows_entry}

-- m ticks and then n more
module _ (J : Jobs) where
  pub ticks_add : (t m n : ℕ) (x : Array) → ticks J t (m + n) x ≡ ticks J (t + m) n (ticks J t m x)
  unfolding ticks
  ticks_add t zero n x = rw (zero-add n, add-zero t)
  ticks_add t (suc m) n x =
      let e : t + suc m ≡ t + 1 + m = omega arith in
      rw (suc-add m n, e) (ticks_add (t + 1) m n (ticked J t x))

module _ (J : Jobs) where
  pub planes_sized : (t : ℕ) (r : Planes) → Sized J.order (planes_after J t r)
  unfolding planes_after
  planes_sized t r = record {
    c = (row_by_row_holds J.order (λ i j. (cell_after J t r i j).c)).size;
    a = (row_by_row_holds J.order (λ i j. (cell_after J t r i j).a)).size;
    b = (row_by_row_holds J.order (λ i j. (cell_after J t r i j).b)).size;
  }

  pub ticks_sized : (t n : ℕ) (x : Array) → Sized J.order x.planes → Sized J.order (ticks J t n x).planes
  unfolding ticks ticked
  ticks_sized t zero x s = s
  ticks_sized t (suc n) x s = ticks_sized (t + 1) n (ticked J t x) (planes_sized t x.planes)

-- The array m after T ticks on results that held `old`.
pub record Reached (J : Jobs) (old : List ℕ) (T : ℕ) (m : Array) : Type 0 where
  pub planes : Invariant J T m.planes
  pub length_kept : length m.results ≡ length old
  pub entry : {q i k : ℕ} → length old ≡ words_of J.sizes → Entry J q i k
      → get_or m.results (place J q i k) 0
      ≡ cond (ltb (leaves J q i k) T) (closure (algebra J q) (size J q) (job_weights J q) i k) (get_or old (place J q i k) 0)

module _ {J : Jobs} (list : ListAccepted J) where
  -- What leaves cell (i, N - 1) in the fourth pass.
  out_word : {T : ℕ} {r : Planes} {q i k : ℕ} → Invariant J (T + 1) r → Entry J q i k → leaves J q i k ≡ T
      → (cell_of J r i (J.order - 1)).a ≡ closure (algebra J q) (size J q) (job_weights J q) i k
  out_word {T} {r} {q} {i} {k} inv at e =
      let fits : size J q ≤ J.order = (list.fits.sizes_fit q at.job).1 in
      let least = list.fits.ranged.least in
      let held = inv.held (entry_step at fits) i (J.order - 1) (omega (arith, at.row)) (omega arith) (omega arith) in
      good_antisym (held.out refl (omega (arith, at.column))) held.a.above ∙ fed_passes list at.job at.row at.column

  pub reached_none : (x : Array) → Reached J x.results 0 x
  reached_none x = record {
    planes = invariant-none list x.planes;
    length_kept = refl;
    entry = λ {q} {i} {k} fits at. rw (le-ltb (leaves J q i k) 0 (omega arith));
  }

  pub reached_tick : {old : List ℕ} {T : ℕ} {m : Array} → Reached J old T m → Reached J old (T + 1) (ticked J T m)
  unfolding ticked
  reached_tick {old} {T} {m} before = record {
    planes = invariant-tick list before.planes;
    length_kept = rows_length J list.fits.ranged.least T new J.order m.results ∙ before.length_kept;
    entry = λ {q} {i} {k} fits at. go fits at (ℕ_discrete (leaves J q i k) T);
  }
    where
      new : Planes
      new = planes_after J T m.planes

      test : (l : ℕ) → (l ≡ T → ⊥) → ltb l (T + 1) ≡ ltb l T
      test l d = by (dec_lt l T)
        where
          by : Dec (l < T) → ltb l (T + 1) ≡ ltb l T
          by (yes h) = rw (lt-ltb l T h, lt-ltb l (T + 1) (omega arith))
          by (no h) = rw (le-ltb l T (omega arith), le-ltb l (T + 1) (omega arith))

      go : {q i k : ℕ} → length old ≡ words_of J.sizes → Entry J q i k → Dec (leaves J q i k ≡ T)
          → get_or (emitted_rows J T new J.order m.results) (place J q i k) 0
          ≡ cond (ltb (leaves J q i k) (T + 1)) (closure (algebra J q) (size J q) (job_weights J q) i k) (get_or old (place J q i k) 0)
      go {q} {i} {k} fits at (yes e) =
          let fit_order = (list.fits.sizes_fit q at.job).1 in
          let inside : place J q i k < length m.results = omega (arith, before.length_kept, entry_below at) in
          rw (lt-ltb (leaves J q i k) (T + 1) (omega arith))
          (rows_entry J list.fits.ranged.least T new J.order m.results at fit_order e inside (omega (arith, at.row))
          ∙ out_word (invariant-tick list before.planes) at e)
      go {q} {i} {k} fits at (no e) =
          rw (test (leaves J q i k) e)
          (rows_other J list.fits.ranged.least T new J.order m.results at e ∙ before.entry fits at)

  pub reached_ticks : {old : List ℕ} {T : ℕ} (n : ℕ) {m : Array} → Reached J old T m → Reached J old (T + n) (ticks J T n m)
  unfolding ticks
  reached_ticks {T = T} zero r = rw (add-zero T) r
  reached_ticks {T = T} (suc n) r =
      let e : T + suc n ≡ T + 1 + n = omega arith in
      rw e (reached_ticks {T = T + 1} n (reached_tick r))

  -- The array after T ticks from the first.
  pub reached : (T : ℕ) (x : Array) → Reached J x.results T (ticks J 0 T x)
  reached T x = rw (zero-add T) at (reached_ticks T (reached_none x))
