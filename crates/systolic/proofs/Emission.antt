-- What a tick writes to the results: entry (i, k) of job q on the tick on which it leaves, and nothing else.
use Prim.Native.Nat.{ℕ, zero, suc, ◌+◌, ◌-◌, ◌*◌, ◌≤◌, ◌<◌}
use native.Mathlib.Omega.{arith}
use native.Mathlib.Decide.{ℕ_discrete}
use mathlib.Core.Path.{◌≡◌, refl, sym, ap, ◌∙◌}
use mathlib.Core.List.{List}
use mathlib.Core.Bool.{Bool, true, false, cond, ◌&&◌}
use lib.ListN.{length, get_or, set, length-set}
use lib.Seq.{get_or-set_same, get_or-set_other}
use lib.Dec.{eqb, leb, ltb}
use borrow.Author.Tests.{leb-true, ltb-true, eqb-true, lt-ltb}
use Rattle.job_list.specs.Jobs.{Jobs, count, size, place, Entry}
use Rattle.systolic.specs.Cell.{Planes, cell_of}
use Rattle.systolic.specs.Tick.{step_at, works, job_at, pass_at, point_at, emitted, emitted_rows, leaves}
use Rattle.memory.proofs.Any.{both_true}
use Rattle.systolic.proofs.Digits.{Step, step_job, step_pass, step_point, step_works, step_of}
use Rattle.job_list.proofs.Places.{entry_same}

-- Cell (i, N - 1) makes step k of the fourth pass on the tick on which entry (i, k) leaves.
leaves_on : {J : Jobs} {t s q p k : ℕ} (i : ℕ) → Step J s q p k → p ≡ 3 → i + (J.order - 1) ≤ t → s ≡ t - (i + (J.order - 1))
    → 1 ≤ J.order → leaves J q i k ≡ t
leaves_on {J} i step e h f least = omega (arith, step.at, ap (λ (x : ℕ). J.order * x) e)

pub entry_step : {J : Jobs} {q i k : ℕ} → Entry J q i k → size J q ≤ J.order → Step J (4 * J.order * q + J.order * 3 + k) q 3 k
entry_step at fits = record { job = at.job; pass = omega arith; point = omega (arith, at.column); at = refl }

module _ (J : Jobs) (least : 1 ≤ J.order) (t : ℕ) (new : Planes) where
  -- Row i writes an entry that leaves on this tick, or nothing.
  pub emitted_cases : (P : List ℕ → Type 0) (i : ℕ) (results : List ℕ) → P results
      → ((q k : ℕ) → Entry J q i k → leaves J q i k ≡ t → P (set results (place J q i k) (cell_of J new i (J.order - 1)).a))
      → P (emitted J t new i results)
  unfolding emitted
  emitted_cases P i results kept written =
      go (works J t i (J.order - 1) && eqb (pass_at J s) 3 && ltb i (size J q) && ltb k (size J q)) refl
    where
      s : ℕ
      s = step_at t i (J.order - 1)

      q : ℕ
      q = job_at J s

      k : ℕ
      k = point_at J s

      go : (b : Bool) → (works J t i (J.order - 1) && eqb (pass_at J s) 3 && ltb i (size J q) && ltb k (size J q)) ≡ b
          → P (cond b (set results (place J q i k) (cell_of J new i (J.order - 1)).a) results)
      go false e = kept
      go true e =
          let (e₁, hk) = both_true (works J t i (J.order - 1) && eqb (pass_at J s) 3 && ltb i (size J q)) (ltb k (size J q)) e in
          let (e₂, hi) = both_true (works J t i (J.order - 1) && eqb (pass_at J s) 3) (ltb i (size J q)) e₁ in
          let (e₃, hp) = both_true (works J t i (J.order - 1)) (eqb (pass_at J s) 3) e₂ in
          let (late, below) = both_true (leb (i + (J.order - 1)) t) (ltb s (4 * J.order * count J)) e₃ in
          let step = step_of J least s (ltb-true s (4 * J.order * count J) below) in
          written q k
          (record { job = step.job; row = ltb-true i (size J q) hi; column = ltb-true k (size J q) hk })
          (leaves_on i step (eqb-true (pass_at J s) 3 hp) (leb-true (i + (J.order - 1)) t late) refl least)

  -- Row i on the tick on which its entry (i, k) leaves.
  pub emitted_entry : {q i k : ℕ} (results : List ℕ) → Entry J q i k → size J q ≤ J.order → leaves J q i k ≡ t
      → emitted J t new i results ≡ set results (place J q i k) (cell_of J new i (J.order - 1)).a
  unfolding emitted
  emitted_entry {q} {i} {k} results at fits e =
      let step = entry_step at fits in
      let f : t ≡ 4 * J.order * q + J.order * 3 + k + (i + (J.order - 1)) = omega arith in
      let g : step_at t i (J.order - 1) ≡ 4 * J.order * q + J.order * 3 + k = omega arith in
      let row = lt-ltb i (size J q) at.row in
      let column = lt-ltb k (size J q) at.column in
      rw (step_works step i (J.order - 1) f, g, step_job step, step_pass step, step_point step, row, column)

  -- A row that is not the entry's, or on another tick, leaves the entry as it is.
  pub emitted_other : {q i k : ℕ} (m : ℕ) (results : List ℕ) → Entry J q i k → (m ≡ i → leaves J q i k ≡ t → ⊥)
      → get_or (emitted J t new m results) (place J q i k) 0 ≡ get_or results (place J q i k) 0
  emitted_other {q} {i} {k} m results at other =
      emitted_cases (λ l. get_or l (place J q i k) 0 ≡ get_or results (place J q i k) 0) m results refl
      (λ q' k' at' e. get_or-set_other results (place J q' m k') (place J q i k) (cell_of J new m (J.order - 1)).a 0 (apart at' e))
    where
      apart : {q' k' : ℕ} → Entry J q' m k' → leaves J q' m k' ≡ t → place J q i k ≡ place J q' m k' → ⊥
      apart at' e same = let (u, v, w) = entry_same at at' same in other (sym v) (rw (u, v, w) e)

  pub emitted_length : (m : ℕ) (results : List ℕ) → length (emitted J t new m results) ≡ length results
  emitted_length m results =
      emitted_cases (λ l. length l ≡ length results) m results refl
      (λ q k at e. length-set results (place J q m k) (cell_of J new m (J.order - 1)).a)

  -- The same of the first m rows.
  pub rows_length : (m : ℕ) (results : List ℕ) → length (emitted_rows J t new m results) ≡ length results
  unfolding emitted_rows
  rows_length zero results = refl
  rows_length (suc m) results = emitted_length m (emitted_rows J t new m results) ∙ rows_length m results

  pub rows_other : {q i k : ℕ} (m : ℕ) (results : List ℕ) → Entry J q i k → (leaves J q i k ≡ t → ⊥)
      → get_or (emitted_rows J t new m results) (place J q i k) 0 ≡ get_or results (place J q i k) 0
  unfolding emitted_rows
  rows_other zero results at other = refl
  rows_other (suc m) results at other =
      emitted_other m (emitted_rows J t new m results) at (λ e. other) ∙ rows_other m results at other

  pub rows_entry : {q i k : ℕ} (m : ℕ) (results : List ℕ) → Entry J q i k → size J q ≤ J.order → leaves J q i k ≡ t
      → place J q i k < length results → i < m
      → get_or (emitted_rows J t new m results) (place J q i k) 0 ≡ (cell_of J new i (J.order - 1)).a
  unfolding emitted_rows
  rows_entry zero results at fits e inside h = absurd (omega arith)
  rows_entry {q} {i} {k} (suc m) results at fits e inside h =
      go (ℕ_discrete m i) (rows_entry m results at fits e inside)
    where
      go : Dec (m ≡ i) → (i < m → get_or (emitted_rows J t new m results) (place J q i k) 0 ≡ (cell_of J new i (J.order - 1)).a)
          → get_or (emitted J t new m (emitted_rows J t new m results)) (place J q i k) 0 ≡ (cell_of J new i (J.order - 1)).a
      go (yes d) f =
          let rows = emitted_rows J t new m results in
          ap (λ (x : ℕ). get_or (emitted J t new x rows) (place J q i k) 0) d
          ∙ ap (λ (l : List ℕ). get_or l (place J q i k) 0) (emitted_entry rows at fits e)
          ∙ (get_or-set_same rows (place J q i k) (cell_of J new i (J.order - 1)).a 0 (omega (arith, rows_length m results)))
      go (no d) f = emitted_other m (emitted_rows J t new m results) at (λ z. absurd (d z)) ∙ f (omega arith)
