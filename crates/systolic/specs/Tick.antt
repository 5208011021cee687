-- Document 01, "Cell rule": a tick of the whole array, and what leaves it for the results.
use Rattle.std.specs.Prelude.{ℕ, zero, suc, ◌+◌, ◌-◌, ◌*◌, ◌/◌, ◌%◌, List, Bool, cond, ◌&&◌, set, eqb, leb, ltb}
use Rattle.closure.specs.Table.{row_by_row}
use Rattle.job_list.specs.Jobs.{Jobs, count, size, place}
use Rattle.systolic.specs.Cell.{Planes, Cell, cell_of, stepped}

-- "On tick t (from 0) let s = t - i - j. If s < 0 or s >= 4NQ, the cell keeps its registers."
abbrev pub step_at : ℕ → ℕ → ℕ → ℕ
step_at t i j = t - (i + j)

abbrev pub works : Jobs → ℕ → ℕ → ℕ → Bool
works J t i j = leb (i + j) t && ltb (step_at t i j) (4 * J.order * count J)

-- "q = s div 4N, p = (s div N) mod 4, k = s mod N"
abbrev pub job_at : Jobs → ℕ → ℕ
job_at J s = s / (4 * J.order)

abbrev pub pass_at : Jobs → ℕ → ℕ
pass_at J s = s / J.order % 4

abbrev pub point_at : Jobs → ℕ → ℕ
point_at J s = s % J.order

-- Cell (i, j) after tick t.
unfoldable pub cell_after : Jobs → ℕ → Planes → ℕ → ℕ → Cell
cell_after J t r i j =
    let s = step_at t i j in
    cond (works J t i j) (stepped J r (job_at J s) (pass_at J s) (point_at J s) i j) (cell_of J r i j)

-- "All cells read the registers of before the tick."
unfoldable pub planes_after : Jobs → ℕ → Planes → Planes
planes_after J t r = record {
  c = row_by_row J.order (λ i j. (cell_after J t r i j).c);
  a = row_by_row J.order (λ i j. (cell_after J t r i j).a);
  b = row_by_row J.order (λ i j. (cell_after J t r i j).b);
}

-- "When p = 3, cell (i, N-1) sends its new a out: entry (i, k) of job q .. It is written to the results if i and k are
-- below the job's size; nothing else there is written." `new` are the planes after tick t.
unfoldable pub emitted : Jobs → ℕ → Planes → ℕ → List ℕ → List ℕ
emitted J t new i results =
    let s = step_at t i (J.order - 1) in
    let q = job_at J s in
    let k = point_at J s in
    cond
    (works J t i (J.order - 1) && eqb (pass_at J s) 3 && ltb i (size J q) && ltb k (size J q))
    (set results (place J q i k) (cell_of J new i (J.order - 1)).a)
    results

-- "entry (i, k) of job q, on tick 4Nq + 4N - 1 + i + k"
abbrev pub leaves : Jobs → ℕ → ℕ → ℕ → ℕ
leaves J q i k = 4 * J.order * q + 4 * J.order - 1 + i + k

-- The same for the rows 0 to m - 1.
unfoldable pub emitted_rows : Jobs → ℕ → Planes → ℕ → List ℕ → List ℕ
emitted_rows J t new zero results = results
emitted_rows J t new (suc i) results = emitted J t new i (emitted_rows J t new i results)

-- What a tick changes.
pub record Array : Type 0 where
  pub planes : Planes
  pub results : List ℕ

unfoldable pub ticked : Jobs → ℕ → Array → Array
ticked J t m =
    let new = planes_after J t m.planes in
    record { planes = new; results = emitted_rows J t new J.order m.results }

-- n ticks, of which the first is tick t
unfoldable pub ticks : Jobs → ℕ → ℕ → Array → Array
ticks J t zero m = m
ticks J t (suc n) m = ticks J (t + 1) n (ticked J t m)
