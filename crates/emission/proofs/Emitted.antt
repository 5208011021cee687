-- What leaves the array on a tick: a band of the last column sends the entries of one job, and the other rows send nothing.
use Prim.Native.Nat.{ℕ, zero, suc, ◌+◌, ◌-◌, ◌*◌, ◌/◌, ◌%◌, ◌<◌, ◌≤◌}
use native.Mathlib.Omega.{arith}
use mathlib.Core.Path.{◌≡◌, refl, sym, ap, ◌∙◌}
use mathlib.Core.Logic.{◌≢◌}
use mathlib.Core.List.{List, ◌++◌}
use mathlib.Core.Bool.{Bool, true, false, cond, ◌&&◌, and-false}
use lib.ListN.{length, get_or, set, take, drop, take-append-drop}
use lib.Seq.{length-take-le, set-append_left, take-set-le, drop-set-add, take_at, drop_at}
use lib.Arith.{digits_lt}
use lib.Dec.{eqb, ltb}
use borrow.Author.Tests.{eq-eqb, ne_eqb, le-ltb, ltb-true}
use Rattle.memory.specs.Lists.{replaced}
use Rattle.memory.proofs.Any.{both_true}
use Rattle.memory.proofs.Part.{part_length}
use Rattle.job_list.specs.Jobs.{Jobs, jobs_of, size, place}
use Rattle.systolic.specs.Cell.{Planes, cell_of}
use Rattle.systolic.specs.Tick.{emitted, emitted_rows}
use Rattle.systolic.proofs.Digits.{step_job, step_pass, step_point, step_works}
use Rattle.turns.specs.declared.band.Band.{Band}
use Rattle.turns.specs.declared.turn.Turn.{Turn}
use Rattle.turns.specs.Turn.{At, live, job_in, pass_in, Phase, step_of}
use Rattle.turns.specs.Spans.{Banded}
use Rattle.turns.specs.Layout.{planes_in}
use Rattle.turns.proofs.Turns.{on_step, on_tick, on_idle, phase_of, pass_most, pass_near, live_same}
use Rattle.stage.specs.declared.jobs.Job.{Job}
use Rattle.stage.specs.Found.{Found}
use Rattle.emission.specs.Sent.{sent, sent_rows, Emitting}
use Rattle.emission.proofs.PlaneWords.{a_word}
use Rattle.emission.proofs.Sent.{sent_length, sent_none, sent_one}

-- A store past the front of a list.
set_after : (at r v : ℕ) (xs ys : List ℕ) → length xs ≡ at → set (xs ++ ys) (at + r) v ≡ xs ++ set ys r v
set_after at r v xs ys e =
    let l : List ℕ = xs ++ ys in
    sym (take-append-drop at (set l (at + r) v))
    ∙ rw (take-set-le at l (at + r) v (omega arith), drop-set-add at l r v, take_at xs ys at e, drop_at xs ys at e)

-- A word as an entry of a job, into the whole of the results.
abbrev stored : Job → ℕ → ℕ → ℕ → List ℕ → List ℕ
stored job i k word l =
    cond (ltb i job.size && ltb k job.size) (set l (job.start + (i * job.size + k)) word) l

-- A word sent to the job's part is one stored in the results.
sent_back : (job : Job) (i k word : ℕ) (l p : List ℕ) → job.end ≡ job.start + job.size * job.size → job.start ≤ length l
    → length p ≡ job.size * job.size
    → replaced job.start (job.end - job.start) (sent job.size i k word p) l
    ≡ stored job i k word (replaced job.start (job.end - job.start) p l)
sent_back job i k word l p end within long = go (ltb i job.size && ltb k job.size) refl
  where
    go : (b : Bool) → (ltb i job.size && ltb k job.size) ≡ b
        → replaced job.start (job.end - job.start) (cond b (set p (i * job.size + k) word) p) l
        ≡ cond b (set (replaced job.start (job.end - job.start) p l) (job.start + (i * job.size + k)) word)
        (replaced job.start (job.end - job.start) p l)
    go true e =
        let front : List ℕ = take job.start l in
        let rest : List ℕ = drop (job.end - job.start) (drop job.start l) in
        let r : ℕ = i * job.size + k in
        let (f, g) = both_true (ltb i job.size) (ltb k job.size) e in
        let inside : r < length p = omega (arith, digits_lt (ltb-true i job.size f) (ltb-true k job.size g)) in
        ap (λ (x : List ℕ). front ++ x) (sym (set-append_left p rest r word inside))
        ∙ sym (set_after job.start r word front (p ++ rest) (length-take-le job.start l within))
    go false e = refl

rows_none : (J : Jobs) (t : ℕ) (new : Planes) (results : List ℕ) → emitted_rows J t new 0 results ≡ results
unfolding emitted_rows
rows_none J t new results = refl

rows_one : (J : Jobs) (t : ℕ) (new : Planes) (i : ℕ) (results : List ℕ)
    → emitted_rows J t new (suc i) results ≡ emitted J t new i (emitted_rows J t new i results)
unfolding emitted_rows
rows_one J t new i results = refl

-- Tick t, on which cell (0, 0) has turn `head` and cell (0, N - 1) turn z.
module _ (algebras : List ℕ) {n : ℕ} (sizes weights : List ℕ) (t : ℕ) {head z : Turn} {job : Job} {band : Band} {planes results : List ℕ}
    (asked : Emitting n head job planes results) (step : step_of n head ≡ t + 4 * n) (found : Found algebras sizes (head.pass - 2) job)
    (at : At n (n * head.pass + head.point + 1 - n) z) (banded : Banded n 3 (step_of n z) band) where
  abbrev J : Jobs
  J = jobs_of algebras n sizes weights

  abbrev new : Planes
  new = planes_in n planes

  -- row i, whose last cell is at point k of a pass
  module _ {i pass k : ℕ} (row : i < n) (on : Phase n (t + 4 * n) i (n - 1) pass k) where
    on_edge : n * pass + k + i ≡ step_of n z
    on_edge = omega (arith, on.at, at.at, asked.least)

    emitted_row : (l : List ℕ)
        → emitted J t new i l
        ≡ cond (live (length sizes) pass && eqb (pass_in pass) 3 && ltb i (size J (job_in pass)) && ltb k (size J (job_in pass)))
        (set l (place J (job_in pass) i k) (cell_of J new i (n - 1)).a) l
    unfolding emitted
    emitted_row l = go (live (length sizes) pass) refl
      where
        go : (b : Bool) → live (length sizes) pass ≡ b
            → emitted J t new i l
            ≡ cond (b && eqb (pass_in pass) 3 && ltb i (size J (job_in pass)) && ltb k (size J (job_in pass)))
            (set l (place J (job_in pass) i k) (cell_of J new i (n - 1)).a) l
        go true e =
            let here = on_step J t on e in
            rw (step_works here i (n - 1) (on_tick J t on e), step_job here, step_pass here, step_point here)
        go false e = rw (on_idle J t on e)

    quiet : pass_in pass ≢ 3 → (l : List ℕ) → emitted J t new i l ≡ l
    quiet e l = emitted_row l ∙ rw (ne_eqb (pass_in pass) 3 e, and-false (live (length sizes) pass))

    -- the cells of the last column in a job's last pass are on the job found
    loud : pass_in pass ≡ 3 → (l : List ℕ) → emitted J t new i l ≡ stored job i k (get_or planes (n * n + (i * n + (n - 1))) 0) l
    loud e l = emitted_row l ∙ rw (eq-eqb (pass_in pass) 3 e) (go (live (length sizes) pass) refl)
      where
        on' : Phase n (step_of n head) i (n - 1) pass k
        on' = rw step on

        same : pass / 4 ≡ (head.pass - 2) / 4
        same =
            let ahead = pass_most {s = head} asked.below on' in
            let close = pass_near {s = head} asked.below on' row (omega (arith, asked.least)) in
            omega (arith, asked.early)

        alive : live (length sizes) pass ≡ live (length sizes) (head.pass - 2)
        alive = live_same (length sizes) pass (head.pass - 2) same

        q : job_in (head.pass - 2) ≡ job_in pass
        q = ap (λ (x : ℕ). x - 1) (sym same)

        word : (cell_of J new i (n - 1)).a ≡ get_or planes (n * n + (i * n + (n - 1))) 0
        word = a_word n planes asked.planes_fit i (n - 1) row (omega (arith, asked.least))

        go : (b : Bool) → live (length sizes) pass ≡ b
            → cond (b && true && ltb i (size J (job_in pass)) && ltb k (size J (job_in pass)))
            (set l (place J (job_in pass) i k) (cell_of J new i (n - 1)).a) l
            ≡ stored job i k (get_or planes (n * n + (i * n + (n - 1))) 0) l
        go true f =
            let f' = sym alive ∙ f in
            rw (found.size f', found.start f', q, word)
        go false f =
            let none : job.size ≤ i = omega (arith, found.idle (sym alive ∙ f)) in
            rw (le-ltb i job.size none)

  phase : (i : ℕ) → i < n → Phase n (t + 4 * n) i (n - 1) ((t + 4 * n - (i + (n - 1))) / n) ((t + 4 * n - (i + (n - 1))) % n)
  phase i row = phase_of n (t + 4 * n) i (n - 1) asked.least (omega arith)

  -- the rows before the band, those of the band, and those after it
  before : (m : ℕ) → m ≤ band.from → emitted_rows J t new m results ≡ results
  before zero h = rows_none J t new results
  before (suc m) h =
      let row : m < n = omega (arith, banded.order, banded.within) in
      let on = phase m row in
      rows_one J t new m results
      ∙ quiet row on (λ e. banded.before m _ _ (omega arith) on.below (on_edge row on) e) (emitted_rows J t new m results)
      ∙ before m (omega arith)

  -- the results with so many rows of the band sent to the job's part
  abbrev part : List ℕ
  part = take (job.end - job.start) (drop job.start results)

  abbrev rows : ℕ → List ℕ
  rows m = sent_rows n job.size band.last planes band.from m part

  rows_length : (m : ℕ) → length (rows m) ≡ job.size * job.size
  rows_length zero =
      ap (λ (l : List ℕ). length l) (sent_none n job.size band.last planes band.from part)
      ∙ part_length job.start (job.end - job.start) results (omega (arith, asked.end, asked.within))
      ∙ omega (arith, asked.end)
  rows_length (suc m) =
      ap (λ (l : List ℕ). length l) (sent_one n job.size band.last planes band.from m part)
      ∙ sent_length job.size (band.from + m) (band.last - (band.from + m)) (get_or planes (n * n + ((band.from + m) * n + (n - 1))) 0) (rows m)
      ∙ rows_length m

  abbrev back : List ℕ → List ℕ
  back p = replaced job.start (job.end - job.start) p results

  inside : (m : ℕ) → band.from + m ≤ band.to → emitted_rows J t new (band.from + m) results ≡ back (rows m)
  inside zero h =
      let e : band.from + 0 ≡ band.from = omega arith in
      rw e (before band.from (omega arith)) ∙ sym (ap back (sent_none n job.size band.last planes band.from part) ∙ whole)
    where
      whole : back part ≡ results
      whole =
          ap (λ (l : List ℕ). take job.start results ++ l) (take-append-drop (job.end - job.start) (drop job.start results))
          ∙ take-append-drop job.start results
  inside (suc m) h =
      let i : ℕ = band.from + m in
      let row : i < n = omega (arith, banded.within) in
      let on = phase i row in
      let (p, k) = banded.inside i _ _ (omega arith) (omega arith) on.below (on_edge row on) in
      let point : (t + 4 * n - (i + (n - 1))) % n ≡ band.last - i = omega arith in
      let word : ℕ = get_or planes (n * n + (i * n + (n - 1))) 0 in
      let e : band.from + suc m ≡ suc i = omega arith in
      ap (λ (x : ℕ). emitted_rows J t new x results) e
      ∙ rows_one J t new i results
      ∙ loud row on p (emitted_rows J t new i results)
      ∙ ap (λ (x : ℕ). stored job i x word (emitted_rows J t new i results)) point
      ∙ ap (stored job i (band.last - i) word) (inside m (omega arith))
      ∙ sym (sent_back job i (band.last - i) word results (rows m) asked.end (omega (arith, asked.end, asked.within)) (rows_length m))
      ∙ ap back (sym (sent_one n job.size band.last planes band.from m part))

  after : (m : ℕ) → band.to + m ≤ n → emitted_rows J t new (band.to + m) results ≡ emitted_rows J t new band.to results
  after zero h = let e : band.to + 0 ≡ band.to = omega arith in rw e
  after (suc m) h =
      let i : ℕ = band.to + m in
      let row : i < n = omega arith in
      let on = phase i row in
      let e : band.to + suc m ≡ suc i = omega arith in
      ap (λ (x : ℕ). emitted_rows J t new x results) e
      ∙ rows_one J t new i results
      ∙ quiet row on (λ e. banded.after i _ _ (omega arith) row on.below (on_edge row on) e) (emitted_rows J t new i results)
      ∙ after m (omega arith)

  pub emit_done : (part' : List ℕ)
      → part' ≡ sent_rows n job.size band.last planes band.from (band.to - band.from) (take (job.end - job.start) (drop job.start results))
      → replaced job.start (job.end - job.start) part' results ≡ emitted_rows J t new n results
  emit_done part' wrote =
      let e : band.from + (band.to - band.from) ≡ band.to = omega (arith, banded.order) in
      let f : band.to + (n - band.to) ≡ n = omega (arith, banded.within) in
      ap back wrote
      ∙ sym (inside (band.to - band.from) (omega (arith, banded.order)))
      ∙ ap (λ (m : ℕ). emitted_rows J t new m results) e
      ∙ sym (after (n - band.to) (omega (arith, banded.within)))
      ∙ ap (λ (m : ℕ). emitted_rows J t new m results) f
