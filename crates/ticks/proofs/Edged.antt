-- What comes in at the edges, in the words of the definition.
use Prim.Native.Nat.{ℕ, ◌+◌, ◌-◌, ◌*◌, ◌/◌, ◌<◌}
use native.Mathlib.Omega.{arith}
use mathlib.Core.Path.{◌≡◌, refl, sym, ap, ◌∙◌}
use mathlib.Core.List.{List}
use mathlib.Core.Bool.{Bool, true, false, cond}
use lib.ListN.{length}
use lib.Dec.{eqb}
use borrow.Author.Tests.{eqb-true}
use Rattle.job_list.specs.Jobs.{Jobs, jobs_of}
use Rattle.systolic.specs.Feeder.{fed}
use Rattle.systolic.specs.Cell.{Planes, Cell}
use Rattle.turns.specs.declared.turn.Turn.{Turn}
use Rattle.turns.specs.Turn.{live, job_in, pass_in, Phase, step_of}
use Rattle.turns.proofs.Turns.{pass_most, pass_next, live_same}
use Rattle.stage.specs.declared.jobs.Job.{Job}
use Rattle.stage.specs.Found.{Found}
use Rattle.feeding.specs.Filled.{Filled, entry_of}
use Rattle.ticks.specs.Swept.{Held, Edged}

module _ (algebras : List ℕ) {n : ℕ} {head : Turn} {job : Job} (sizes weights : List ℕ) (t : ℕ) (below : head.point < n)
    (step : step_of n head ≡ t + 4 * n) (found : Found algebras sizes head.pass job) where
  abbrev J : Jobs
  J = jobs_of algebras n sizes weights

  -- the cells of the edges that are in a job's first pass are on the job of cell (0, 0)
  module _ {i j pass k : ℕ} (near : i + j < n) (on : Phase n (step_of n head) i j pass k) (alive : live (length sizes) pass ≡ true) where
    entry_fed : pass_in pass ≡ 0 → (x y : ℕ) → entry_of job weights x y ≡ fed J (job_in pass) x y
    entry_fed first x y =
        let close = pass_next {s = head} below on near in
        let ahead = pass_most {s = head} below on in
        let same : pass / 4 ≡ head.pass / 4 = omega arith in
        let on_job : live (length sizes) head.pass ≡ true = sym (live_same (length sizes) pass head.pass same) ∙ alive in
        let q : job_in head.pass ≡ job_in pass = omega arith in
        let width : job.end - job.start ≡ job.size * job.size = omega (arith, found.end) in
        rw (width, found.algebra.is on_job, found.size on_job, found.start on_job, q)

    comes_in : {word entry own own' : ℕ} (x y : ℕ) → entry ≡ entry_of job weights x y → own ≡ own'
        → word ≡ cond (eqb (pass_in pass) 0) entry own
        → word ≡ cond (eqb (pass_in pass) 0) (fed J (job_in pass) x y) own'
    comes_in {word} {entry} {own} {own'} x y e f is = is ∙ go (eqb (pass_in pass) 0) refl
      where
        go : (b : Bool) → eqb (pass_in pass) 0 ≡ b → cond b entry own ≡ cond b (fed J (job_in pass) x y) own'
        go true g = e ∙ entry_fed (eqb-true (pass_in pass) 0 g) x y
        go false g = f

  module _ {r : Planes} {planes edges : List ℕ} (held : Held J r planes) (filled : Filled n head job weights planes edges) where
    pub edged : Edged J t r edges
    edged = record {
      top = λ j pass k h on alive.
          let on' : Phase n (step_of n head) 0 j pass k = rw step on in
          comes_in {i = 0} {j = j} (omega arith) on' alive k j refl
          (ap (λ (x : Cell). x.b) (held.cell (n - 1) j (omega arith) h)) (filled.top j pass k h on');
      left = λ i pass k h on alive.
          let on' : Phase n (step_of n head) i 0 pass k = rw step on in
          comes_in {i = i} {j = 0} (omega arith) on' alive i k refl
          (ap (λ (x : Cell). x.a) (held.cell i (n - 1) h (omega arith))) (filled.left i pass k h on');
    }
