-- What leaves on a tick as the code finds it, and what the code that prints it asks.
use Rattle.std.specs.Prelude.{ℕ, ◌+◌, ◌-◌, ◌*◌, ◌≤◌, ◌≡◌, List, [], cond, ◌&&◌, length, get_or, leb, ltb}
use Rattle.semiring.specs.declared.Algebra.{Algebra}
use Rattle.job_list.specs.Fits.{ListFits}
use Rattle.job_list.specs.Jobs.{Jobs, words_of, place, jobs_of}
use Rattle.text.specs.Joined.{joined}
use Rattle.sheet_ticks.specs.declared.tick_lines.Finished.{Finished}
use Rattle.sheet_ticks.specs.declared.tick_lines.Leaving.{Leaving}
use Rattle.sheet_form.specs.Lines.{out_line, row_lines}

-- The line of row i, from the job's part of the results.
unfoldable pub leaving_line : Algebra → Leaving → List ℕ → ℕ → List ℕ
leaving_line a l part i =
    cond (leb i l.sum && ltb (l.sum - i) l.size)
    (out_line a l.job i (l.sum - i) l.size l.tick (get_or part (i * l.size + (l.sum - i)) 0))
    []

pub record LeavingFits (l : Leaving) (part : List ℕ) : Type 0 where
  pub job : l.job ≤ 16
  pub size : l.size ≤ 32
  pub tick : l.tick ≤ 65535
  pub part_fits : length part ≡ l.size * l.size

-- Jobs of an array and their results.
pub record Printable (algebras : List ℕ) (order : ℕ) (sizes results : List ℕ) : Type 0 where
  pub list : ListFits (jobs_of algebras order sizes [])
  pub results_fit : length results ≡ words_of sizes

-- The lines of tick t. They do not read the weights.
unfoldable pub tick_lines : List ℕ → ℕ → List ℕ → List ℕ → ℕ → List ℕ
tick_lines algebras order sizes results t =
    let J : Jobs = jobs_of algebras order sizes [] in
    joined order (row_lines J (λ q i k. get_or results (place J q i k) 0) t)

-- Both of jobs that were run.
abbrev pub Ready : Finished → Type 0
Ready f = Printable f.algebras.now f.order f.sizes.now f.results.now

abbrev pub lines_on : Finished → ℕ → List ℕ
lines_on f = tick_lines f.algebras.now f.order f.sizes.now f.results.now
