-- A run that turned back at no test: what it asks of its memory, and what it leaves.
use Rattle.std.specs.Prelude.{ℕ, ◌+◌, ◌≤◌, ◌≡◌, List, length}
use Rattle.job_list.specs.Jobs.{words_of, jobs_of}
use Rattle.job_list.specs.Fits.{ListFits}
use Rattle.systolic.specs.Tick.{Array, ticks}
use Rattle.systolic.specs.State.{order_of, count_of, tick_of, planes_of, state_words, state_length, scratch_length, total}
use Rattle.state_header.specs.declared.Header.{Header}
use Rattle.state_header.specs.inner.Header.{header_of}

pub record Runnable (h : Header) (made : ℕ) (algebras sizes weights scratch state results : List ℕ) : Type 0 where
  pub header : h ≡ header_of state
  pub state_fits : length state ≡ state_length h.order
  pub scratch_fits : length scratch ≡ scratch_length h.order
  pub list : ListFits (jobs_of algebras h.order sizes weights)
  pub weights_fit : length weights ≡ words_of sizes
  pub results_fit : length results ≡ words_of sizes
  pub ticks_left : h.tick + made ≤ total h.order (length sizes)

-- The array after `made` ticks.
abbrev pub made_array : ℕ → List ℕ → List ℕ → List ℕ → List ℕ → List ℕ → Array
made_array made algebras sizes weights state results =
    ticks (jobs_of algebras (order_of state) sizes weights) (tick_of state) made (record { planes = planes_of state; results = results })

-- State and results after a run of so many ticks.
pub record RunLeft (made : ℕ) (algebras sizes weights state results state' results' : List ℕ) : Type 0 where
  pub state_left :
      state'
      ≡ state_words (order_of state) (count_of state) (tick_of state + made) (made_array made algebras sizes weights state results).planes
  pub results_left : results' ≡ (made_array made algebras sizes weights state results).results
