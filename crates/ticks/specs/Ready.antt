-- What the ticks ask of the memory lent to them.
use Rattle.std.specs.Prelude.{ℕ, ◌*◌, ◌≤◌, ◌≡◌, List, length}
use Rattle.job_list.specs.Jobs.{Jobs, count, words_of}
use Rattle.job_list.specs.Fits.{ListFits}
use Rattle.systolic.specs.Tick.{Array}
use Rattle.systolic.specs.State.{total, scratch_length}
use Rattle.turns.specs.Layout.{planes_in}

-- The array of the planes in one memory and the results.
abbrev pub array_of : ℕ → List ℕ → List ℕ → Array
array_of n planes results = record { planes = planes_in n planes; results = results }

-- An array on a list of jobs that fits it, before a tick below `last`.
pub record Ready (J : Jobs) (last : ℕ) (edges planes results : List ℕ) : Type 0 where
  pub list : ListFits J
  pub weights_fit : length J.weights ≡ words_of J.sizes
  pub edges_fit : length edges ≡ scratch_length J.order
  pub planes_fit : length planes ≡ 3 * (J.order * J.order)
  pub results_fit : length results ≡ words_of J.sizes
  pub ticks : last ≤ total J.order (count J)
