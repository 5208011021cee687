-- The memory that a run of a list is lent.
use Rattle.std.specs.Prelude.{ℕ, ◌≡◌, List, length}
use Rattle.job_list.specs.Jobs.{words_of}
use Rattle.systolic.specs.State.{state_length, scratch_length}

pub record RunMemory (order : ℕ) (sizes state scratch results : List ℕ) : Type 0 where
  pub state_fits : length state ≡ state_length order
  pub scratch_fits : length scratch ≡ scratch_length order
  pub results_fit : length results ≡ words_of sizes
