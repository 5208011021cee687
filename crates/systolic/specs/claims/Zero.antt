-- Document 01, "Start and run": "Zero ticks change nothing but the scratch." Of any state that Run accepts: planes of any words, any tick.
use Rattle.std.specs.Prelude.{ℕ, ◌≡◌, List, length, replicate}
use Rattle.systolic.specs.Run.{run_tests, Ran, ran}

-- What an accepted run leaves that makes no tick.
pub record Untouched (state scratch results : List ℕ) (after : Ran) : Type 0 where
  pub number : after.number ≡ 0
  pub state_kept : after.state ≡ state
  pub results_kept : after.results ≡ results
  pub scratch_zero : after.scratch ≡ replicate (length scratch) 0

abbrev pub ZeroTicks : Type 0
ZeroTicks =
    (state algebras sizes weights : List ℕ) (allowance : ℕ) (scratch results : List ℕ)
    → run_tests state algebras sizes weights scratch results ≡ 0
    → (let after = ran state algebras sizes weights allowance scratch results in
    after.made ≡ 0 → Untouched state scratch results after)
