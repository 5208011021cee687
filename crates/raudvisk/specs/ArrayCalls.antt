-- What the calls for other languages answer and leave: a number, and the ticks made where a run was accepted.
use Rattle.std.specs.Prelude.{ℕ, ◌≡◌, List, cond, eqb}
use Rattle.systolic.specs.Start.{start_tests, state_after_start}
use Rattle.systolic.specs.Run.{Ran}

pub record StartedHost (number : ℕ) (algebras : List ℕ) (order : ℕ) (sizes weights state state' : List ℕ) : Type 0 where
  pub outcome : number ≡ start_tests algebras order sizes weights state
  pub memory : state' ≡ state_after_start algebras order sizes weights state

-- `made` is the word for the ticks before the call and `made'` after it: a refusal leaves it as it was.
pub record RanHost (number made made' : ℕ) (state scratch results : List ℕ) (due : Ran) : Type 0 where
  pub outcome : number ≡ due.number
  pub ticks : made' ≡ cond (eqb due.number 0) due.made made
  pub state_after : state ≡ due.state
  pub scratch_after : scratch ≡ due.scratch
  pub results_after : results ≡ due.results
