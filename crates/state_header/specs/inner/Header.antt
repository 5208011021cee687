-- The header of a state.
use Rattle.std.specs.Prelude.{ℕ, ◌≡◌, List, cond, set, Result, Ok, Err}
use Rattle.refusals.specs.declared.Reason.{Reason}
use Rattle.refusals.specs.declared.Reason.TheVariants.{StateUnfit}
use Rattle.systolic.specs.State.{order_of, count_of, tick_of}
use Rattle.systolic.specs.Run.{bad_state}
use Rattle.state_header.specs.declared.Header.{Header}

-- A state whose first four words are a header's, the second one 0.
abbrev pub headed : Header → List ℕ → List ℕ
headed h state = set (set (set (set state 0 h.order) 1 0) 2 h.count) 3 h.tick

abbrev pub header_of : List ℕ → Header
header_of state = record { order = order_of state; count = count_of state; tick = tick_of state }

-- What reading a state's header answers, by test 10.
pub record Told (read : Result Header Reason) (state : List ℕ) : Type 0 where
  pub is : read ≡ cond (bad_state state) (Err StateUnfit) (Ok (header_of state))
