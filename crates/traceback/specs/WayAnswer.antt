-- Request K2: "the result carries its length", how many points the way has.
use Rattle.std.specs.Prelude.{ℕ, Result, Ok, Err}
use Rattle.refusals.specs.declared.Reason.{Reason}

abbrev pub way_length : Result ℕ Reason → ℕ
way_length (Ok count) = count
way_length (Err reason) = 0
