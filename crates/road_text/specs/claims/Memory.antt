-- K7: what a refused call leaves: "a refusal, as a second exception in demand 1, zeroes it at any length".
use Rattle.std.specs.Prelude.{ℕ, ◌≡◌, List, replicate, Err}
use Rattle.refusals.specs.declared.Reason.{Reason}
use Rattle.road_text.specs.Reading.{RoadRead}

-- A refused call leaves zeros, as many words as it was lent.
abbrev pub RoadZeroed : Type 0
RoadZeroed = (m : ℕ) (reason : Reason) (file table : List ℕ) → RoadRead m file (Err reason) table → table ≡ replicate m 0
