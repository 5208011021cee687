-- What `road_read` leaves, by what the file gives.
use Prim.Native.Nat.{ℕ}
use mathlib.Core.Path.{◌≡◌, sym, ap, ◌∙◌}
use mathlib.Core.List.{List}
use Rattle.road_text.specs.declared.progress.Progress.{Progress}
use Rattle.road_text.specs.Reading.{RoadReading, refused, accepted, road_reading_of}
use Rattle.road_text.specs.claims.Refusals.{ByLines, line_passed, ByTable, by_lines}
use Rattle.road_text.proofs.Refusals.{road_refusals}
use Rattle.road_text.proofs.Memory.{refused_zeros}
use Rattle.raudvisk.specs.RoadCalls.{number_in, points_after}
use Rattle.raudvisk.specs.claims.Kept.{RoadReadHostClaim, RoadKeptHost}

-- No file is refused with 0: each refusal is a test's number.
lines_not_zero : {s : Progress} {ls : List (List ℕ)} → ByLines s ls (refused 0) → ⊥
lines_not_zero (line_passed r rest) = lines_not_zero rest

table_not_zero : {m : ℕ} {file : List ℕ} → ByTable m file (refused 0) → ⊥
table_not_zero (by_lines r rest) = lines_not_zero rest

-- the call for other languages, by what the file gives
read_by : (m : ℕ) (file : List ℕ) (old new : ℕ) (x : RoadReading) → ByTable m file x → 0 ≡ number_in x → new ≡ points_after x old → x ≡ accepted new
read_by m file old new (refused k) given number points = absurd (table_not_zero (rw (← number) at given))
read_by m file old new (accepted n) given number points = ap accepted (sym points)

kept_by : (number old new : ℕ) (x : RoadReading) → number ≡ number_in x → new ≡ points_after x old → (number ≡ 0 → ⊥) → (x ≡ refused number) × (new ≡ old)
kept_by number old new (refused k) is points some = (ap refused (sym is), points)
kept_by number old new (accepted n) is points some = absurd (some is)

pub road_read_host : RoadReadHostClaim
road_read_host m old new file table r =
    read_by m file old new (road_reading_of m file) (road_refusals m file).given r.outcome r.points

pub road_kept_host : RoadKeptHost
road_kept_host m number old new file table r some =
    let (is, points) = kept_by number old new (road_reading_of m file) r.outcome r.points some in
    (is, r.memory ∙ refused_zeros m number file is, points)
