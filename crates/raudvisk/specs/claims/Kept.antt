-- "Memory stays as it was" at a refusal, of every word that the calls for other languages are lent: the words for the ticks and for POINTS are no
-- exceptions. (`HostKept` and `WayKeptHost` say it of the elimination and the way.)
use Rattle.std.specs.Prelude.{ℕ, ◌≡◌, List, replicate}
use Rattle.systolic.specs.Run.{ran}
use Rattle.road_text.specs.Reading.{refused, accepted, road_reading_of}
use Rattle.raudvisk.specs.ArrayCalls.{StartedHost, RanHost}
use Rattle.raudvisk.specs.RoadCalls.{RoadReadHost}

abbrev pub StartKeptHost : Type 0
StartKeptHost =
    (number : ℕ) (algebras : List ℕ) (order : ℕ) (sizes weights state state' : List ℕ)
    → StartedHost number algebras order sizes weights state state' → (number ≡ 0 → ⊥) → state' ≡ state

abbrev pub RunKeptHost : Type 0
RunKeptHost =
    (number made made' : ℕ) (state algebras sizes weights : List ℕ) (allowance : ℕ) (scratch results state' scratch' results' : List ℕ)
    → RanHost number made made' state' scratch' results' (ran state algebras sizes weights allowance scratch results)
    → (number ≡ 0 → ⊥) → (made' ≡ made) × (state' ≡ state) × (scratch' ≡ scratch) × (results' ≡ results)

-- `road_read` answers 0 only where the file is accepted, and then POINTS is what was read.
abbrev pub RoadReadHostClaim : Type 0
RoadReadHostClaim =
    (m old new : ℕ) (file table : List ℕ) → RoadReadHost m file 0 old new table → road_reading_of m file ≡ accepted new

-- Any other number only where it is refused with that number, and then the table is zeros and POINTS as it was.
abbrev pub RoadKeptHost : Type 0
RoadKeptHost =
    (m number old new : ℕ) (file table : List ℕ) → RoadReadHost m file number old new table → (number ≡ 0 → ⊥)
    → (road_reading_of m file ≡ refused number) × (table ≡ replicate m 0) × (new ≡ old)
