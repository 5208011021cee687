-- What a call leaves, by what the file gives.
use Prim.Native.Nat.{ℕ}
use mathlib.Core.Path.{◌≡◌, sym, ap, ◌∙◌}
use mathlib.Core.List.{List}
use lib.ListN.{replicate, length-replicate, get_or-replicate}
use Rattle.memory.specs.Lists.{list_of}
use Rattle.memory.proofs.ListOf.{is_list_of}
use Rattle.refusals.specs.Reason.{reason_number}
use Rattle.text.specs.Pieces.{lines}
use Rattle.road_text.specs.Reading.{RoadReading, refused, road_reading_of, arcs_in, word_in, table_after}
use Rattle.road_text.specs.claims.Memory.{RoadZeroed}

zeros : (m : ℕ) → list_of m (λ q. 0) ≡ replicate m 0
zeros m = sym (is_list_of m (λ q. 0) (replicate m 0) (length-replicate m 0) (λ p h. get_or-replicate m p 0 0 h))

pub refused_zeros : (m k : ℕ) (file : List ℕ) → road_reading_of m file ≡ refused k → table_after m file ≡ replicate m 0
refused_zeros m k file e = ap (λ (x : RoadReading). list_of m (word_in x (arcs_in (lines file)))) e ∙ zeros m

pub road_zeroed : RoadZeroed
road_zeroed m reason file table r = r.memory ∙ refused_zeros m (reason_number reason) file (sym r.outcome)
