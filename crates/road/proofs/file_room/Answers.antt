-- `file_room` meets its contract by the length of a list of one byte many times, which is not counted out.
use Rattle.std.proofs.Common.{ℕ}
use lib.ListN.{length-replicate}
use Rattle.road.proofs.file_room.Goals as goal

pub returns : goal.returns
returns c = length-replicate {A = ℕ} 1048577 0
