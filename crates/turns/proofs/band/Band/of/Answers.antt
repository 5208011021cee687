-- The two passes of the edge, asked one after the other.
use Rattle.turns.proofs.Spans.{band_here, band_behind, band_none}
use Rattle.turns.proofs.band.Band.of.Goals as goal

pub returns-then-pass-p : goal.returns-then-pass-p
returns-then-pass-p c = search band_here

pub returns-then-pass-p-2 : goal.returns-then-pass-p-2
returns-then-pass-p-2 c = search band_behind

pub returns-else-pass-p-2 : goal.returns-else-pass-p-2
returns-else-pass-p-2 c = search band_none
