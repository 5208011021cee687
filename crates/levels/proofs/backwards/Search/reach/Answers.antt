use Rattle.levels.proofs.Turns.{levels_reach, levels_end}
use Rattle.levels.proofs.backwards.Search.reach.Goals as goal

pub returns-then-marks-from-ne0 : goal.returns-then-marks-from-ne0
returns-then-marks-from-ne0 c = search levels_reach

pub returns : goal.returns
returns c = search levels_end
