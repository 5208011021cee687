-- `visit` gives point v the next level where its link keeps its word (Searching).
use Rattle.levels.proofs.Searching.{joins}
use Rattle.levels.proofs.backwards.Search.visit.Goals as goal

pub returns : goal.returns
returns c = search joins
