use Rattle.elimination.proofs.Through.{pass_done}
use Rattle.elimination.proofs.passes.pass.Goals as goal

pub returns : goal.returns
returns c = search pass_done
