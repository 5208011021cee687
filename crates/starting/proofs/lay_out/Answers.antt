-- A header over a memory of zeros is a state with planes 0.
use Rattle.starting.proofs.States.{laid_out}
use Rattle.starting.proofs.lay_out.Goals as goal

pub returns : goal.returns
returns c = search laid_out
