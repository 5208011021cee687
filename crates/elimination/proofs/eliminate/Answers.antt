use Rattle.elimination.proofs.Eliminates.{eliminates}
use Rattle.elimination.proofs.eliminate.Goals as goal

pub returns : goal.returns
returns c = eliminates _ _ _ _ _ _ c.requires.table_fit c.lay_out.ensures c.close.ensures
