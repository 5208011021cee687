use Rattle.emission.proofs.Emitted.{emit_done}
use Rattle.emission.proofs.emit.Goals as goal

pub returns : goal.returns
returns c = λ algebras sizes weights t step found. emit_done algebras sizes weights t c.requires step found c.to_last.ensures c.of-band.ensures _ c.send.ensures
