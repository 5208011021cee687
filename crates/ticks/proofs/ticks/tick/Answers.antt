use Rattle.std.proofs.Common.{refl}
use Rattle.ticks.proofs.Run.{tick_fills, tick_emits, tick_done}
use Rattle.ticks.proofs.ticks.tick.Goals as goal

pub fill-requires : goal.fill-requires
fill-requires c = tick_fills c.requires.ready c.requires.staged c.requires.staged.front refl refl

pub emit-requires : goal.emit-requires
emit-requires c = tick_emits c.requires.ready c.requires.staged c.requires.staged.back c.sweep.auto.planes

pub returns : goal.returns
returns c = tick_done c.requires.ready c.requires.staged c.sweep.auto.planes c.fill.ensures c.sweep.ensures c.emit.ensures
