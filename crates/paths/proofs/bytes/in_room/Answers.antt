use Rattle.paths.proofs.Rooms.{to_lay_out, written}
use Rattle.paths.proofs.bytes.in_room.Goals as goal

pub lay_out-requires : goal.lay_out-requires
lay_out-requires g c = (to_lay_out c.requires.0 c.requires.1, c.requires.0.weights_fit)

pub returns : goal.returns
returns g c = written c.requires.0 c.requires.1 c.args.a _ _ c.lay_out.ensures c.close.ensures c.encode.ensures
