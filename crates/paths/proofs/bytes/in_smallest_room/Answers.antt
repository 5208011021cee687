use Rattle.paths.proofs.Rooms.{written_strided}
use Rattle.paths.proofs.bytes.in_smallest_room.Goals as goal

pub returns : goal.returns
returns c = written_strided c.requires c.args.a _ _ _ c.lay_out.ensures c.close.ensures c.encode.ensures
