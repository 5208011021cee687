-- `main` hands on what it read, with the room that it read it into.
use Rattle.std.proofs.Common.{rules}
use Rattle.bench.proofs.Parts.{in-room}
use Rattle.bench.proofs.main.Goals as goal

pub print_input-requires : goal.print_input-requires
print_input-requires c = in-room _ c.in-Ok.ensures.read (search rules) (search rules)
