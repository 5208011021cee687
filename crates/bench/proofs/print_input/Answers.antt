-- `print_input` meets its contract: a text that ended is printed whole, and one that fills the room is refused however it goes on.
use Rattle.std.proofs.Common.{sym, length-take-le}
use Rattle.bench.proofs.Parts.{part_within, part_whole, part_longer}
use Rattle.bench.proofs.print_input.Goals as goal

pub slice_bounds-print-end : goal.slice_bounds-print-end
slice_bounds-print-end c = sym (length-take-le _ _ (part_within c.requires c.in-Ended.is))

pub print-requires : goal.print-requires
print-requires c = part_whole c.requires c.in-Ended.is

pub print-requires-in-Full : goal.print-requires-in-Full
print-requires-in-Full c = part_longer c.requires c.in-Full.is
