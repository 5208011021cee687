-- `print_input` meets its contract: a file that ended is printed whole, and one that fills the room is told to be longer.
use Rattle.std.proofs.Common.{sym, length-take-le}
use Rattle.road.proofs.Parts.{file_within, file_whole}
use Rattle.road.proofs.print_input.Goals as goal

pub slice_bounds-print-end : goal.slice_bounds-print-end
slice_bounds-print-end c = sym (length-take-le _ _ (file_within c.requires c.in-Ended.is))

pub print-requires : goal.print-requires
print-requires c = file_whole c.requires c.in-Ended.is
