-- `print_list` meets its contract: its memory is as long as the largest array asks, and the parts that it lends as this one does.
use Rattle.sheet_list.proofs.Memory.{weights_most, weights_part, lent}
use Rattle.sheet_list.proofs.print_list.Goals as goal

pub slice_bounds-results-end : goal.slice_bounds-results-end
slice_bounds-results-end c = weights_most c.requires

pub slice_bounds-print_run-end-3 : goal.slice_bounds-print_run-end-3
slice_bounds-print_run-end-3 c = search weights_part

pub print_run-requires-clause-run_memory : goal.print_run-requires-clause-run_memory
print_run-requires-clause-run_memory c = search lent
