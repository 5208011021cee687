use Rattle.elimination.proofs.Rows.{two_rows}
use Rattle.elimination.proofs.Through.{pass_two_done}
use Rattle.elimination.proofs.passes.pass_two.Goals as goal

pub slice_bounds-copy-end-2 : goal.slice_bounds-copy-end-2
slice_bounds-copy-end-2 c = search two_rows

pub returns-then-n-lt4 : goal.returns-then-n-lt4
returns-then-n-lt4 c = search pass_two_done

pub returns-else-n-lt4 : goal.returns-else-n-lt4
returns-else-n-lt4 c = search pass_two_done
