-- `put_tick` meets its contract: before the first job's entries leave and after the last job's, nothing is printed; else the job
-- and the sum of row and column are divided out of the tick.
use Rattle.sheet_ticks.proofs.Leaving.{tick_early, tick_late, tick_printed, end_within}
use Rattle.sheet_ticks.proofs.tick_lines.put_tick.Goals as goal

pub returns-then-t-span : goal.returns-then-t-span
returns-then-t-span c = search tick_early

pub returns-then-jobs-job : goal.returns-then-jobs-job
returns-then-jobs-job c = search tick_late

pub slice_bounds-put_rows-end : goal.slice_bounds-put_rows-end
slice_bounds-put_rows-end c = rw c.from-size.ensures (end_within c.requires c.if-jobs-job.false c.words_before-start.ensures.exact)

pub returns : goal.returns
returns c = let p = rw c.from-size.ensures at c.put_rows.ensures in search tick_printed
