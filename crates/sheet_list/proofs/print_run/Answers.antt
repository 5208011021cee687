-- `print_run` meets its contract: neither start nor run turns back a list that is accepted, and what the run leaves is printed.
use Rattle.sheet_list.proofs.Run.{start_accepts, run_accepts, sheet_printed}
use Rattle.sheet_list.proofs.print_run.Goals as goal

pub returns-in_default : goal.returns-in_default
returns-in_default c = absurd (start_accepts (c.requires.list_accepted, c.requires.run_memory) c.start.ensures c.in_default.is)

pub returns-in_default-run : goal.returns-in_default-run
returns-in_default-run c =
    absurd (run_accepts (c.requires.list_accepted, c.requires.run_memory) c.start.ensures c.clear.ensures c.run.ensures c.in_default-run.is)

pub returns : goal.returns
returns c =
    let first = rw c.from.ensures at c.put_jobs.ensures in
    let rest = rw c.from-2.ensures at c.put_ticks.ensures in
    sheet_printed (c.requires.list_accepted, c.requires.run_memory) c.start.ensures c.clear.ensures c.run.ensures c.in-Ok-run.is first rest
