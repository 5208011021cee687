-- What the line says chooses the step, and each step is the definition's.
use Rattle.job_lines.proofs.Advances.{list_line, job_line, row_line, empty_line, close_line, skipped_line, unknown_line}
use Rattle.job_lines.proofs.advance.Goals as goal

pub returns-in-List : goal.returns-in-List
returns-in-List c = list_line c.read_line.ensures c.in-List.is c.list_step.ensures

pub returns-in-Job : goal.returns-in-Job
returns-in-Job c = job_line c.read_line.ensures c.in-Job.is c.job_step.ensures

pub returns-in-Row : goal.returns-in-Row
returns-in-Row c = row_line c.read_line.ensures c.in-Row.is c.read_row-row.ensures c.row_step.ensures

pub returns-in-EmptyRow : goal.returns-in-EmptyRow
returns-in-EmptyRow c = empty_line c.read_line.ensures c.in-EmptyRow.is c.new.ensures c.row_step-in-EmptyRow.ensures

pub returns-in-Close : goal.returns-in-Close
returns-in-Close c = close_line c.read_line.ensures c.in-Close.is c.close_step.ensures

pub returns-in-Skipped : goal.returns-in-Skipped
returns-in-Skipped c = skipped_line c.read_line.ensures c.in-Skipped.is

pub returns-in-Unknown : goal.returns-in-Unknown
returns-in-Unknown c = unknown_line c.read_line.ensures c.in-Unknown.is c.undue.ensures
