-- Each of the three buffers is cleared.
use Rattle.job_text.proofs.Zeros.{zeros_cleared, all_cleared}
use Rattle.job_text.proofs.buffers.clear_all.Goals as goal

pub returns : goal.returns
returns c = all_cleared (zeros_cleared c.clear.ensures) (zeros_cleared c.clear-2.ensures) (zeros_cleared c.clear-3.ensures)
