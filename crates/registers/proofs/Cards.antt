-- The cards of request K10, by computation.
use mathlib.Core.Path.{refl}
use Rattle.memory.specs.Lists.{list_of, any}
use Rattle.job_list.specs.Jobs.{offset, algebra_of}
use Rattle.job_list.specs.Fits.{above_before}
use Rattle.systolic.specs.Tick.{cell_after, planes_after, emitted, emitted_rows, ticked, ticks}
use Rattle.systolic.specs.Run.{ran_on, refused_run, ran}
use Rattle.registers.specs.Writing.{run_shown, run_by, controlled, written}
use Rattle.registers.specs.claims.Transactions.{transacted}
use Rattle.registers.specs.claims.Cards.{WindowCards}

pub window_cards : WindowCards
unfolding list_of any offset algebra_of above_before cell_after planes_after emitted emitted_rows ticked ticks ran_on refused_run ran run_shown run_by controlled written transacted
window_cards = record {
  polled = refl;
  not_yet = refl;
  left = refl;
  high = refl;
  other_bits = refl;
  all_bits = refl;
  refused = refl;
  accepted_again = refl;
  tick_kept = refl;
  cleared = refl;
  both = refl;
  finished_before = refl;
  enabled = refl;
  turned_back = refl;
  bytes = refl;
  value = refl;
  held = refl;
  lines = (refl, refl, refl, refl);
}
