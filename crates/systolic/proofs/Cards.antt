-- The cards of the state's words, by computation.
use mathlib.Core.Path.{refl}
use Rattle.memory.specs.Lists.{list_of, any}
use Rattle.job_list.specs.Jobs.{offset, algebra_of}
use Rattle.job_list.specs.Fits.{above_before}
use Rattle.systolic.specs.Tick.{cell_after, planes_after, emitted, emitted_rows, ticked, ticks}
use Rattle.systolic.specs.Run.{ran_on, refused_run, ran}
use Rattle.systolic.specs.claims.Demand.{runs}
use Rattle.systolic.specs.claims.Cards.{StateCards}

pub state_cards : StateCards
unfolding list_of any offset algebra_of above_before cell_after planes_after emitted emitted_rows ticked ticks ran_on refused_run ran runs
state_cards = record {
  started = refl;
  two_ticks = refl;
  reach_ends = refl;
  distance_begins = refl;
  padded = refl;
  nose_to_tail = refl;
  all_ticks = refl;
  words = refl;
  lent_summed = refl;
  lent_sent = refl;
  lent_kept = refl;
  lent_words = refl;
}
