-- The cards hold by computation.
use mathlib.Core.Path.{refl}
use Rattle.memory.specs.Lists.{list_of, any}
use Rattle.closure.specs.Elimination.{passes, closure, eliminated}
use Rattle.job_list.specs.Jobs.{offset, algebra_of}
use Rattle.job_list.specs.Fits.{above_before}
use Rattle.systolic.specs.Tick.{cell_after, planes_after, emitted, emitted_rows, ticked, ticks}
use Rattle.systolic.specs.Run.{ran_on, refused_run, ran}
use Rattle.systolic.specs.claims.Demand.{runs}
use Rattle.text.specs.Pieces.{cut, lines, placed, parts}
use Rattle.text.specs.Numeral.{decimal, digits, numeral}
use Rattle.job_form.specs.Tokens.{name, token_of}
use Rattle.job_form.specs.Forms.{words, opening, head_of, form_of}
use Rattle.job_reading.specs.Steps.{step}
use Rattle.job_reading.specs.Reading.{follow, reading_of}
use Rattle.text.specs.Joined.{joined}
use Rattle.sheet_form.specs.Lines.{sheet}
use Rattle.sheet_form.specs.claims.Cards.{links3, reach3, long3, steep3, last3, BenchCards}

pub cards : BenchCards
unfolding list_of any passes closure eliminated offset algebra_of above_before cell_after planes_after emitted emitted_rows ticked ticks ran_on refused_run ran runs cut
    lines placed parts digits decimal name token_of words opening head_of form_of step follow reading_of joined numeral sheet links3 reach3
    long3 steep3 last3
cards = record {
  B1 = refl;
  B2 = refl;
  B3 = refl;
  B4 = refl;
  B5 = refl;
  B6 = refl;
  B7 = refl;
  none_back = refl;
  steepest_65534 = refl;
  steepest_65533 = refl;
  last_pass = refl;
  B8Before = refl;
  B8After = refl;
  B8Ticks = refl;
  B9 = refl;
  none_steepest = refl;
  none_reach = refl;
  mixed = refl;
  refusal = refl;
}
