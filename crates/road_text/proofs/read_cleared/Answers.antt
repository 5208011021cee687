-- `road_text::read_cleared` meets its contract: an accepted file leaves its table, and a refused one is cleared.
use mathlib.Core.Path.{sym, ◌∙◌}
use Rattle.road_table.proofs.Words.{cleared}
use Rattle.road_text.proofs.Readings.{owed_refusal, owed_points}
use Rattle.road_text.proofs.read_cleared.Goals as goal

pub returns-then-is_err : goal.returns-then-is_err
returns-then-is_err c =
    owed_refusal c.read_lines-answer.result (sym c.is_err.ensures.value ∙ c.if-is_err.true) c.read_lines-answer.ensures (cleared _ c.clear.ensures)

pub returns-else-is_err : goal.returns-else-is_err
returns-else-is_err c = owed_points c.read_lines-answer.result (sym c.is_err.ensures.value ∙ c.if-is_err.false) c.read_lines-answer.ensures
