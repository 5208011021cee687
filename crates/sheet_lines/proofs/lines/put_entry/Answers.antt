-- `put_entry` meets its contract: its texts and numbers, printed one after another, are the line.
use Rattle.text.proofs.Printed.{◌then◌}
use Rattle.sheet_lines.proofs.lines.put_entry.Goals as goal

pub returns : goal.returns
returns c =
    c.text.ensures
    then c.spaced.ensures
    then c.spaced-2.ensures
    then c.spaced-3.ensures
    then c.spaced-4.ensures
    then c.spaced-5.ensures
    then c.text-2.ensures
    then c.put_word.ensures
    then c.text-3.ensures
