-- `put_refused` meets its contract: its texts and numbers, printed one after another, are the line.
use Rattle.std.proofs.Common.{ℕ, ap}
use Rattle.text.proofs.Printed.{printed_as, ◌then◌}
use Rattle.sheet_form.specs.Lines.{refused_line}
use Rattle.sheet_lines.proofs.lines.put_refused.Goals as goal

pub returns : goal.returns
returns c =
    printed_as
    (c.text.ensures then c.spaced.ensures then c.spaced-2.ensures then c.text-2.ensures)
    (ap (λ (n : ℕ). refused_line n c.args.why.line) c.from.ensures)
