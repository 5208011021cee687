-- A turn counts one word, and stores it where the weights have room.
use Rattle.std.proofs.Common.{ap, ◌∙◌}
use Rattle.std.proofs.Math.ListN.{set}
use Rattle.job_form.proofs.Scans.{scanned_none, scanned_one, stored, left_out, scanned_all}
use Rattle.job_form.proofs.rows.read_row.Goals as goal
use Rattle.job_form.proofs.rows.read_row.Goals.{then-place-weights, else-place-weights}

pub loop-next-init : goal.loop-next-init
loop-next-init c = scanned_none c.next_part-next.ensures c.new-tally.ensures

pub loop-next-preserved : goal.loop-next-preserved
loop-next-preserved c =
    scanned_one (rw c.in-Some.is at c.loop-next.invariant) c.word_at-word.ensures
    (elim c.if-place-weights.branch [
      | then-place-weights w ↦ stored w.if-place-weights.true (w.weights-is ∙ ap (set c.loop-next.weights c.loop-next.place) w.word_of.ensures) w.place-is
      | else-place-weights w ↦ left_out w.if-place-weights.false w.weights-is w.place-is
    ])
    c.and-tally.ensures

pub returns : goal.returns
returns c = scanned_all (rw c.in_default.is at c.loop-next.invariant)
