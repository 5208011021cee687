-- `main` stays within its room: an input that ended has left some.
use Rattle.std.proofs.Common.{◌≤◌, length, sym, ap, Some, arith, length-take-le}
use Rattle.input.proofs.Outcomes.{ended_below}
use Rattle.texts.proofs.main.Goals as goal

pub slice_bounds-text-end : goal.slice_bounds-text-end
slice_bounds-text-end c = omega (arith, ended_below c.in_ok-n.ensures.read (ap Some c.in-Ended.is))

pub slice_bounds-all-end : goal.slice_bounds-all-end
slice_bounds-all-end c =
    let inside : c.in-Ended.n ≤ length c.read_all.new.text = omega (arith, ended_below c.in_ok-n.ensures.read (ap Some c.in-Ended.is)) in
    sym (length-take-le _ _ inside)
