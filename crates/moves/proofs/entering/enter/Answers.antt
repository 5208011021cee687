-- Row 0 and column 0 have one span: its rows of the left edge are stored, its columns of the top copied.
use Rattle.moves.proofs.Entered.{entered_of}
use Rattle.moves.proofs.entering.enter.Goals as goal

pub returns : goal.returns
returns c = entered_of (record { turn = c.args.front.on_tick; long = c.requires.long }) c.requires c.moved-from.ensures c.enter_left.ensures c.copy.ensures
