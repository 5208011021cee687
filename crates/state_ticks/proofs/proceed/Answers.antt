use Rattle.state_ticks.proofs.Lending.{run_left}
use Rattle.state_ticks.proofs.proceed.Goals as goal

pub returns : goal.returns
returns c =
    run_left c.requires c.advance.new.planes c.advance.auto.planes
    (rw (c.from-n.ensures, c.from-from.ensures, c.from.ensures) at c.advance.ensures) c.next_tick.ensures c.store_header.ensures
