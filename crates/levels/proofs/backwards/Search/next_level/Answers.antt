use Rattle.levels.proofs.Turns.{level_begins, level_met, level_goes_on, level_ends}
use Rattle.levels.proofs.backwards.Search.next_level.Goals as goal

pub loop-u-init : goal.loop-u-init
loop-u-init c = search level_begins

pub join-requires : goal.join-requires
join-requires c = search level_met

pub loop-u-preserved : goal.loop-u-preserved
loop-u-preserved c = search level_goes_on

pub returns : goal.returns
returns c = search level_ends
