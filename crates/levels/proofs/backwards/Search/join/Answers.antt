use Rattle.levels.proofs.Turns.{other_level, link_begins, link_seen, link_goes_on, link_ends}
use Rattle.levels.proofs.backwards.Search.join.Goals as goal

pub returns-then-marks-u : goal.returns-then-marks-u
returns-then-marks-u c = search other_level

pub loop-v-init : goal.loop-v-init
loop-v-init c = search link_begins

pub visit-requires : goal.visit-requires
visit-requires c = search link_seen

pub loop-v-preserved : goal.loop-v-preserved
loop-v-preserved c = search link_goes_on

pub returns : goal.returns
returns c = search link_ends
