use Rattle.std.proofs.Common.{arith}
use Rattle.elimination.proofs.Rows.{goes_on, pair_inside, pair_goes_on, ends_two}
use Rattle.elimination.proofs.passes.row_pairs.Goals as goal

pub slice_bounds-relax_pair-end : goal.slice_bounds-relax_pair-end
slice_bounds-relax_pair-end c = pair_inside c.requires.0 c.loop-pair.invariant (omega arith)

pub loop-pair-preserved : goal.loop-pair-preserved
loop-pair-preserved c = pair_goes_on c.requires.0 c.loop-pair.invariant (omega arith) (omega arith) c.relax_pair.ensures

pub loop-i-preserved : goal.loop-i-preserved
loop-i-preserved c = search goes_on

pub returns : goal.returns
returns c = search ends_two
