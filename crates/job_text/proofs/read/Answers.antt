-- A test before any line leaves the buffers cleared, and else the lines are read into cleared ones.
use Rattle.std.proofs.Common.{length, refl}
use Rattle.job_text.proofs.Readings.{cleared, text_fits, refused_first, read_lines}
use Rattle.job_text.proofs.read.Goals as goal

pub read_within-requires-clause-text_len_bound : goal.read_within-requires-clause-text_len_bound
read_within-requires-clause-text_len_bound c =
    text_fits (length c.args.algebras.now) (length c.args.sizes.now) (length c.args.weights.now) c.args.text.now c.length_tests-tested.result
    c.length_tests-tested.ensures c.in-Ok.is

pub read_within-requires-clause-all_cleared : goal.read_within-requires-clause-all_cleared
read_within-requires-clause-all_cleared c = cleared c.clear_all.ensures

pub returns-in-Ok : goal.returns-in-Ok
returns-in-Ok c =
    read_lines (length c.args.algebras.now) (length c.args.sizes.now) (length c.args.weights.now) c.args.text.now c.length_tests-tested.result
    c.length_tests-tested.ensures c.in-Ok.is c.clear_all.ensures c.read_within.ensures

pub returns-in-Err : goal.returns-in-Err
returns-in-Err c =
    refused_first (length c.args.algebras.now) (length c.args.sizes.now) (length c.args.weights.now) c.args.text.now
    c.length_tests-tested.result c.length_tests-tested.ensures c.in-Err.is refl c.clear_all.ensures
