use Rattle.std.proofs.Common.{◌≡◌, ◌∙◌, take, rules, arith}
use Rattle.std.specs.List.{sum_by}
use Rattle.std.proofs.lemmas.Iterator.{YieldsList-from_slice, YieldsList-from_map}
use Rattle.std.proofs.lemmas.Iterator.Consumers.{sum_by_from_yields_List, fits_by_from_yields_list}
use Rattle.job_list.proofs.Sums.{square, squares, squares_most}
use Rattle.job_list.proofs.words_before.Goals as goal

pub sum-requires-clause-fits : goal.sum-requires-clause-fits
sum-requires-clause-fits c =
    let first = take c.args.q c.args.sizes.now in
    fits_by_from_yields_list square first c.map.result _
    (YieldsList-from_map _ square (YieldsList-from_slice first (cc)) c.map.ensures.closure (λ x r q k. search rules))
    (omega (arith, squares_most c.args.sizes.now c.args.q c.requires))

pub returns : goal.returns
returns c =
    let first = take c.args.q c.args.sizes.now in
    let total : c.sum.result ≡ sum_by square first =
    sum_by_from_yields_List square first c.map.result _ c.sum.ensures.ran
    (YieldsList-from_map _ square (YieldsList-from_slice first (cc)) c.map.ensures.closure (λ x r q k. search rules)) in
    record {
      exact = total ∙ squares c.args.sizes.now c.args.q c.requires.0;
      most = omega (arith, total, squares_most c.args.sizes.now c.args.q c.requires);
    }
