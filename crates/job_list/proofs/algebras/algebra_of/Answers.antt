use Rattle.std.proofs.Common.{rules}
use Rattle.job_list.proofs.Above.{named_so}
use Rattle.job_list.proofs.algebras.algebra_of.Goals as goal

pub returns : goal.returns
returns c = search (rules, named_so)
