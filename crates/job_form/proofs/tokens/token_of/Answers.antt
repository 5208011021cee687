-- Each return is the definition's branch.
use Rattle.std.proofs.Common.{rules}
use Rattle.job_form.proofs.Words.{token_none, token_number, token_dash, token_name}
use Rattle.job_form.proofs.tokens.token_of.Goals as goal

pub returns-then-is_empty : goal.returns-then-is_empty
returns-then-is_empty c = search (rules, token_none)

pub returns-then-all_digits : goal.returns-then-all_digits
returns-then-all_digits c = search (rules, token_number)

pub returns-then-equal : goal.returns-then-equal
returns-then-equal c = search (rules, token_dash)

pub returns : goal.returns
returns c = search (rules, token_name)
