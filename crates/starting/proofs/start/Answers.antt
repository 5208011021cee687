-- What the tests passed tell of the list of jobs.
use borrow.Author.Rules.{rules}
use Rattle.starting.proofs.StartNeeds.{sizes_small, parts}
use Rattle.starting.proofs.start.Goals as goal

pub words_before-requires : goal.words_before-requires
words_before-requires c =
    (search rules, sizes_small _ _ _ (search rules) (search rules) c.any_outside.ensures c.if-any_outside.false)

pub any_above-requires : goal.any_above-requires
any_above-requires c =
    parts (search rules) (sizes_small _ _ _ (search rules) (search rules) c.any_outside.ensures c.if-any_outside.false)
    c.if-algebras-sizes.false c.if-weights-words_before.false c.words_before.ensures.exact
