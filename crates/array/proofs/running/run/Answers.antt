-- With the header that was read, each answer is found from the table of tests and what the branches told.
use borrow.Author.Rules.{rules}
use Rattle.std.proofs.lemmas.Result.{err_from_is_err_and}
use Rattle.array.proofs.Answers.{unfit}
use Rattle.array.proofs.RunNeeds.{ranged, within, refused, sizes_small, parts, runnable, accepted, cleared}
use Rattle.array.proofs.running.run.Goals as goal

pub returns-in_err-header : goal.returns-in_err-header
returns-in_err-header c =
    let p = err_from_is_err_and c.from_residual.result c.from_residual.ensures.1 in
    rw (p.1, p.2) (unfit _ _ _ _ _ _ _ _ c.in_err-header.ensures)

pub returns-then-sizes-count : goal.returns-then-sizes-count
returns-then-sizes-count c = refused c.in_ok-header.ensures _ _ _ _ _ (search rules)

pub returns-then-algebras-count : goal.returns-then-algebras-count
returns-then-algebras-count c = refused c.in_ok-header.ensures _ _ _ _ _ (search rules)

pub returns-then-any_unknown : goal.returns-then-any_unknown
returns-then-any_unknown c = refused c.in_ok-header.ensures _ _ _ _ _ (search rules)

pub returns-then-any_outside : goal.returns-then-any_outside
returns-then-any_outside c = refused c.in_ok-header.ensures _ _ _ _ _ (search rules)

pub words_before-words-requires : goal.words_before-words-requires
words_before-words-requires c = (search rules, sizes_small c.in_ok-header.ensures (search rules) (search rules))

pub returns-then-weights-words : goal.returns-then-weights-words
returns-then-weights-words c = refused c.in_ok-header.ensures _ _ _ _ _ (search rules)

pub returns-then-scratch-scratch_words : goal.returns-then-scratch-scratch_words
returns-then-scratch-scratch_words c = refused c.in_ok-header.ensures _ _ _ _ _ (search rules)

pub returns-then-results-words : goal.returns-then-results-words
returns-then-results-words c = refused c.in_ok-header.ensures _ _ _ _ _ (search rules)

pub any_above-requires : goal.any_above-requires
any_above-requires c = parts c.in_ok-header.ensures (search rules) (search rules) (search rules) (search rules)

pub returns-then-any_above : goal.returns-then-any_above
returns-then-any_above c = refused c.in_ok-header.ensures _ _ _ _ _ (search rules)

pub ticks_left-requires : goal.ticks_left-requires
ticks_left-requires c = record { ranged = ranged c.in_ok-header.ensures; tick_bound = within c.in_ok-header.ensures }

pub proceed-requires : goal.proceed-requires
proceed-requires c =
    runnable c.in_ok-header.ensures (search rules) (search rules) (search rules) (search rules) c.args.allowance (search rules) (search rules)
    (search rules)

pub returns : goal.returns
returns c =
    accepted c.in_ok-header.ensures _ _ _ _ c.args.scratch.now _ (search rules) (search rules) c.proceed.ensures (search (cleared, rules))
