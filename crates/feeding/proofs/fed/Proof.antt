-- The tests are those of the padded table, in its order; an entry of the job itself is within its words.
use mathlib.Core.Path.{refl}
use lib.Arith.{digits_lt}
use native.Mathlib.Omega.{arith}
use borrow.Author.Rules.{rules}
use Rattle.feeding.proofs.FedWords.{padded_own, padded_row, padded_column, padded_entry}
use Rattle.feeding.proofs.fed.Statement.{statement}
use Rattle.feeding.proofs.fed.Tie as tie

pub fed_spec : {M : Type 1} → statement M
fed_spec =
    tie.close
    (tie.spec
    (λ c κs. search rules)
    (λ c. search padded_own)
    (λ c κs. search rules)
    (λ c. let apart : tie.Else-i-j = search in search (padded_row, apart.if-i-j.false))
    (λ c κs. search rules)
    (λ c. let apart : tie.Else-i-j = search in search (padded_column, apart.if-i-j.false))
    -- the entry's place
    (λ c. let row : tie.Else-size-i = search in omega (arith, digits_lt row.if-size-i.false c.if-size-j.false))
    (λ c. let row : tie.Else-size-i = search in omega (arith, digits_lt row.if-size-i.false c.if-size-j.false))
    (λ c. let row : tie.Else-size-i = search in omega (arith, digits_lt row.if-size-i.false c.if-size-j.false))
    (λ c.
    let row : tie.Else-size-i = search in
    let column : tie.Else-size-j = search in
    omega (arith, digits_lt row.if-size-i.false column.if-size-j.false))
    (λ c.
    let apart : tie.Else-i-j = search in
    let row : tie.Else-size-i = search in
    let column : tie.Else-size-j = search in
    padded_entry apart.if-i-j.false row.if-size-i.false column.if-size-j.false refl))
