-- The tests are those of `sent`, and an entry of the job lies in its part.
use lib.Arith.{digits_lt}
use native.Mathlib.Omega.{arith}
use borrow.Author.Rules.{rules}
use Rattle.emission.proofs.Sent.{sent_row, sent_point, sent_word}
use Rattle.emission.proofs.store.Statement.{statement}
use Rattle.emission.proofs.store.Tie as tie

pub store_spec : {M : Type 1} → statement M
store_spec =
    tie.close
    (tie.spec
    (λ c. search (sent_row, sent_point))
    (λ c. search (sent_row, sent_point))
    -- the entry's place
    (λ c. let row : tie.Else-size-i = search in omega (arith, digits_lt row.if-size-i.false c.if-size-k.false))
    (λ c. let row : tie.Else-size-i = search in omega (arith, digits_lt row.if-size-i.false c.if-size-k.false))
    (λ c. let row : tie.Else-size-i = search in omega (arith, digits_lt row.if-size-i.false c.if-size-k.false))
    (λ c. let row : tie.Else-size-i = search in let point : tie.Else-size-k = search in omega (arith, digits_lt row.if-size-i.false point.if-size-k.false))
    (λ c. search rules)
    (λ c. search sent_word))
