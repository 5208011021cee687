-- Half of an even number is the one column; an odd number has none.
use native.Mathlib.Omega.{arith}
use borrow.Author.Rules.{rules}
use Rattle.cells.proofs.Stores.{halved, odd}
use Rattle.cells.proofs.taking.a_takes.Statement.{statement}
use Rattle.cells.proofs.taking.a_takes.Tie as tie

pub a_takes_spec : {M : Type 1} → statement M
a_takes_spec =
    tie.close
    (tie.spec
    (λ c κs. search rules)
    (λ c. search rules)
    (λ c. let done : tie.After-put = search in halved (omega arith) done.put.ensures)
    (λ c. search (odd, c.if-twice-eq0.false)))
