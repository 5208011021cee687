-- A refused call keeps what it was lent, by what is claimed of the definitions behind it.
use mathlib.Core.Path.{◌≡◌, ◌∙◌}
use borrow.Author.Tests.{ne_eqb}
use Rattle.systolic.specs.Run.{ran}
use Rattle.systolic.specs.claims.Refusals.{RunKept}
use Rattle.systolic.proofs.Refusals.{start_kept, run_kept}
use Rattle.raudvisk.specs.claims.Kept.{StartKeptHost, RunKeptHost}

pub start_kept_host : StartKeptHost
start_kept_host number algebras order sizes weights state state' told refused =
    told.memory ∙ start_kept algebras order sizes weights state (λ e. refused (told.outcome ∙ e))

pub run_kept_host : RunKeptHost
run_kept_host number made made' state algebras sizes weights allowance scratch results state' scratch' results' told refused =
    let due = ran state algebras sizes weights allowance scratch results in
    let turned : due.number ≡ 0 → ⊥ = λ e. refused (told.outcome ∙ e) in
    let kept : RunKept state scratch results due = run_kept state algebras sizes weights allowance scratch results turned in (
      told.ticks ∙ rw (ne_eqb due.number 0 turned),
      told.state_after ∙ kept.state_kept,
      told.scratch_after ∙ kept.scratch_kept,
      told.results_after ∙ kept.results_kept,
    )
