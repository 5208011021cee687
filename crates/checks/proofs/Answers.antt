-- What a caller knows of what the checks found.
use Prim.Native.Nat.{ℕ}
use mathlib.Core.Path.{◌≡◌, sym, ap, ◌∙◌}
use mathlib.Core.List.{List}
use Rattle.std.specs.Prelude.{Option, Some, Result, Ok, Err}
use Rattle.refusals.specs.Answer.{answer_number}
use Rattle.refusals.specs.Reason.{reason_number}
use Rattle.refusals.specs.declared.Reason.{Reason}
use Rattle.semiring.specs.Named.{named_of}
use Rattle.semiring.specs.declared.Algebra.{Algebra}
use Rattle.closure.specs.Tests.{elimination_tests}
use Rattle.closure.proofs.Accepted.{Accepted, accepted as input}
use Rattle.checks.specs.inner.Checks.{Checks}

module _ {checked : Result Algebra Reason} {algebra n : ℕ} {w t : List ℕ} (found : Checks checked algebra n w t) where
  pub refused_number : {reason : Reason} → checked ≡ Err reason → reason_number reason ≡ elimination_tests (named_of algebra) n w t
  refused_number e = sym (ap answer_number e) ∙ found.number

  pub fit_tests : (a : Algebra) → checked ≡ Ok a → elimination_tests (Some a) n w t ≡ 0
  fit_tests a e = ap (λ (d : Option Algebra). elimination_tests d n w t) (sym (found.fit a e)) ∙ sym found.number ∙ ap answer_number e

  pub fit_input : {a : Algebra} → checked ≡ Ok a → Accepted a n w t
  fit_input {a} e = input (fit_tests a e)
