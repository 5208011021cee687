-- The elimination's table of tests, read both ways.
use Prim.Native.Nat.{ℕ, ◌*◌, ◌<◌}
use mathlib.Core.Path.{◌≡◌, refl}
use mathlib.Core.Logic.{inl, inr}
use mathlib.Core.List.{List}
use lib.ListN.{length}
use borrow.Author.Tests.{ne_eqb}
use Rattle.refusals.specs.Conditions.{Conditions, otherwise, followed, Exactly, Words16}
use Rattle.refusals.specs.Tests.{first}
use Rattle.refusals.proofs.Conditions.{applies, passes, row, none, decides_outside, decides_differ}
use Rattle.semiring.specs.Named.{named_of, number_of}
use Rattle.semiring.specs.declared.Algebra.{Algebra}
use Rattle.semiring.proofs.Numbers.{Names, named_or_above, known_below, decides_reach}
use Rattle.closure.specs.Tests.{elimination_table, elimination_tests, result_after}
use Rattle.closure.specs.claims.Refusals.{elimination_conditions, EliminationRefusals, EliminationKept}
use Rattle.std.specs.Prelude.{Option, Some as Known, None as Unknown}

-- The rows of an algebra that is known, with what further conditions answer after them.
pub elimination_rows : (a : Algebra) {algebra : ℕ} → algebra ≡ number_of a → (n : ℕ) (w r : List ℕ) → Words16 w
    → {more : Conditions} {rest : ℕ} → Exactly more rest
    → Exactly (followed (elimination_conditions algebra n w r) more) (first rest (elimination_table a n w r))
unfolding elimination_conditions
elimination_rows a {algebra} number n w r h further =
    passes (known_below algebra a number)
    (row (decides_outside 1 128 n)
    (row (decides_differ (length w) (n * n))
    (row (decides_differ (length r) (n * n))
    (row (decides_reach algebra a number w h)
    further))))

-- An algebra that is unknown, whatever follows.
pub elimination_unknown : {algebra : ℕ} → 2 < algebra → (n : ℕ) (w r : List ℕ) (more : Conditions)
    → Exactly (followed (elimination_conditions algebra n w r) more) 1
unfolding elimination_conditions
elimination_unknown above n w r more = applies above

pub elimination_refusals : EliminationRefusals
unfolding elimination_conditions
elimination_refusals algebra n w r h = go (named_or_above algebra)
  where
    go : Names algebra → Exactly (elimination_conditions algebra n w r) (elimination_tests (named_of algebra) n w r)
    go (inl (a, known, number)) = rw known (elimination_rows a number n w r h none)
    go (inr (unknown, above)) = rw unknown (elimination_unknown above n w r otherwise)

kept_by : (d : Option Algebra) (n : ℕ) (w r : List ℕ) → (elimination_tests d n w r ≡ 0 → ⊥) → result_after d n w r ≡ r
kept_by Unknown n w r refused = refl
kept_by (Known a) n w r refused = rw (ne_eqb (elimination_tests (Known a) n w r) 0 refused)

pub elimination_kept : EliminationKept
elimination_kept algebra = kept_by (named_of algebra)
