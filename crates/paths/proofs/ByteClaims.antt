-- What is claimed of the call on bytes.
use Prim.Native.Nat.{ℕ, ◌+◌, ◌*◌, ◌/◌, ◌%◌, ◌<◌}
use native.Mathlib.Nat.{div-add-mod'}
use native.Mathlib.Omega.{arith}
use mathlib.Core.Path.{◌≡◌, refl, ap₂}
use mathlib.Core.Logic.{inl, inr}
use mathlib.Core.List.{List, [], ◌∷◌}
use lib.ListN.{length, get_or}
use borrow.Author.Tests.{ne_eqb}
use Rattle.refusals.specs.Conditions.{Exactly}
use Rattle.refusals.proofs.First.{none_applied}
use Rattle.refusals.proofs.Conditions.{applies, passes, row, none, decides_outside, decides_differ}
use Rattle.semiring.specs.Algebra.{top_of}
use Rattle.semiring.specs.Named.{named_of}
use Rattle.semiring.specs.declared.Algebra.{Algebra}
use Rattle.std.specs.Prelude.{Option, Some as Known, None as Unknown}
use Rattle.semiring.proofs.Above.{words_below}
use Rattle.semiring.proofs.Numbers.{Names, named_or_above, known_below, decides_reach}
use Rattle.closure.specs.Elimination.{closure, eliminated}
use Rattle.closure.specs.claims.Demand.{Best}
use Rattle.closure.proofs.Demand.{closure_best}
use Rattle.closure.proofs.Holds.{row_by_row_holds}
use Rattle.byte_tables.specs.Bytes.{decoded, encoded}
use Rattle.byte_tables.proofs.Parts.{decoded_16}
use Rattle.paths.specs.Bytes.{host_table, host_tests, host_after}
use Rattle.paths.specs.claims.Host.{RoundTrip, Demand2Host, host_conditions, HostRefusals, HostKept}

pub round_trip : RoundTrip
unfolding decoded encoded
round_trip [] = refl
round_trip (word ∷ words) =
    let whole : word % 256 + 256 * (word / 256) ≡ word = omega (arith, div-add-mod' word 256) in
    ap₂ (λ (x : ℕ) (l : List ℕ). x ∷ l) whole (round_trip words)

best_after : (d : Option Algebra) (n : ℕ) (w r : List ℕ) → host_tests d n w r ≡ 0
    → (a : Algebra) × (d ≡ Known a)
    × ((i j : ℕ) → i < n → j < n → Best a n (decoded w) i j (get_or (decoded (host_after d n w r)) (i * n + j) 0))
unfolding eliminated
best_after Unknown n w r e = absurd (omega arith)
best_after (Known a) n w r e =
    let (size, (weights, (result, (words, end)))) = none_applied (host_table a n w r) refl e in (
      a,
      refl,
      λ i j hi hj.
          rw (e, round_trip (eliminated a n (decoded w)), (row_by_row_holds n (closure a n (decoded w))).word i j hi hj)
          (closure_best a n (decoded w) (words_below (top_of a) (decoded w) words) hi hj),
    )

pub demand2_host : Demand2Host
demand2_host number = best_after (named_of number)

pub host_refusals : HostRefusals
unfolding host_conditions
host_refusals algebra n w r h = go (named_or_above algebra)
  where
    go : Names algebra → Exactly (host_conditions algebra n w r) (host_tests (named_of algebra) n w r)
    go (inl (a, known, number)) =
        rw known
        (passes (known_below algebra a number)
        (row (decides_outside 1 128 n)
        (row (decides_differ (length w) (2 * (n * n)))
        (row (decides_differ (length r) (2 * (n * n)))
        (row (decides_reach algebra a number (decoded w) (decoded_16 w h))
        none)))))
    go (inr (unknown, above)) = rw unknown (applies above)

kept_by : (d : Option Algebra) (n : ℕ) (w r : List ℕ) → (host_tests d n w r ≡ 0 → ⊥) → host_after d n w r ≡ r
kept_by Unknown n w r refused = refl
kept_by (Known a) n w r refused = rw (ne_eqb (host_tests (Known a) n w r) 0 refused)

pub host_kept : HostKept
host_kept algebra = kept_by (named_of algebra)
