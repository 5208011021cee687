-- How the result grows with the steps: none changes nothing, one writes one word, all of them leave the table.
use Prim.Native.Nat.{ℕ, ◌+◌, ◌*◌, ◌/◌, ◌%◌, ◌<◌}
use native.Mathlib.Omega.{arith}
use mathlib.Core.Path.{◌≡◌, refl, sym, ap₂, ◌∙◌}
use mathlib.Core.List.{List, ◌++◌, append-nil}
use lib.ListN.{length, set, drop_of_length-le}
use lib.Seq.{take_all}
use Rattle.memory.specs.Lists.{list_of}
use Rattle.memory.proofs.ListOf.{length_list_of, get_d_list_of}
use Rattle.memory.proofs.Walk.{walked_one, walked_same, walked_front}
use Rattle.semiring.specs.declared.Algebra.{Algebra}
use Rattle.closure.specs.Table.{entries, row_by_row, with_own}
use Rattle.table_layout.specs.LaidOut.{laid_out}
use Rattle.table_layout.specs.claims.OneWalk.{EveryM, NoStep, OneStep, AllSteps, StepsCard}

pub every_m : EveryM
every_m n m weights table most weights_fit table_fit steps =
    record { most = most; weights_fit = weights_fit; table_fit = table_fit; steps = steps }

pub no_step : NoStep
no_step a n weights old = refl

module _ (a : Algebra) (n : ℕ) (weights old : List ℕ) (fits : length old ≡ n * n) where
  size : length (row_by_row n (with_own a (entries n weights))) ≡ n * n
  size = length_list_of (n * n) (λ p. with_own a (entries n weights) (p / n) (p % n))

  step : (m : ℕ) → m < n * n
      → laid_out a n (m + 1) weights old ≡ set (laid_out a n m weights old) m (with_own a (entries n weights) (m / n) (m % n))
  step m h =
      let table : List ℕ = row_by_row n (with_own a (entries n weights)) in
      walked_same (walked_front table old (m + 1) (omega (arith, size)) (omega arith))
      (walked_one (with_own a (entries n weights) (m / n) (m % n)) (walked_front table old m (omega (arith, size)) (omega arith)) (omega arith)
      (sym (get_d_list_of (n * n) (λ p. with_own a (entries n weights) (p / n) (p % n)) m h)))

  all : laid_out a n (n * n) weights old ≡ row_by_row n (with_own a (entries n weights))
  all =
      let table : List ℕ = row_by_row n (with_own a (entries n weights)) in
      ap₂ (λ (x y : List ℕ). x ++ y) (take_all (n * n) table (omega (arith, size))) (drop_of_length-le old {i = n * n} (omega arith)) ∙ append-nil table

pub one-step : OneStep
one-step a n m weights old fits h = step a n weights old fits m h

pub all_steps : AllSteps
all_steps a n weights old fits = all a n weights old fits

pub steps_card : StepsCard
unfolding list_of
steps_card = (refl, refl, refl, refl, refl, refl, refl)
