-- What the tests of Start ask of an order and a list of jobs.
use Prim.Native.Nat.{ℕ}
use mathlib.Core.Path.{◌≡◌, refl}
use mathlib.Core.List.{List}
use mathlib.Core.Bool.{not}
use lib.ListN.{length}
use lib.Dec.{eqb}
use borrow.Author.Tests.{eq-eqb}
use Rattle.memory.proofs.Any.{both_false}
use Rattle.refusals.specs.Tests.{outside}
use Rattle.refusals.proofs.First.{none_applied, equal}
use Rattle.job_list.specs.Jobs.{jobs_of, words_of}
use Rattle.job_list.specs.Fits.{ListAccepted}
use Rattle.job_list.proofs.Fits.{tested_fits, tested_numbers, tested_words, order_passes, count_passes, numbers_pass, sizes_pass, words_pass}
use Rattle.systolic.specs.State.{state_length}
use Rattle.systolic.specs.Start.{start_table, start_tests}

pub started_by : (algebras : List ℕ) (order : ℕ) (sizes weights state : List ℕ) → start_tests algebras order sizes weights state ≡ 0
    → ListAccepted (jobs_of algebras order sizes weights)
started_by algebras order sizes weights state e =
    let (all_Known, (order-inside, (one_each, (sizes_inside, (fits, (own, (none_above, end))))))) =
    none_applied (start_table algebras order sizes weights state) refl e in
    let (count-inside, as_many) = both_false (outside 1 16 (length sizes)) (not (eqb (length algebras) (length sizes))) one_each in
    record {
      fits = tested_fits algebras order sizes weights order-inside count-inside (equal (length algebras) (length sizes) as_many) sizes_inside;
      numbers = tested_numbers algebras all_Known;
      weights_fit = equal (length weights) (words_of sizes) fits;
      words = tested_words algebras order sizes weights none_above;
    }

-- The other way: such a list is accepted, with a state of the right length.
pub starts : {algebras : List ℕ} {order : ℕ} {sizes weights : List ℕ} → ListAccepted (jobs_of algebras order sizes weights) → (state : List ℕ)
    → length state ≡ state_length order → start_tests algebras order sizes weights state ≡ 0
starts {algebras} {order} {sizes} {weights} list state long =
    let one_each = eq-eqb (length algebras) (length sizes) list.fits.algebras_fit in
    let words = eq-eqb (length weights) (words_of sizes) list.weights_fit in
    rw (
      numbers_pass list,
      order_passes list.fits,
      count_passes list.fits,
      one_each,
      sizes_pass list.fits,
      words,
      eq-eqb (length state) (state_length order) long,
      words_pass list,
    )
