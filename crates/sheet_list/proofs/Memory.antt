-- The memory that a list is printed with holds what the largest array asks for.
use Prim.Native.Nat.{ℕ, ◌*◌, ◌≤◌}
use native.Mathlib.Omega.{arith}
use mathlib.Core.Path.{◌≡◌, sym, ◌∙◌}
use mathlib.Core.List.{List}
use lib.ListN.{length, take}
use lib.Seq.{length-take-le}
use Rattle.job_list.specs.Jobs.{jobs_of}
use Rattle.job_list.specs.Fits.{ListAccepted}
use Rattle.job_list.proofs.Fits.{area_fits, fits_small, words_most}
use Rattle.systolic.specs.State.{state_length, scratch_length}
use Rattle.sheet_list.specs.inner.Memory.{RunMemory}

module _ {algebras : List ℕ} {order : ℕ} {sizes weights : List ℕ} (list : ListAccepted (jobs_of algebras order sizes weights)) where
  area_most : order * order ≤ 1024
  area_most = area_fits list.fits.ranged.most

  pub weights_most : length weights ≤ 16384
  weights_most = omega (arith, list.weights_fit, words_most (fits_small list.fits))

  pub weights_part : (results : List ℕ) → length results ≡ 16384 → length weights ≡ length (take (length weights) results)
  weights_part results long = sym (length-take-le (length weights) results (omega (arith, weights_most)))

  pub lent : {lines : ℕ} → lines ≡ scratch_length order
      → (state scratch results : List ℕ) → length state ≡ 3076 → length scratch ≡ 64 → length results ≡ 16384
      → RunMemory order sizes (take (state_length order) state) (take lines scratch) (take (length weights) results)
  lent {lines} is state scratch results h g f = record {
    state_fits = length-take-le (state_length order) state (omega (arith, area_most));
    scratch_fits = length-take-le lines scratch (omega (arith, list.fits.ranged.most)) ∙ is;
    results_fit = sym (weights_part results f) ∙ list.weights_fit;
  }
