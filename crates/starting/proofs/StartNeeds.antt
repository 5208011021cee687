-- Start, from what its tests found: over plain lists and numbers, what each place of its code asks.
use Prim.Native.Nat.{ℕ, ◌≤◌}
use mathlib.Core.Path.{◌≡◌, sym, ◌∙◌}
use mathlib.Core.List.{List}
use mathlib.Core.Bool.{Bool, false}
use lib.ListN.{length}
use Rattle.job_list.specs.Jobs.{words_of}
use Rattle.job_list.specs.Fits.{any_outside, Small}
use Rattle.job_list.specs.inner.Parts.{Parts}
use Rattle.job_list.proofs.Fits.{tested_small}

pub sizes_small : (order : ℕ) (sizes : List ℕ) (out : Bool) → order ≤ 32 → length sizes ≤ 16 → out ≡ any_outside order sizes → out ≡ false → Small sizes
sizes_small order sizes out h few e f = tested_small sizes few h (sym e ∙ f)

pub parts : {algebras sizes weights : List ℕ} {words : ℕ} → 1 ≤ length sizes → Small sizes → length algebras ≡ length sizes → length weights ≡ words
    → words ≡ words_of sizes → Parts algebras sizes weights
parts some small one_each long is = record { some = some; small = small; algebras_fit = one_each; weights_fit = long ∙ is }
