-- A buffer of zeros is one that begins with no word.
use Prim.Native.Nat.{ℕ}
use mathlib.Core.Path.{◌≡◌, ◌∙◌}
use mathlib.Core.List.{List}
use lib.ListN.{replicate}
use Rattle.job_form.proofs.Padded.{zeros}
use Rattle.job_steps.specs.inner.States.{Cleared, AllCleared}

pub zeros_cleared : {n : ℕ} {l : List ℕ} → l ≡ replicate n 0 → Cleared n l
zeros_cleared {n} e = record { zeros = e ∙ zeros n }

pub all_cleared : {l m n : ℕ} {algebras sizes weights : List ℕ} → Cleared l algebras → Cleared m sizes → Cleared n weights
    → AllCleared l m n algebras sizes weights
all_cleared e f g = record { algebras_zero = e; sizes_zero = f; weights_zero = g }
