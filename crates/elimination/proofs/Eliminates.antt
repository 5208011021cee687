-- A table laid out by all the steps of the walk, then closed, is the elimination.
use Prim.Native.Nat.{ℕ, ◌*◌}
use native.Mathlib.Omega.{arith}
use mathlib.Core.Path.{◌≡◌, ◌∙◌}
use mathlib.Core.List.{List}
use lib.ListN.{length}
use Rattle.semiring.specs.declared.Algebra.{Algebra}
use Rattle.closure.specs.Table.{entries, with_own}
use Rattle.closure.specs.Elimination.{closure, eliminated}
use Rattle.closure.proofs.Accepted.{Accepted}
use Rattle.closure.proofs.Holds.{row_by_row_holds}
use Rattle.table_layout.specs.LaidOut.{laid_out, ToLayOut}
use Rattle.elimination.specs.inner.Passes.{PassedAll}
use Rattle.table_layout.proofs.OneWalk.{all_steps}

pub eliminates : (a : Algebra) (n : ℕ) (w old laid made : List ℕ) → length old ≡ n * n → laid ≡ laid_out a n (n * n) w old
    → PassedAll a n laid made → made ≡ eliminated a n w
unfolding eliminated closure
eliminates a n w old laid made fits lays closes =
    let t = with_own a (entries n w) in
    closes.words t (rw (lays ∙ all_steps a n w old fits) (row_by_row_holds n t))

-- An accepted table can be eliminated.
pub to_eliminate : {a : Algebra} {n : ℕ} {w t : List ℕ} → Accepted a n w t → ToLayOut n (n * n) w t
to_eliminate input = record { most = input.most; weights_fit = input.weights; table_fit = input.result; steps = omega arith }
