-- What test 5 asks of its lists, and how it tells a list of one algebra.
use Rattle.std.specs.Prelude.{ℕ, ◌≤◌, ◌≡◌, List, Bool, not, eqb, length}
use Rattle.memory.specs.Lists.{any}
use Rattle.job_list.specs.Jobs.{words_of}
use Rattle.job_list.specs.Fits.{Small}

-- Whether a number is another than the given one.
abbrev pub any_other : ℕ → List ℕ → Bool
any_other n = any (λ (m : ℕ). not (eqb m n))

-- One job at least, all within the largest order, an algebra for each, and the words of all.
pub record Parts (algebras sizes weights : List ℕ) : Type 0 where
  pub some : 1 ≤ length sizes
  pub small : Small sizes
  pub algebras_fit : length algebras ≡ length sizes
  pub weights_fit : length weights ≡ words_of sizes
