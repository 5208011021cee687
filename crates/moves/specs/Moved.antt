-- Words moved on in place: each takes the old word d places before it.
use Rattle.std.specs.Prelude.{ℕ, ◌-◌, ◌≤◌, List, length, get_or}
use Rattle.memory.specs.Walked.{Spanned}

-- The words from `at` to `end` have such a word.
pub record Movable (d at end : ℕ) (words : List ℕ) : Type 0 where
  pub some : 1 ≤ d
  pub first : d ≤ at
  pub order : at ≤ end
  pub within : end ≤ length words

abbrev pub Moved : ℕ → List ℕ → ℕ → ℕ → List ℕ → Type 0
Moved d old at end new = Spanned (λ p word. get_or old (p - d) 0) old at end new
