-- Whether words are words of an algebra.
use Rattle.std.specs.Prelude.{ℕ, ◌<◌, ◌≡◌, List, Bool, ltb}
use Rattle.memory.specs.Lists.{any}
use Rattle.refusals.specs.Conditions.{Some}

-- "a reach word above 1": no 16-bit word is above the largest one of the other two algebras
abbrev pub any_above : ℕ → List ℕ → Bool
any_above top = any (ltb top)

-- "a reach word above 1": reach has number 0.
abbrev pub ReachAbove : ℕ → List ℕ → Type 0
ReachAbove algebra w = (algebra ≡ 0) × Some (λ x. 1 < x) w
