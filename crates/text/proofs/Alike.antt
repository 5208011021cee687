-- Bytes compared by `==`.
use Prim.Native.Nat.{ℕ}
use mathlib.Core.Path.{◌≡◌, refl, ap}
use mathlib.Core.List.{List, [], ◌∷◌}
use mathlib.Core.Bool.{Bool, ◌&&◌}
use lib.Dec.{eqb}
use lib.Pointwise.{pointwise}
use Rattle.memory.specs.Lists.{same}

-- What the library's `==` on slices of bytes tells.
pub same_pointwise : (p q : List ℕ) → pointwise eqb p q ≡ same p q
same_pointwise [] [] = refl
same_pointwise [] (c ∷ q) = refl
same_pointwise (b ∷ p) [] = refl
same_pointwise (b ∷ p) (c ∷ q) = ap (λ (x : Bool). eqb b c && x) (same_pointwise p q)
