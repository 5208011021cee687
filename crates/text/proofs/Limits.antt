-- A numeral within limits or over them, both ways.
use Prim.Native.Nat.{ℕ, ◌<◌, ◌≤◌}
use mathlib.Core.Path.{◌≡◌, refl, sym}
use mathlib.Core.Logic.{◌⊎◌, inl, inr}
use mathlib.Core.List.{List}
use mathlib.Core.Bool.{Bool, true, false, cond, ◌||◌}
use lib.ListN.{length}
use lib.Dec.{ltb}
use borrow.Author.Tests.{ltb-true, ltb-false, le-ltb}
use Rattle.std.proofs.Common.{Option, Some, None}
use Rattle.text.specs.Numeral.{decimal, numeral_of}
use Rattle.text.proofs.Digits.{numeral_long, numeral_over}

abbrev pub Limits : ℕ → ℕ → List ℕ → Option ℕ → Type 0
Limits long most p (Some n) = (length p ≤ long) × (decimal 0 p ≡ n) × (n ≤ most)
Limits long most p None = (long < length p) ⊎ (most < decimal 0 p)

module _ (long most : ℕ) (p : List ℕ) where
  pub limits : Limits long most p (numeral_of long most p)
  limits = by (ltb long (length p)) (ltb most (decimal 0 p)) refl refl
    where
      by : (b c : Bool) → ltb long (length p) ≡ b → ltb most (decimal 0 p) ≡ c → Limits long most p (cond (b || c) None (Some (decimal 0 p)))
      by true c e f = inl (ltb-true long (length p) e)
      by false true e f = inr (ltb-true most (decimal 0 p) f)
      by false false e f = (ltb-false long (length p) e, refl, ltb-false most (decimal 0 p) f)

  pub of_limits : (r : Option ℕ) → Limits long most p r → numeral_of long most p ≡ r
  of_limits (Some n) (few, is, small) = rw (le-ltb long (length p) few, is, le-ltb most n small)
  of_limits None (inl h) = sym (numeral_long long most p h)
  of_limits None (inr h) = sym (numeral_over long most p h)
