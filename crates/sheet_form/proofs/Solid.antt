-- Bytes without a space among them are one part of a line.
use Prim.Native.Nat.{ℕ, suc, ◌<◌, ◌≤◌}
use Prim.Native.Char.{code}
use native.Mathlib.Omega.{arith}
use mathlib.Core.Path.{◌≡◌}
use mathlib.Core.List.{List, [], ◌∷◌, ◌++◌}
use lib.ListN.{length, get_or}
use borrow.Author.Tests.{ne_eqb}
use Rattle.text.specs.Pieces.{cut, placed, parts}
use Rattle.text.specs.claims.Numerals.{NumeralOf}

unfoldable pub Solid : List ℕ → Type 0
Solid [] = Unit {0}
Solid (b ∷ l) = (b ≡ code " " → ⊥) × Solid l

cut_solid : (at b : ℕ) (l : List ℕ) → Solid (b ∷ l) → cut (code " ") at (b ∷ l) ≡ record { at = at; bytes = b ∷ l } ∷ []
unfolding cut Solid
cut_solid at b [] s = rw (ne_eqb b (code " ") s.0)
cut_solid at b (c ∷ l) s = rw (ne_eqb b (code " ") s.0, cut_solid (suc at) c l s.1)

pub one_part : (l : List ℕ) → 1 ≤ length l → Solid l → parts l ≡ l ∷ []
unfolding parts placed
one_part [] h s = absurd (omega arith)
one_part (b ∷ l) h s = rw (cut_solid 0 b l s)

pub solid_append : (x y : List ℕ) → Solid x → Solid y → Solid (x ++ y)
unfolding Solid
solid_append [] y s r = r
solid_append (b ∷ x) y s r = (s.0, solid_append x y s.1 r)

-- digits are from 48 on
solid_digits : (l : List ℕ) → ((p : ℕ) → p < length l → 48 ≤ get_or l p 0) → Solid l
unfolding Solid
solid_digits [] digits = tt
solid_digits (b ∷ l) digits =
    (λ e. omega (arith, digits 0 (omega arith)), solid_digits l (λ p h. digits (suc p) (omega arith)))

pub numeral_solid : {n : ℕ} (l : List ℕ) → NumeralOf n l → Solid l
numeral_solid l is = solid_digits l (λ p h. (is.digits p h).0)

pub numeral_part : {n : ℕ} (l : List ℕ) → NumeralOf n l → parts l ≡ l ∷ []
numeral_part l is = one_part l is.some (numeral_solid l is)
