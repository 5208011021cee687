-- Rows and places of a memory of rows: the products that the bounds of loops need, and a place's row and column.
use Prim.Native.Nat.{ℕ, ◌+◌, ◌*◌, ◌/◌, ◌%◌, ◌<◌, ◌≤◌}
use native.Mathlib.Nat.{mul-le-mul, mul-le-mul_right}
use native.Mathlib.Omega.{arith}
use mathlib.Core.Path.{◌≡◌, sym, ap, ◌∙◌}
use mathlib.Core.List.{List}
use lib.ListN.{length, take}
use lib.Seq.{length-take-le}
use lib.Arith.{digits_div, digits_mod, digits_lt}
use mir.Syntax.{w64}
use mir.Val.{Fits}

pub row_fits : {i n : ℕ} → i < n → i * n + n ≤ n * n
row_fits {i} {n} h = omega (arith, mul-le-mul_right n h)

pub square_fits : {n most : ℕ} → n ≤ most → n * n ≤ most * most
square_fits h = mul-le-mul h h

pub cells_room : {n : ℕ} → n ≤ 128 → Fits w64 (n * n)
cells_room most = omega (arith, square_fits most)

-- the first n² words of a room for `most` squared
pub front : {n most : ℕ} (l : List ℕ) → n ≤ most → length l ≡ most * most → length (take (n * n) l) ≡ n * n
front {n} l h e = length-take-le (n * n) l (rw e (square_fits h))

-- A place (i, j) of n by n words as the code counts it: its row, the place, the place in bytes, and that it is inside.
module _ {n : ℕ} (most : n ≤ 128) where
  pub row_room : (i : ℕ) → i < n → Fits w64 (i * n)
  row_room i h = omega (arith, row_fits h, square_fits most)

  pub place_room : (i j : ℕ) → i < n → j < n → Fits w64 (i * n + j)
  place_room i j h k = omega (arith, row_fits h, square_fits most)

  pub bytes-room : (i j : ℕ) → i < n → j < n → Fits w64 ((i * n + j) * 2)
  bytes-room i j h k = omega (arith, row_fits h, square_fits most)

pub place_inside : {n : ℕ} (l : List ℕ) (i j : ℕ) → length l ≡ n * n → i < n → j < n → i * n + j < length l
place_inside l i j e h k = rw e (digits_lt h k)

pub ruleset places = (row_room, place_room, bytes-room, place_inside)

-- Two numbers to the base n are equal digit by digit.
pub same_digits : {n x y x' y' : ℕ} → y < n → y' < n → n * x + y ≡ n * x' + y' → (x ≡ x') × (y ≡ y')
same_digits {n} {x} {y} {x'} {y'} h h' e =
    let u : x * n + y ≡ x' * n + y' = omega arith in (
      sym (digits_div x h) ∙ ap (λ (z : ℕ). z / n) u ∙ digits_div x' h',
      sym (digits_mod x h) ∙ ap (λ (z : ℕ). z % n) u ∙ digits_mod x' h',
    )
