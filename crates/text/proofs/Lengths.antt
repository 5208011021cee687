-- The length of texts one after another, as a finite sum.
use Prim.Native.Nat.{ℕ, zero, suc, ◌+◌, ◌*◌, ◌<◌, ◌≤◌}
use native.Mathlib.Omega.{arith}
use native.Mathlib.Decide.{ℕ_discrete}
use mathlib.Core.Path.{◌≡◌, refl, sym, ap, ◌∙◌}
use mathlib.Core.List.{List}
use mathlib.Core.Bool.{cond}
use lib.ListN.{length, length-append}
use lib.Dec.{eqb}
use borrow.Author.Tests.{eq-eqb, ne_eqb}
use Rattle.text.specs.Joined.{joined}

-- f 0 + f 1 + .. + f (m - 1)
unfoldable pub sum : ℕ → (ℕ → ℕ) → ℕ
sum zero f = 0
sum (suc m) f = sum m f + f m

pub joined_length : (m : ℕ) (f : ℕ → List ℕ) → length (joined m f) ≡ sum m (λ x. length (f x))
unfolding joined sum
joined_length zero f = refl
joined_length (suc m) f = length-append (joined m f) (f m) ∙ ap (λ (n : ℕ). n + length (f m)) (joined_length m f)

-- a bound on the length of joined texts, from one on each
pub joined_most : (m : ℕ) (f : ℕ → List ℕ) (most : ℕ) → ((x : ℕ) → length (f x) ≤ most) → length (joined m f) ≤ m * most
unfolding joined
joined_most zero f most h = omega arith
joined_most (suc m) f most h = omega (arith, length-append (joined m f) (f m), joined_most m f most h, h m)

pub sum_below : (m : ℕ) (f g : ℕ → ℕ) → ((x : ℕ) → x < m → f x ≤ g x) → sum m f ≤ sum m g
unfolding sum
sum_below zero f g h = omega arith
sum_below (suc m) f g h = omega (arith, sum_below m f g (λ x k. h x (omega arith)), h m (omega arith))

sum_same : (m n : ℕ) → sum m (λ x. n) ≡ m * n
unfolding sum
sum_same zero n = omega arith
sum_same (suc m) n = omega (arith, sum_same m n)

sum-zero : (m : ℕ) → sum m (λ x. 0) ≡ 0
unfolding sum
sum-zero zero = refl
sum-zero (suc m) = omega (arith, sum-zero m)

sum-add : (m : ℕ) (f g : ℕ → ℕ) → sum m (λ x. f x + g x) ≡ sum m f + sum m g
unfolding sum
sum-add zero f g = refl
sum-add (suc m) f g = omega (arith, sum-add m f g)

sum_swap : (m n : ℕ) (f : ℕ → ℕ → ℕ) → sum m (λ x. sum n (f x)) ≡ sum n (λ y. sum m (λ x. f x y))
unfolding sum
sum_swap zero n f = sym (sum-zero n)
sum_swap (suc m) n f =
    ap (λ (k : ℕ). k + sum n (f m)) (sum_swap m n f) ∙ sym (sum-add n (λ y. sum m (λ x. f x y)) (f m))

-- a bound on the sum of the lengths of joined texts, from one on the sum for each place in them
pub joined_sums : (m n : ℕ) (f : ℕ → ℕ → List ℕ) (most : ℕ) → ((y : ℕ) → y < n → sum m (λ x. length (f x y)) ≤ most)
    → sum m (λ x. length (joined n (f x))) ≤ n * most
joined_sums m n f most h =
    simp joined_length
    (rw (sum_swap m n (λ x y. length (f x y)))
    (omega (arith, sum_below n (λ y. sum m (λ x. length (f x y))) (λ y. most) h, sum_same n most)))

-- at most one number is c: none below it
sum_none : (m c w : ℕ) → m ≤ c → sum m (λ x. cond (eqb x c) w 0) ≡ 0
unfolding sum
sum_none zero c w h = refl
sum_none (suc m) c w h = rw (ne_eqb m c (λ e. omega arith), sum_none m c w (omega arith))

pub sum_once : (m c w : ℕ) → sum m (λ x. cond (eqb x c) w 0) ≤ w
unfolding sum
sum_once zero c w = omega arith
sum_once (suc m) c w = by (ℕ_discrete m c) (sum_once m c w)
  where
    by : Dec (m ≡ c) → sum m (λ x. cond (eqb x c) w 0) ≤ w → sum m (λ x. cond (eqb x c) w 0) + cond (eqb m c) w 0 ≤ w
    by (yes e) h = rw (eq-eqb m c e, sum_none m c w (omega arith)) (omega arith)
    by (no e) h = rw (ne_eqb m c e) (omega arith)
