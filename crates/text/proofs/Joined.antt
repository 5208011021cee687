-- Laws of texts one after another.
use Prim.Native.Nat.{ℕ, zero, suc, ◌+◌, ◌<◌, ◌≤◌}
use native.Mathlib.Omega.{arith}
use native.Mathlib.Numerals.{add-one}
use native.Mathlib.Decide.{ℕ_discrete}
use mathlib.Core.Path.{◌≡◌, refl, ap₂, ◌∙◌}
use mathlib.Core.List.{List, [], ◌++◌, append-nil}
use Rattle.text.specs.Joined.{joined}

pub joined-none : (f : ℕ → List ℕ) → joined 0 f ≡ []
unfolding joined
joined-none f = refl

pub joined_next : (m : ℕ) (f : ℕ → List ℕ) → joined m f ++ f m ≡ joined (m + 1) f
unfolding joined
joined_next m f = rw (add-one m)

pub joined_same : (m : ℕ) (f g : ℕ → List ℕ) → ((x : ℕ) → x < m → f x ≡ g x) → joined m f ≡ joined m g
unfolding joined
joined_same zero f g h = refl
joined_same (suc m) f g h = ap₂ (λ (a b : List ℕ). a ++ b) (joined_same m f g (λ x k. h x (omega arith))) (h m (omega arith))

-- nothing from n on
pub joined_less : (m n : ℕ) (f : ℕ → List ℕ) → n ≤ m → ((x : ℕ) → n ≤ x → x < m → f x ≡ []) → joined m f ≡ joined n f
unfolding joined
joined_less zero n f h e = let z : 0 ≡ n = omega arith in rw (← z)
joined_less (suc m) n f h e =
    go (ℕ_discrete n (suc m)) (λ k. joined_less m n f k (λ x a b. e x a (omega arith)))
  where
    go : Dec (n ≡ suc m) → (n ≤ m → joined m f ≡ joined n f) → joined (suc m) f ≡ joined n f
    go (yes z) less = rw z
    go (no z) less = rw (e m (omega arith) (omega arith)) (append-nil (joined m f) ∙ less (omega arith))

pub joined_empty : (m : ℕ) (f : ℕ → List ℕ) → ((x : ℕ) → x < m → f x ≡ []) → joined m f ≡ []
joined_empty m f e = joined_less m 0 f (omega arith) (λ x a b. e x b) ∙ joined-none f

-- one text only
pub joined_one : (m : ℕ) (f : ℕ → List ℕ) (x : ℕ) → x < m → ((y : ℕ) → y < m → (y ≡ x → ⊥) → f y ≡ []) → joined m f ≡ f x
unfolding joined
joined_one m f x h e =
    joined_less m (suc x) f h (λ y a b. e y b (λ z. omega arith))
    ∙ rw (joined_empty x f (λ y k. e y (omega arith) (λ z. omega arith)))
