-- The list of a function's values, a test over a list, two lists compared, and a memory after a part of it was lent and given back.
use Rattle.std.specs.Prelude.{ℕ, zero, suc, List, [], ◌∷◌, ◌++◌, Bool, true, false, ◌||◌, ◌&&◌, eqb, take, drop}

-- f 0, f 1, .. f (m - 1)
unfoldable pub list_of : ℕ → (ℕ → ℕ) → List ℕ
list_of zero f = []
list_of (suc m) f = f zero ∷ list_of m (λ p. f (suc p))

-- The list l with `new` for the w words that begin at `at`.
abbrev pub replaced : ℕ → ℕ → List ℕ → List ℕ → List ℕ
replaced at w new l = take at l ++ (new ++ drop w (drop at l))

-- Whether some member of the list meets the test.
module _ {A : Type 0} where
  unfoldable pub any : (A → Bool) → List A → Bool
  any test [] = false
  any test (x ∷ l) = test x || any test l

-- Whether two lists are the same.
abbrev pub same : List ℕ → List ℕ → Bool
same [] [] = true
same [] (y ∷ ys) = false
same (x ∷ xs) [] = false
same (x ∷ xs) (y ∷ ys) = eqb x y && same xs ys
