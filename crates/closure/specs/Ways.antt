-- Document 01, "Ways and elimination": ways and their words.
use Rattle.std.specs.Prelude.{ℕ, ◌<◌, List, [], ◌∷◌}
use Rattle.semiring.specs.Algebra.{own_of, product_of}
use Rattle.semiring.specs.declared.Algebra.{Algebra}
use Rattle.closure.specs.Table.{Table}

-- "Points are 0 to n-1 .. A way from i to j is a list of points that begins with i and ends with j, repeats allowed."
pub data Way (n : ℕ) : ℕ → ℕ → List ℕ → Type 0 where
  stay : {i : ℕ} → i < n → Way n i i (i ∷ [])
  step : {i k j : ℕ} {l : List ℕ} → i < n → Way n k j l → Way n i j (i ∷ l)

-- "Its word is the product of its links; the list of i alone has the own word." `link` is the table with its diagonal set.
unfoldable pub way_word : Algebra → Table → List ℕ → ℕ
way_word a link [] = own_of a
way_word a link (i ∷ []) = own_of a
way_word a link (i ∷ k ∷ l) = product_of a (link i k) (way_word a link (k ∷ l))

-- The point p is on the list.
pub data Visits (p : ℕ) : List ℕ → Type 0 where
  now : {l : List ℕ} → Visits p (p ∷ l)
  later : {q : ℕ} {l : List ℕ} → Visits p l → Visits p (q ∷ l)

-- "without a repeated point"
pub data NoRepeat : List ℕ → Type 0 where
  end : NoRepeat []
  more : {p : ℕ} {l : List ℕ} → (Visits p l → ⊥) → NoRepeat l → NoRepeat (p ∷ l)
