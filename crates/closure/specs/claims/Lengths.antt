-- K4: "In distance, the product of two words that aren't none is now held at 65534, which means 65534 or more; none comes only from
-- none." So a closed table of distance says: the length of a shortest way, held at 65534, and none only where every way has a link of
-- none.
use Rattle.std.specs.Prelude.{ℕ, ◌+◌, ◌*◌, ◌≤◌, ◌<◌, min, ◌≡◌, ◌≢◌, List, [], ◌∷◌, get_or}
use Rattle.semiring.specs.Algebra.{none_word_of, far}
use Rattle.semiring.specs.Named.{named_of}
use Rattle.semiring.specs.declared.Algebra.TheVariants.{Distance}
use Rattle.closure.specs.Table.{Table, entries, with_own}
use Rattle.closure.specs.Elimination.{closure}
use Rattle.closure.specs.Ways.{Way}
use Rattle.closure.specs.Tests.{elimination_tests, result_after}
use Rattle.std.specs.Prelude.{Some as Known}

-- No link of the list is the none word.
unfoldable pub AllLinked : Table → List ℕ → Type 0
AllLinked link [] = Unit
AllLinked link (i ∷ []) = Unit
AllLinked link (i ∷ k ∷ l) = (link i k ≢ none_word_of Distance) × AllLinked link (k ∷ l)

-- The lengths of its links added, with nothing held.
unfoldable pub length_of : Table → List ℕ → ℕ
length_of link [] = 0
length_of link (i ∷ []) = 0
length_of link (i ∷ k ∷ l) = link i k + length_of link (k ∷ l)

-- x is the length of a shortest way from i to j, held at 65534, or none, and then every way has a link of none.
pub record Shortest (n : ℕ) (link : Table) (i j x : ℕ) : Type 0 where
  pub attained : x ≢ none_word_of Distance → (l : List ℕ) × Way n i j l × AllLinked link l × (x ≡ min (length_of link l) far)
  pub least : (l : List ℕ) → Way n i j l → AllLinked link l → x ≤ min (length_of link l) far
  pub none_only : x ≡ none_word_of Distance → (l : List ℕ) → Way n i j l → AllLinked link l → ⊥

abbrev pub Lengths : Type 0
Lengths =
    (n : ℕ) (w r : List ℕ) → elimination_tests (Known Distance) n w r ≡ 0
    → (i j : ℕ) → i < n → j < n → Shortest n (with_own Distance (entries n w)) i j (closure Distance n w i j)

-- The same of the words that an accepted call in distance, which is algebra 1, leaves in the result.
abbrev pub LengthsResult : Type 0
LengthsResult =
    (n : ℕ) (w r : List ℕ) → elimination_tests (named_of 1) n w r ≡ 0
    → (i j : ℕ) → i < n → j < n
    → Shortest n (with_own Distance (entries n w)) i j (get_or (result_after (named_of 1) n w r) (i * n + j) 0)
