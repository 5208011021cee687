-- Why reach agrees with distance and steepest (request K6): a homomorphism commutes with the elimination, and the support is one, from every
-- algebra to reach.
use Rattle.std.specs.Prelude.{ℕ, ◌+◌, ◌<◌, min, ◌≡◌, ◌≢◌, cond, List, ltb, get_or}
use Rattle.semiring.specs.Algebra.{Word, none_word_of, own_of, sum_of, product_of}
use Rattle.semiring.specs.declared.Algebra.{Algebra}
use Rattle.semiring.specs.declared.Algebra.TheVariants.{Reach, Distance}
use Rattle.closure.specs.Table.{entries}
use Rattle.closure.specs.Elimination.{closure}
use Rattle.homomorphism.specs.Homomorphism.{Homomorphism}
use Rattle.homomorphism.specs.Positive.{Positive}
use Rattle.homomorphism.specs.Support.{support}

-- Two tables that the map joins off the diagonal have eliminations that it joins at every entry.
abbrev pub Commutes : Type 0
Commutes =
    (a b : Algebra) (f : ℕ → ℕ) → Homomorphism a b f
    → (n : ℕ) (w v : List ℕ) → ((p : ℕ) → Word a (get_or w p 0))
    → ((i j : ℕ) → i < n → j < n → i ≢ j → entries n v i j ≡ f (entries n w i j))
    → (i j : ℕ) → i < n → j < n → closure b n v i j ≡ f (closure a n w i j)

abbrev pub PositiveAlgebras : Type 0
PositiveAlgebras = (a : Algebra) → Positive (Word a) (sum_of a) (product_of a) (none_word_of a) (own_of a)

-- So the support is a homomorphism.
abbrev pub SupportKept : Type 0
SupportKept = (a : Algebra) → Homomorphism a Reach (support a)

-- Document 01's product of distance, before K4: "addition, held at 65535".
abbrev pub product_before : ℕ → ℕ → ℕ
product_before x y = min (x + y) 65535

-- K6 needs K4: by the product of before, two links of 40000 in a row made 65535, which is none, where reach says 1.
pub record NeedsK4 : Type 0 where
  pub none : product_before 40000 40000 ≡ none_word_of Distance
  pub one : product_of Reach (support Distance 40000) (support Distance 40000) ≡ 1
  -- so the support did not keep the product
  pub not_kept :
      ((x y : ℕ) → Word Distance x → Word Distance y
      → support Distance (product_before x y) ≡ product_of Reach (support Distance x) (support Distance y))
      → ⊥
  -- below a sum of 65535 the two products are the same, from there on the one of before was none
  pub before : (x y : ℕ) → product_before x y ≡ cond (ltb (x + y) 65535) (product_of Distance x y) (none_word_of Distance)
