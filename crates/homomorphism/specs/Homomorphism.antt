-- A map from the words of one algebra to those of another that keeps none, own, sum and product: a homomorphism of semirings.
use Rattle.std.specs.Prelude.{ℕ, ◌≡◌}
use Rattle.semiring.specs.Algebra.{Word, none_word_of, own_of, sum_of, product_of}
use Rattle.semiring.specs.declared.Algebra.{Algebra}

pub record Homomorphism (a b : Algebra) (f : ℕ → ℕ) : Type 0 where
  -- not needed for the elimination, where none comes from the table alone
  pub none : f (none_word_of a) ≡ none_word_of b
  pub own : f (own_of a) ≡ own_of b
  pub sum : {x y : ℕ} → Word a x → Word a y → f (sum_of a x y) ≡ sum_of b (f x) (f y)
  pub product : {x y : ℕ} → Word a x → Word a y → f (product_of a x y) ≡ product_of b (f x) (f y)
