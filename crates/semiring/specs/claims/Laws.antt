-- The laws of document 01, "Algebras", and of K4 in one record, and the statement that all three algebras have them.
use Rattle.std.specs.Prelude.{ℕ, ◌≡◌, ◌⊎◌, ◌≢◌}
use Rattle.semiring.specs.Algebra.{Word, none_word_of, own_of, sum_of, product_of}
use Rattle.semiring.specs.declared.Algebra.{Algebra}

module _ (W : ℕ → Type 0) (◌⊕◌ ◌⊗◌ : ℕ → ℕ → ℕ) (none own : ℕ) where
  infixl 60 ◌⊕◌
  infixl 70 ◌⊗◌
  pub record Semiring : Type 0 where
    -- the operations stay among the words
    pub none_word : W none
    pub own_word : W own
    pub sum_word : {x y : ℕ} → W x → W y → W (x ⊕ y)
    pub product_word : {x y : ℕ} → W x → W y → W (x ⊗ y)
    -- "sum commutative, associative, sum of a word with itself is that word, sum with the own word is the own word"
    pub sum_comm : {x y : ℕ} → W x → W y → x ⊕ y ≡ y ⊕ x
    pub sum_assoc : {x y z : ℕ} → W x → W y → W z → x ⊕ y ⊕ z ≡ x ⊕ (y ⊕ z)
    pub sum_idem : {x : ℕ} → W x → x ⊕ x ≡ x
    pub sum_own : {x : ℕ} → W x → x ⊕ own ≡ own
    -- "product associative, spread over the sum"
    pub product_assoc : {x y z : ℕ} → W x → W y → W z → x ⊗ y ⊗ z ≡ x ⊗ (y ⊗ z)
    pub product_sum : {x y z : ℕ} → W x → W y → W z → x ⊗ (y ⊕ z) ≡ x ⊗ y ⊕ x ⊗ z
    pub sum_product : {x y z : ℕ} → W x → W y → W z → (x ⊕ y) ⊗ z ≡ x ⊗ z ⊕ y ⊗ z
    -- "none is neutral to the sum and makes every product none, the own word is neutral to the product"
    pub sum_none : {x : ℕ} → W x → x ⊕ none ≡ x
    pub product_none : {x : ℕ} → W x → x ⊗ none ≡ none
    pub none_product : {x : ℕ} → W x → none ⊗ x ≡ none
    pub product_own : {x : ℕ} → W x → x ⊗ own ≡ x
    pub own_product : {x : ℕ} → W x → own ⊗ x ≡ x
    -- K4: "none comes only from none"
    pub product_not_none : {x y : ℕ} → W x → W y → x ≢ none → y ≢ none → x ⊗ y ≢ none

-- "The laws .. are shown over all three together."
abbrev pub Laws : Type 0
Laws = (a : Algebra) → Semiring (Word a) (sum_of a) (product_of a) (none_word_of a) (own_of a)

-- "Sum picks the better": it is one of its two words.
abbrev pub Picks : Type 0
Picks = (a : Algebra) (x y : ℕ) → (sum_of a x y ≡ x) ⊎ (sum_of a x y ≡ y)
