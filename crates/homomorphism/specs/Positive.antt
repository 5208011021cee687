-- Semirings in which none comes only from none: positive ones, in the field's word.
use Rattle.std.specs.Prelude.{ℕ, ◌≢◌}

module _ (W : ℕ → Type 0) (◌⊕◌ ◌⊗◌ : ℕ → ℕ → ℕ) (none own : ℕ) where
  infixl 60 ◌⊕◌
  infixl 70 ◌⊗◌
  pub record Positive : Type 0 where
    pub own_some : own ≢ none
    pub sum_some : {x y : ℕ} → W x → W y → x ≢ none → x ⊕ y ≢ none
    -- K4: "none comes only from none"
    pub product_some : {x y : ℕ} → W x → W y → x ≢ none → y ≢ none → x ⊗ y ≢ none
