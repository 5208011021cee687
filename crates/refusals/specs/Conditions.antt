-- Document 01, "Where each call turns back", in the paper's own conditions: "Tested from the top; the first that applies is returned,
-- and none otherwise."
use Rattle.std.specs.Prelude.{ℕ, ◌<◌, ◌≤◌, ◌≡◌, ◌⊎◌, List, length, get_or}

-- Conditions from the top, each with its number.
pub data Conditions : Type 1 where
  otherwise : Conditions
  test : Type 0 → ℕ → Conditions → Conditions

-- Conditions, and where none of them applies those that follow.
abbrev pub followed : Conditions → Conditions → Conditions
followed otherwise more = more
followed (test P k rest) more = test P k (followed rest more)

-- The number n is that of the first condition that applies, and 0 where none does.
abbrev pub Returns : Conditions → ℕ → Type 0
Returns otherwise n = n ≡ 0
Returns (test P k rest) n = (P × (n ≡ k)) ⊎ ((P → ⊥) × Returns rest n)

-- Read both ways: what is returned, and when.
pub record Exactly (cs : Conditions) (number : ℕ) : Type 0 where
  pub returned : Returns cs number
  pub only : (n : ℕ) → Returns cs n → number ≡ n

-- A number outside its range.
abbrev pub Outside : ℕ → ℕ → ℕ → Type 0
Outside least most n = (n < least) ⊎ (most < n)

-- Some word of a list meets a condition.
abbrev pub Some : (ℕ → Type 0) → List ℕ → Type 0
Some P l = (p : ℕ) × (p < length l) × P (get_or l p 0)

-- A list of 16-bit words, as every lent memory of words is.
abbrev pub Words16 : List ℕ → Type 0
Words16 l = (p : ℕ) → p < length l → get_or l p 0 ≤ 65535
