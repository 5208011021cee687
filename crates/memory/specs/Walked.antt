-- A loop that goes through a part of a memory and gives each word j the value f j of its old one: what holds after it.
use Rattle.std.specs.Prelude.{ℕ, ◌<◌, ◌≤◌, ◌≡◌, List, length, get_or}

-- Each word j with from ≤ j < to is f j of the old one, the others are as they were.
pub record Spanned (f : ℕ → ℕ → ℕ) (old : List ℕ) (from to : ℕ) (new : List ℕ) : Type 0 where
  pub size : length new ≡ length old
  pub inside : (j : ℕ) → from ≤ j → j < to → get_or new j 0 ≡ f j (get_or old j 0)
  pub before : (j : ℕ) → j < from → get_or new j 0 ≡ get_or old j 0
  pub after : (j : ℕ) → to ≤ j → get_or new j 0 ≡ get_or old j 0

-- The same from the front, after m words.
abbrev pub Walked : (ℕ → ℕ → ℕ) → List ℕ → ℕ → List ℕ → Type 0
Walked f old m l = Spanned f old 0 m l
