-- The table of document 01, "Algebras", with K4's product: for each algebra its words, its none and own word, its sum and its product.
use Rattle.std.specs.Prelude.{ℕ, ◌+◌, ◌≤◌, min, max, ◌≡◌, ◌≢◌, Bool, cond, not, ◌&&◌, ◌||◌, eqb}
use Rattle.semiring.specs.declared.Algebra.{Algebra}
use Rattle.semiring.specs.declared.Algebra.TheVariants.{Reach, Distance, Steepest}

-- "Words": 0 and 1 in reach, 0 to 65535 in the other two. The largest word.
abbrev pub top_of : Algebra → ℕ
top_of Reach = 1
top_of Distance = 65535
top_of Steepest = 65535

abbrev pub Word : Algebra → ℕ → Type 0
Word a x = x ≤ top_of a

abbrev pub none_word_of : Algebra → ℕ
none_word_of Reach = 0
none_word_of Distance = 65535
none_word_of Steepest = 65535

abbrev pub own_of : Algebra → ℕ
own_of Reach = 1
own_of Distance = 0
own_of Steepest = 0

-- "Sum": larger, smaller, smaller.
abbrev pub sum_of : Algebra → ℕ → ℕ → ℕ
sum_of Reach x y = max x y
sum_of Distance x y = min x y
sum_of Steepest x y = min x y

-- K4: "held at 65534, which means 65534 or more"
abbrev pub far : ℕ
far = 65534

-- "Product": smaller; addition; larger. K4: "In distance, the product of two words that aren't none is now held at 65534 ..;
-- none comes only from none."
abbrev pub product_of : Algebra → ℕ → ℕ → ℕ
product_of Reach x y = min x y
product_of Distance x y = cond (eqb x (none_word_of Distance) || eqb y (none_word_of Distance)) (none_word_of Distance) (min (x + y) far)
product_of Steepest x y = max x y

-- "A word betters another if it differs from it and is their sum."
abbrev pub Betters : Algebra → ℕ → ℕ → Type 0
Betters a x y = (x ≢ y) × (x ≡ sum_of a x y)

-- The same as a test.
abbrev pub betters : Algebra → ℕ → ℕ → Bool
betters a x y = not (eqb x y) && eqb x (sum_of a x y)
