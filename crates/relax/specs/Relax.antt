-- What one walk over a row does to its words.
use Rattle.std.specs.Prelude.{ℕ, ◌+◌, ◌≡◌, List, length, get_or, take, drop}
use Rattle.memory.specs.Walked.{Walked}
use Rattle.semiring.specs.Algebra.{sum_of, product_of}
use Rattle.semiring.specs.declared.Algebra.{Algebra}

-- Through point k, whose row is `via`: word p becomes the sum of itself and the product of the row's word k and word p of `via`.
abbrev pub relaxed : Algebra → ℕ → List ℕ → List ℕ → ℕ → ℕ → ℕ
relaxed a k via row p word = sum_of a word (product_of a (get_or row k 0) (get_or via p 0))

-- Through k and then k + 1, whose row is `next`: there word k + 1 is the one that k left.
abbrev pub relaxed_twice : Algebra → ℕ → List ℕ → List ℕ → List ℕ → ℕ → ℕ → ℕ
relaxed_twice a k via next row p word =
    sum_of a (relaxed a k via row p word)
    (product_of a (relaxed a k via row (k + 1) (get_or row (k + 1) 0)) (get_or next p 0))

-- Of two rows of n words, one after the other, the first p words of each were walked by g, which is given the row that the word is in.
pub record PairWalked (n : ℕ) (g : List ℕ → ℕ → ℕ → ℕ) (old : List ℕ) (p : ℕ) (new : List ℕ) : Type 0 where
  pub size : length new ≡ length old
  pub upper : Walked (g (take n old)) (take n old) p (take n new)
  pub lower : Walked (g (drop n old)) (drop n old) p (drop n new)
