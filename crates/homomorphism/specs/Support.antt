-- The map that tells none from all other words: the support of a word, as a word of reach.
use Rattle.std.specs.Prelude.{ℕ, cond, eqb}
use Rattle.semiring.specs.Algebra.{none_word_of}
use Rattle.semiring.specs.declared.Algebra.{Algebra}

abbrev pub support : Algebra → ℕ → ℕ
support a x = cond (eqb x (none_word_of a)) 0 1
