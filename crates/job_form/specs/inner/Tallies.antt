-- What is counted among the words of a row.
use Rattle.std.specs.Prelude.{◌+◌, List, [], ◌∷◌, false, ◌||◌, ltb}
use Rattle.semiring.specs.Algebra.{top_of}
use Rattle.semiring.specs.declared.Algebra.{Algebra}
use Rattle.job_form.specs.declared.tokens.Token.{Token}
use Rattle.job_form.specs.declared.rows.Tally.{Tally}
use Rattle.job_form.specs.Words.{word_of, over_in, no_word}

abbrev pub no_tally : Tally
no_tally = record { other = false; over = false; above = false; count = 0 }

abbrev pub counted : Algebra → Tally → Token → Tally
counted a c t = record {
  other = c.other || no_word t;
  over = c.over || over_in a t;
  above = c.above || ltb (top_of a) (word_of a t);
  count = c.count + 1;
}

unfoldable pub tallied : Algebra → Tally → List Token → Tally
tallied a c [] = c
tallied a c (t ∷ ts) = tallied a (counted a c t) ts
