-- Document 01, "Job text and bench program": the words of a row.
use Rattle.std.specs.Prelude.{ℕ, Bool, true, false}
use Rattle.semiring.specs.Algebra.{none_word_of}
use Rattle.semiring.specs.declared.Algebra.{Algebra}
use Rattle.semiring.specs.declared.Algebra.TheVariants.{Reach, Distance, Steepest}
use Rattle.job_form.specs.declared.tokens.Token.{Token}
use Rattle.job_form.specs.Tokens.{by_token}

-- "`-` is none"
abbrev pub word_of : Algebra → Token → ℕ
word_of a = by_token (λ n. n) 0 (none_word_of a) (λ b. 0) 0

-- "but not in reach"
abbrev pub no_dash : Algebra → Bool
no_dash Reach = true
no_dash Distance = false
no_dash Steepest = false

-- "15 a numeral over 5 digits or above 65535, or `-` in reach"
abbrev pub over_in : Algebra → Token → Bool
over_in a = by_token (λ n. false) true (no_dash a) (λ b. false) false

-- "in a row a part that is neither numeral nor `-`"
abbrev pub no_word : Token → Bool
no_word = by_token (λ n. false) false false (λ b. true) true
