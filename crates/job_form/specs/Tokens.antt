-- Document 01, "Job text and bench program": what a part of a line stands for.
use Rattle.std.specs.Prelude.{ℕ, List, [], ◌∷◌, Bool, true, false, cond, Option, None, Some}
use Rattle.semiring.specs.declared.Algebra.{Algebra}
use Rattle.semiring.specs.declared.Algebra.TheVariants.{Reach, Distance, Steepest}
use Rattle.refusals.specs.Tests.{first}
use Rattle.job_form.specs.declared.tokens.Token.{Token}
use Rattle.job_form.specs.declared.tokens.Token.TheVariants.{Number, Over, Dash, Name, Other}
use Rattle.text.specs.Ascii.{ascii}
use Rattle.memory.specs.Lists.{same}
use Rattle.text.specs.Numeral.{digits, numeral_of}

-- "Numbers have 1 to 5 decimal digits, leading zeros allowed"; "15 a numeral over 5 digits or above 65535".
abbrev pub number_in : Option ℕ → Token
number_in (Some n) = Number n
number_in None = Over

abbrev pub numeral_token : List ℕ → Token
numeral_token p = number_in (numeral_of 5 65535 p)

-- "A a name from the table".
abbrev pub name_tests : List ℕ → List (Bool × Token)
name_tests p =
    (same p (ascii "reach"), Name Reach)
    ∷ (same p (ascii "distance"), Name Distance)
    ∷ (same p (ascii "steepest"), Name Steepest)
    ∷ []

unfoldable pub name : List ℕ → Token
name p = first Other (name_tests p)

-- "`-` is none".
unfoldable pub token_of : List ℕ → Token
token_of [] = Other
token_of (b ∷ p) = cond (digits (b ∷ p)) (numeral_token (b ∷ p)) (cond (same (b ∷ p) (ascii "-")) Dash (name (b ∷ p)))

module _ {A : Type 0} where
  abbrev pub by_token : (ℕ → A) → A → A → (Algebra → A) → A → Token → A
  by_token number over dash name other (Number n) = number n
  by_token number over dash name other Over = over
  by_token number over dash name other Dash = dash
  by_token number over dash name other (Name a) = name a
  by_token number over dash name other Other = other

abbrev pub is_numeral : Token → Bool
is_numeral = by_token (λ n. true) true false (λ a. false) false

abbrev pub is_over : Token → Bool
is_over = by_token (λ n. false) true false (λ a. false) false

abbrev pub is_name : Token → Bool
is_name = by_token (λ n. false) false false (λ a. true) false

abbrev pub value_of : Token → ℕ
value_of = by_token (λ n. n) 0 0 (λ a. 0) 0

abbrev pub algebra_named : Token → Algebra
algebra_named = by_token (λ n. Reach) Reach Reach (λ a. a) Reach
