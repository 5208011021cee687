-- What a part stands for, both ways: numerals, names, `-`, and the words of a row.
use Prim.Native.Nat.{ℕ, ◌<◌, ◌≤◌}
use Prim.Native.Char.{code}
use native.Mathlib.Omega.{arith}
use mathlib.Core.Path.{◌≡◌, refl, ap, subst, ◌∙◌}
use mathlib.Core.Logic.{inl, inr}
use mathlib.Core.List.{List, [], ◌∷◌}
use mathlib.Core.Bool.{Bool, true, false, cond, true≢false}
use lib.ListN.{length}
use lib.Dec.{ltb}
use borrow.Author.Tests.{ltb-false, le-ltb}
use Rattle.memory.specs.Lists.{same}
use Rattle.memory.proofs.Same.{same_equal}
use Rattle.semiring.specs.declared.Algebra.{Algebra}
use Rattle.semiring.specs.declared.Algebra.TheVariants.{Reach, Distance, Steepest}
use Rattle.semiring.specs.Algebra.{top_of}
use Rattle.std.proofs.Common.{Option, Some, None}
use Rattle.text.specs.Ascii.{ascii}
use Rattle.text.specs.Numeral.{digits, decimal, numeral_of}
use Rattle.text.specs.claims.Spelling.{Digits}
use Rattle.job_form.specs.declared.tokens.Token.{Token}
use Rattle.job_form.specs.declared.tokens.Token.TheVariants.{Number, Over, Dash, Name, Other}
use Rattle.job_form.specs.Tokens.{number_in, numeral_token, name, token_of}
use Rattle.job_form.specs.Words.{word_of, over_in, no_word}
use Rattle.job_form.specs.claims.Written.{NumberOf, OverNumeral, over_digits, over_value, Named, reach, distance, steepest}
use Rattle.job_form.specs.claims.Written.{Word, in_reach, in-distance, in-steepest, none_in_distance, none_in_steepest}
use Rattle.job_form.specs.claims.Exactly.{TokenExactly}
use Rattle.text.proofs.Limits.{Limits, limits, of_limits}
use Rattle.text.proofs.Spelling.{digits_said, said_digits}

-- What a token says of the bytes of its part.
abbrev pub Spelled : List ℕ → Token → Type 0
Spelled p (Number n) = NumberOf p n
Spelled p Over = OverNumeral p
Spelled p Dash = p ≡ code "-" ∷ []
Spelled p (Name a) = Named p a
Spelled p Other = Unit {0}

chosen : (p : List ℕ) (b : Bool) (x y : Token) → (b ≡ true → Spelled p x) → (b ≡ false → Spelled p y) → Spelled p (cond b x y)
chosen p true x y f g = f refl
chosen p false x y f g = g refl

numeral_spelled : (p : List ℕ) → 1 ≤ length p → digits p ≡ true → Spelled p (numeral_token p)
numeral_spelled p some all = by (numeral_of 5 65535 p) (limits 5 65535 p)
  where
    by : (r : Option ℕ) → Limits 5 65535 p r → Spelled p (number_in r)
    by (Some n) (few, is, most) =
        record { some = some; few = few; digits = subst (λ (x : ℕ). Digits 0 p x) is (digits_said 0 p all); most = most }
    by None (inl h) = over_digits (digits_said 0 p all) h
    by None (inr h) = over_value (digits_said 0 p all) h

name_spelled : (p : List ℕ) → Spelled p (name p)
unfolding name
name_spelled p =
    chosen p (same p (ascii "reach")) (Name Reach) _ (λ e. rw (same_equal p (ascii "reach") e) reach) (λ n.
    chosen p (same p (ascii "distance")) (Name Distance) _ (λ e. rw (same_equal p (ascii "distance") e) distance) (λ n.
    chosen p (same p (ascii "steepest")) (Name Steepest) Other (λ e. rw (same_equal p (ascii "steepest") e) steepest) (λ n. tt)))

pub token_spelled : (p : List ℕ) → Spelled p (token_of p)
unfolding token_of
token_spelled [] = tt
token_spelled (b ∷ p) =
    chosen (b ∷ p) (digits (b ∷ p)) _ _ (λ e. numeral_spelled (b ∷ p) (omega arith) e) (λ n.
    chosen (b ∷ p) (same (b ∷ p) (ascii "-")) Dash _ (λ e. same_equal (b ∷ p) (ascii "-") e) (λ m. name_spelled (b ∷ p)))

-- And back.
numeral_read : (p : List ℕ) (r : Option ℕ) → 1 ≤ length p → digits p ≡ true → Limits 5 65535 p r → token_of p ≡ number_in r
unfolding token_of
numeral_read [] r some all h = absurd (omega arith)
numeral_read (b ∷ p) r some all h = rw all (ap number_in (of_limits 5 65535 (b ∷ p) r h))

pub numeral_token_lem : {p : List ℕ} {n : ℕ} → NumberOf p n → token_of p ≡ Number n
numeral_token_lem {p} {n} h =
    let (all, value) = said_digits h.digits in
    numeral_read p (Some n) h.some all (h.few, value, h.most)

some_digit : (p : List ℕ) → 65535 < decimal 0 p → 1 ≤ length p
unfolding decimal
some_digit [] h = absurd (omega arith)
some_digit (b ∷ p) h = omega arith

over_token : {p : List ℕ} → OverNumeral p → token_of p ≡ Over
over_token {p} (over_digits d h) = numeral_read p None (omega arith) (said_digits d).0 (inl h)
over_token {p} (over_value d h) =
    let (all, value) = said_digits d in
    let large : 65535 < decimal 0 p = rw value h in
    numeral_read p None (some_digit p large) all (inr large)

pub name_token : {p : List ℕ} {a : Algebra} → Named p a → token_of p ≡ Name a
unfolding token_of name digits
name_token reach = refl
name_token distance = refl
name_token steepest = refl

pub dash_token : token_of (code "-" ∷ []) ≡ Dash
unfolding token_of digits
dash_token = refl

-- What a token says, both ways.
pub tokens_exactly : (p : List ℕ) → TokenExactly p
tokens_exactly p = record {
  number = λ n. (λ e. told e, λ h. numeral_token_lem h);
  over = (λ e. told e, λ h. over_token h);
  dash = (λ e. told e, λ e. ap token_of e ∙ dash_token);
  named = λ a. (λ e. told e, λ h. name_token h);
}
  where
    told : {t : Token} → token_of p ≡ t → Spelled p t
    told e = subst (λ (t : Token). Spelled p t) e (token_spelled p)

-- A word of a row: its token passes the tests of a row.
pub record Passes (a : Algebra) (t : Token) (w : ℕ) : Type 0 where
  pub a_word : no_word t ≡ false
  pub not_over : over_in a t ≡ false
  pub not_above : ltb (top_of a) (word_of a t) ≡ false
  pub is : word_of a t ≡ w

number_word : (a : Algebra) (p : List ℕ) (n : ℕ) → NumberOf p n → ltb (top_of a) n ≡ false → Word a p n
number_word Reach p n h e = in_reach h (ltb-false 1 n e)
number_word Distance p n h e = in-distance h
number_word Steepest p n h e = in-steepest h

dash_word : (a : Algebra) (p : List ℕ) → p ≡ code "-" ∷ [] → over_in a Dash ≡ false → Word a p (word_of a Dash)
dash_word Reach p e n = absurd (true≢false n)
dash_word Distance p e n = rw e none_in_distance
dash_word Steepest p e n = rw e none_in_steepest

pub word_of_lem : (a : Algebra) (p : List ℕ) (t : Token) → Spelled p t → Passes a t (word_of a t) → Word a p (word_of a t)
word_of_lem a p (Number n) s h = number_word a p n s h.not_above
word_of_lem a p Over s h = absurd (true≢false h.not_over)
word_of_lem a p Dash s h = dash_word a p s h.not_over
word_of_lem a p (Name b) s h = absurd (true≢false h.a_word)
word_of_lem a p Other s h = absurd (true≢false h.a_word)

pub word_passes : {a : Algebra} {p : List ℕ} {w : ℕ} → Word a p w → Passes a (token_of p) w
word_passes (in_reach {p} {n} h k) = rw (numeral_token_lem h) (record { a_word = refl; not_over = refl; not_above = le-ltb 1 n k; is = refl })
word_passes (in-distance {p} {n} h) = rw (numeral_token_lem h) (record { a_word = refl; not_over = refl; not_above = le-ltb 65535 n h.most; is = refl })
word_passes (in-steepest {p} {n} h) = rw (numeral_token_lem h) (record { a_word = refl; not_over = refl; not_above = le-ltb 65535 n h.most; is = refl })
word_passes none_in_distance = rw dash_token (record { a_word = refl; not_over = refl; not_above = refl; is = refl })
word_passes none_in_steepest = rw dash_token (record { a_word = refl; not_over = refl; not_above = refl; is = refl })
