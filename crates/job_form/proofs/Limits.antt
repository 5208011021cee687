-- Every number that a row has is a 16-bit word.
use Prim.Native.Nat.{ℕ, ◌≤◌, ◌-◌}
use Prim.Native.Char.{code}
use mathlib.Core.Path.{◌≡◌, refl}
use mathlib.Core.List.{List, [], ◌∷◌}
use mathlib.Core.Bool.{Bool, true, false, cond}
use lib.ListN.{length, get_or, take}
use lib.Dec.{eqb}
use Rattle.semiring.specs.declared.Algebra.TheVariants.{Reach, Distance, Steepest}
use Rattle.std.proofs.Common.{Option, Some, None}
use Rattle.text.specs.Ascii.{ascii}
use Rattle.memory.specs.Lists.{same}
use Rattle.text.specs.Numeral.{digits, numeral_of}
use Rattle.text.proofs.Digits.{numeral_most}
use Rattle.job_form.specs.declared.tokens.Token.{Token}
use Rattle.job_form.specs.declared.tokens.Token.TheVariants.{Number, Over, Dash, Name, Other}
use Rattle.job_form.specs.declared.forms.Head.{Head}
use Rattle.job_form.specs.declared.forms.Head.TheVariants as head
use Rattle.job_form.specs.Tokens.{number_in, numeral_token, name, token_of}
use Rattle.job_form.specs.Forms.{Form, list, job, row, close, skipped, unknown, word_in, words, head_of, form_for, form_of}

abbrev pub Limited : Token → Type 0
Limited (Number n) = n ≤ 65535
Limited Over = Unit {0}
Limited Dash = Unit {0}
Limited (Name a) = Unit {0}
Limited Other = Unit {0}

abbrev pub AllLimited : List Token → Type 0
AllLimited [] = Unit {0}
AllLimited (t ∷ ts) = Limited t × AllLimited ts

abbrev pub RowLimited : Form → Type 0
RowLimited (list n) = Unit {0}
RowLimited (job n a) = Unit {0}
RowLimited (row ts) = AllLimited ts
RowLimited close = Unit {0}
RowLimited skipped = Unit {0}
RowLimited unknown = Unit {0}

one_or_other : (b : Bool) (x y : Token) → Limited x → Limited y → Limited (cond b x y)
one_or_other true x y h k = h
one_or_other false x y h k = k

limited_numeral : (p : List ℕ) → Limited (numeral_token p)
limited_numeral p = by (numeral_of 5 65535 p) refl
  where
    by : (r : Option ℕ) → numeral_of 5 65535 p ≡ r → Limited (number_in r)
    by (Some n) e = numeral_most 5 65535 p n e
    by None e = tt

limited_name : (p : List ℕ) → Limited (name p)
unfolding name
limited_name p =
    one_or_other (same p (ascii "reach")) (Name Reach) _ tt
    (one_or_other (same p (ascii "distance")) (Name Distance) _ tt
    (one_or_other (same p (ascii "steepest")) (Name Steepest) Other tt tt))

limited_token : (p : List ℕ) → Limited (token_of p)
unfolding token_of
limited_token [] = tt
limited_token (b ∷ p) =
    one_or_other (digits (b ∷ p)) _ _ (limited_numeral (b ∷ p)) (one_or_other (same (b ∷ p) (ascii "-")) Dash _ tt (limited_name (b ∷ p)))

limited_word : (p : List ℕ) (ps : List (List ℕ)) → Limited (word_in p ps)
limited_word p [] = one_or_other (eqb (get_or p (length p - 1) 0) (code ")")) _ Other (limited_token (take (length p - 1) p)) tt
limited_word p (q ∷ ps) = limited_token p

limited_words : (ps : List (List ℕ)) → AllLimited (words ps)
unfolding words
limited_words [] = tt
limited_words (p ∷ ps) = (limited_word p ps, limited_words ps)

limited_for : (h : Head) (ps : List (List ℕ)) → RowLimited (form_for h ps)
unfolding words
limited_for head.Comment ps = tt
limited_for head.List [] = tt
limited_for head.List (n ∷ []) = tt
limited_for head.List (n ∷ p ∷ ps) = tt
limited_for head.Job [] = tt
limited_for head.Job (n ∷ []) = tt
limited_for head.Job (n ∷ a ∷ []) = tt
limited_for head.Job (n ∷ a ∷ p ∷ ps) = tt
limited_for head.Row [] = tt
limited_for head.Row (p ∷ ps) = limited_words (p ∷ ps)
limited_for head.EmptyRow [] = tt
limited_for head.EmptyRow (p ∷ ps) = tt
limited_for head.Close [] = tt
limited_for head.Close (p ∷ ps) = tt
limited_for head.Unknown ps = tt

pub limited : (ps : List (List ℕ)) → RowLimited (form_of ps)
unfolding form_of
limited [] = tt
limited (p ∷ ps) = limited_for (head_of p) ps
