-- What the tests of a line decide of its parts.
use Prim.Native.Nat.{ℕ, ◌<◌, ◌≤◌}
use native.Mathlib.Omega.{arith}
use mathlib.Core.Path.{◌≡◌, refl, sym}
use mathlib.Core.Logic.{◌⊎◌, inl, inr}
use mathlib.Core.List.{List, [], ◌∷◌, map}
use mathlib.Core.Bool.{Bool, true, false, not, true≢false}
use lib.ListN.{length}
use lib.Dec.{eqb, ltb, leb}
use borrow.Author.Tests.{leb-true, leb-false, eqb-true, eqb-false}
use Rattle.memory.specs.Lists.{any}
use Rattle.semiring.specs.Algebra.{top_of}
use Rattle.semiring.specs.Words.{any_above}
use Rattle.semiring.specs.declared.Algebra.{Algebra}
use Rattle.semiring.specs.declared.Algebra.TheVariants.{Reach, Distance, Steepest}
use Rattle.refusals.specs.Tests.{outside}
use Rattle.refusals.specs.Conditions.{Outside}
use Rattle.refusals.proofs.Conditions.{Decides, decides_as, either, decides_outside, decides_differ, decides_above}
use Rattle.job_form.specs.declared.tokens.Token.{Token}
use Rattle.job_form.specs.declared.tokens.Token.TheVariants.{Number, Over, Dash, Name, Other}
use Rattle.job_form.specs.Words.{word_of, over_in, no_word}
use Rattle.job_form.specs.Forms.{list, job, row, close}
use Rattle.job_form.proofs.Limits.{Limited, AllLimited}
use Rattle.job_reading.specs.declared.state.Due.{Due}
use Rattle.job_reading.specs.declared.state.Due.TheVariants as due
use Rattle.job_reading.specs.claims.Refusals.{Numeral, read, over, RowPart, numeral, dash, EachPart, none, and, SomePart, here, later, FormDue, row_stands, OverIn}
use Rattle.job_reading.specs.claims.Refusals.{over_numeral, dash_in_reach, HasOver, over_word, RowLength, other_length, OrderOutside, order_outside, SizeOutside}
use Rattle.job_reading.specs.claims.Refusals.{size_outside, AboveOne, above_one, HasAbove, word_above, JobCount, closed_empty, job_17}

yes_is : {P : Type 0} → P → Decides true P
yes_is p = record { yes = λ e. p; no = λ e q. true≢false e }

no_is : {P : Type 0} → (P → ⊥) → Decides false P
no_is n = record { yes = λ e. absurd (true≢false (sym e)); no = λ e p. n p }

-- what is no numeral
pub no_dash_lem : Numeral Dash → ⊥
no_dash_lem = elim [ ]

pub no_name : {a : Algebra} → Numeral (Name a) → ⊥
no_name = elim [ ]

pub no_other : Numeral Other → ⊥
no_other = elim [ ]

-- some part of a row
module _ (test : Token → Bool) (P : Token → Type 0) (decides : (t : Token) → Limited t → Decides (test t) (P t)) where
  some_to : {t : Token} {ts : List Token} → P t ⊎ SomePart P ts → SomePart P (t ∷ ts)
  some_to (inl p) = here p
  some_to (inr s) = later s

  some_from : {t : Token} {ts : List Token} → SomePart P (t ∷ ts) → P t ⊎ SomePart P ts
  some_from (here p) = inl p
  some_from (later s) = inr s

  decides_some : (ts : List Token) → AllLimited ts → Decides (any test ts) (SomePart P ts)
  unfolding any
  decides_some [] h = no_is (elim [ ])
  decides_some (t ∷ ts) (h, hs) = decides_as some_to some_from (either (decides t h) (decides_some ts hs))

any_map : (test : ℕ → Bool) (f : Token → ℕ) (ts : List Token) → any test (map f ts) ≡ any (λ t. test (f t)) ts
unfolding any
any_map test f [] = refl
any_map test f (t ∷ ts) = rw (any_map test f ts)

-- "14": a row's parts are numerals or `-`
some_other : (ts : List Token) → any no_word ts ≡ true → EachPart RowPart ts → ⊥
unfolding any
some_other [] e none = true≢false (sym e)
some_other (Number n ∷ ts) e (and w ws) = some_other ts e ws
some_other (Over ∷ ts) e (and w ws) = some_other ts e ws
some_other (Dash ∷ ts) e (and w ws) = some_other ts e ws
some_other (Name a ∷ ts) e (and (numeral w) ws) = no_name w
some_other (Other ∷ ts) e (and (numeral w) ws) = no_other w

each_word : (ts : List Token) → any no_word ts ≡ false → EachPart RowPart ts
unfolding any
each_word [] e = none
each_word (Number n ∷ ts) e = and (numeral read) (each_word ts e)
each_word (Over ∷ ts) e = and (numeral over) (each_word ts e)
each_word (Dash ∷ ts) e = and dash (each_word ts e)
each_word (Name a ∷ ts) e = absurd (true≢false e)
each_word (Other ∷ ts) e = absurd (true≢false e)

stands : {ts : List Token} → FormDue due.Row (row ts) → EachPart RowPart ts
stands (row_stands w) = w

pub decides_row : (ts : List Token) → Decides (any no_word ts) (FormDue due.Row (row ts) → ⊥)
decides_row ts = record { yes = λ e f. some_other ts e (stands f); no = λ e n. n (row_stands (each_word ts e)) }

-- "15"
over_number : {a : Algebra} {n : ℕ} → OverIn a (Number n) → ⊥
over_number = elim [ ]

over_name : {a b : Algebra} → OverIn a (Name b) → ⊥
over_name = elim [ ]

over_other : {a : Algebra} → OverIn a Other → ⊥
over_other = elim [ ]

over_in_lem : (a : Algebra) (t : Token) → Limited t → Decides (over_in a t) (OverIn a t)
over_in_lem a (Number n) h = no_is over_number
over_in_lem a Over h = yes_is over_numeral
over_in_lem Reach Dash h = yes_is dash_in_reach
over_in_lem Distance Dash h = no_is (elim [ ])
over_in_lem Steepest Dash h = no_is (elim [ ])
over_in_lem a (Name b) h = no_is over_name
over_in_lem a Other h = no_is over_other

over_in_row : {a : Algebra} {ts : List Token} → HasOver a (row ts) → SomePart (OverIn a) ts
over_in_row (over_word s) = s

pub decides_over : (a : Algebra) (ts : List Token) → AllLimited ts → Decides (any (over_in a) ts) (HasOver a (row ts))
decides_over a ts h = decides_as over_word over_in_row (decides_some (over_in a) (OverIn a) (over_in_lem a) ts h)

-- "16"
length_in_row : {size : ℕ} {ts : List Token} → RowLength size (row ts) → length ts ≡ size → ⊥
length_in_row (other_length h) = h

pub decides_length : (size : ℕ) (ts : List Token) → Decides (not (eqb (length ts) size)) (RowLength size (row ts))
decides_length size ts = decides_as other_length length_in_row (decides_differ (length ts) size)

-- "6, 8"
order_in : {n : ℕ} → OrderOutside (list (Number n)) → Outside 1 32 n
order_in (order_outside h) = h

pub decides_order : (n : ℕ) → Decides (outside 1 32 n) (OrderOutside (list (Number n)))
decides_order n = decides_as order_outside order_in (decides_outside 1 32 n)

size_in : {order n : ℕ} {t : Token} → SizeOutside order (job (Number n) t) → Outside 1 order n
size_in (size_outside h) = h

pub decides_size : (order n : ℕ) (t : Token) → Decides (outside 1 order n) (SizeOutside order (job (Number n) t))
decides_size order n t = decides_as size_outside size_in (decides_outside 1 order n)

-- "5"
one_in : {n : ℕ} → AboveOne Reach (Number n) → 1 < n
one_in (above_one h) = h

above_in : (a : Algebra) (t : Token) → Limited t → Decides (ltb (top_of a) (word_of a t)) (AboveOne a t)
above_in Reach (Number n) h = decides_as above_one one_in (decides_above 1 n)
above_in Distance (Number n) h = decides_as (λ g. absurd (omega (arith, g))) (elim [ ]) (decides_above 65535 n)
above_in Steepest (Number n) h = decides_as (λ g. absurd (omega (arith, g))) (elim [ ]) (decides_above 65535 n)
above_in Reach Over h = no_is (elim [ ])
above_in Distance Over h = no_is (elim [ ])
above_in Steepest Over h = no_is (elim [ ])
above_in Reach Dash h = no_is (elim [ ])
above_in Distance Dash h = no_is (elim [ ])
above_in Steepest Dash h = no_is (elim [ ])
above_in Reach (Name b) h = no_is (elim [ ])
above_in Distance (Name b) h = no_is (elim [ ])
above_in Steepest (Name b) h = no_is (elim [ ])
above_in Reach Other h = no_is (elim [ ])
above_in Distance Other h = no_is (elim [ ])
above_in Steepest Other h = no_is (elim [ ])

above_in_row : {a : Algebra} {ts : List Token} → HasAbove a (row ts) → SomePart (AboveOne a) ts
above_in_row (word_above s) = s

pub decides_above_one : (a : Algebra) (ts : List Token) → AllLimited ts → Decides (any_above (top_of a) (map (word_of a) ts)) (HasAbove a (row ts))
decides_above_one a ts h =
    rw (any_map (ltb (top_of a)) (word_of a) ts)
    (decides_as word_above above_in_row (decides_some (λ t. ltb (top_of a) (word_of a t)) (AboveOne a) (above_in a) ts h))

-- "7"
empty_in : {jobs : ℕ} → JobCount jobs due.Job close → jobs ≡ 0
empty_in (closed_empty e) = e

pub decides_empty : (jobs : ℕ) → Decides (eqb jobs 0) (JobCount jobs due.Job close)
decides_empty jobs = record { yes = λ e. closed_empty (eqb-true jobs 0 e); no = λ e c. eqb-false jobs 0 e (empty_in c) }

count_in : {jobs : ℕ} {d : Due} {n t : Token} → JobCount jobs d (job n t) → 16 ≤ jobs
count_in (job_17 h) = h

pub decides_count : (jobs : ℕ) (d : Due) (n t : Token) → Decides (leb 16 jobs) (JobCount jobs d (job n t))
decides_count jobs d n t = record {
  yes = λ e. job_17 (leb-true 16 jobs e);
  no = λ e c. let few = leb-false 16 jobs e in let many = count_in c in omega arith;
}
