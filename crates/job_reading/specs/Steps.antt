-- Document 01, "Job text and bench program" and row Text of "Where each call turns back", with K8's forms: what one line does.
use Rattle.std.specs.Prelude.{ℕ, zero, suc, ◌-◌, List, [], ◌∷◌, ◌++◌, map, Bool, cond, not, length, eqb, leb}
use Rattle.memory.specs.Lists.{any}
use Rattle.semiring.specs.Algebra.{top_of}
use Rattle.semiring.specs.Named.{number_of}
use Rattle.semiring.specs.declared.Algebra.{Algebra}
use Rattle.semiring.specs.declared.Algebra.TheVariants.{Reach}
use Rattle.refusals.specs.Tests.{first, outside}
use Rattle.semiring.specs.Words.{any_above}
use Rattle.job_form.specs.declared.tokens.Token.{Token}
use Rattle.job_form.specs.Tokens.{is_numeral, is_over, is_name, value_of, algebra_named}
use Rattle.job_form.specs.Words.{word_of, over_in, no_word}
use Rattle.job_form.specs.Forms.{Form, list, job, row, close, skipped, unknown}
use Rattle.job_reading.specs.declared.state.Due.{Due}
use Rattle.job_reading.specs.declared.state.Due.TheVariants as due

-- What has been read so far: "N, .. Q, 16 sizes and 16,384 weights", where Q is the length of `sizes`; K8: "16 algebras too", here by
-- number. Of the last job, which has `size` points in `algebra`, `left` rows are still due.
pub record Progress : Type 0 where
  pub due : Due
  pub order : ℕ
  pub algebra : Algebra
  pub size : ℕ
  pub left : ℕ
  pub algebras : List ℕ
  pub sizes : List ℕ
  pub weights : List ℕ

abbrev pub progress : Due → ℕ → Algebra → ℕ → ℕ → List ℕ → List ℕ → List ℕ → Progress
progress d o a n l bs ss ws = record { due = d; order = o; algebra = a; size = n; left = l; algebras = bs; sizes = ss; weights = ws }

abbrev pub start : Progress
start = progress due.List 0 Reach 0 0 [] [] []

-- "14 not the form due; 15 a numeral over 5 digits or above 65535, or `-` in reach; 16 row length; 6, 8, 5; 7 a list closed empty or a 17th
-- job": the tests of each form that is due, with their numbers.
abbrev pub list_tests : Token → List (Bool × ℕ)
list_tests n =
    (not (is_numeral n), 14)
    ∷ (is_over n, 15)
    ∷ (outside 1 32 (value_of n), 6)
    ∷ []

-- Of a job's line the last two stand apart, as the code tests them.
abbrev pub range_tests : ℕ → ℕ → Token → List (Bool × ℕ)
range_tests order jobs n =
    (outside 1 order (value_of n), 8)
    ∷ (leb 16 jobs, 7)
    ∷ []

abbrev pub job_tests : ℕ → ℕ → Token → Token → List (Bool × ℕ)
job_tests order jobs n a =
    (not (is_numeral n), 14)
    ∷ (not (is_name a), 14)
    ∷ (is_over n, 15)
    ∷ range_tests order jobs n

abbrev pub row_tests : Algebra → ℕ → List Token → List (Bool × ℕ)
row_tests a size ts =
    (any no_word ts, 14)
    ∷ (any (over_in a) ts, 15)
    ∷ (not (eqb (length ts) size), 16)
    ∷ (any_above (top_of a) (map (word_of a) ts), 5)
    ∷ []

abbrev pub list_end_tests : ℕ → List (Bool × ℕ)
list_end_tests jobs = (eqb jobs 0, 7) ∷ []

module _ {A : Type 0} where
  abbrev pub by_due : A → A → A → A → A → Due → A
  by_due l j r c n due.List = l
  by_due l j r c n due.Job = j
  by_due l j r c n due.Row = r
  by_due l j r c n due.Close = c
  by_due l j r c n due.Nothing = n

-- A number for each form that may be due: the list, a job or the list's end, a row, a job's end. "17 any line after the end".
abbrev pub for_due : Due → ℕ → ℕ → ℕ → ℕ → ℕ
for_due d l j r c = by_due l j r c 17 d

-- The number of a line's refusal, 0 for none.
abbrev pub tests : Progress → Form → ℕ
tests p (list n) = for_due p.due (first 0 (list_tests n)) 14 14 14
tests p (job n a) = for_due p.due 14 (first 0 (job_tests p.order (length p.sizes) n a)) 14 14
tests p (row ts) = for_due p.due 14 14 (first 0 (row_tests p.algebra p.size ts)) 14
tests p close = for_due p.due 14 (first 0 (list_end_tests (length p.sizes))) 14 0
tests p unknown = for_due p.due 14 14 14 14
tests p skipped = 0

-- "Forms in order: .. per job .., then n lines `(row w ..)` of n words, then `)`; at the end `)`." K8: "`(list N` and `(job n A`".
abbrev pub due_after_row : ℕ → Due
due_after_row left = cond (leb left 1) due.Close due.Row

abbrev pub due_after_close : Due → Due
due_after_close = by_due due.Nothing due.Nothing due.Nothing due.Job due.Nothing

-- What has been read after a form that is not refused.
abbrev pub after : Progress → Form → Progress
after p (list n) = progress due.Job (value_of n) p.algebra 0 0 p.algebras p.sizes p.weights
after p (job n a) =
    progress due.Row p.order (algebra_named a) (value_of n) (value_of n) (p.algebras ++ (number_of (algebra_named a) ∷ []))
    (p.sizes ++ (value_of n ∷ [])) p.weights
after p (row ts) =
    progress (due_after_row p.left) p.order p.algebra p.size (p.left - 1) p.algebras p.sizes
    (p.weights ++ map (word_of p.algebra) ts)
after p close = progress (due_after_close p.due) p.order p.algebra p.size p.left p.algebras p.sizes p.weights
after p unknown = p
after p skipped = p

pub data Step : Type 0 where
  go : Progress → Step
  stop : ℕ → Step

abbrev pub proceed : ℕ → Progress → Step
proceed zero p = go p
proceed (suc k) p = stop (suc k)

unfoldable pub step : Progress → Form → Step
step p f = proceed (tests p f) (after p f)
