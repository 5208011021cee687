-- Request K6, "Reach and distance must tell one story": "for each table a reach entry is 1 exactly when the distance entry is not none, if
-- the reach table has 1 off the diagonal exactly where the distance table is not none. The same is wanted for steepest." Here of the
-- elimination.
use Rattle.std.specs.Prelude.{ℕ, ◌+◌, ◌*◌, ◌<◌, ◌≡◌, ◌≢◌, List, map, get_or}
use Rattle.semiring.specs.Algebra.{none_word_of}
use Rattle.semiring.specs.Named.{named_of, number_of}
use Rattle.semiring.specs.declared.Algebra.{Algebra}
use Rattle.semiring.specs.declared.Algebra.TheVariants.{Reach}
use Rattle.closure.specs.Table.{entries}
use Rattle.closure.specs.Elimination.{closure}
use Rattle.closure.specs.Tests.{elimination_tests, result_after}
use Rattle.job_list.specs.Jobs.{count, size, algebra, job_weights, jobs_of}
use Rattle.systolic.specs.Start.{start_tests}
use Rattle.homomorphism.specs.Support.{support}
use Rattle.std.specs.Prelude.{Some as Known}

-- The reach word x is 1 exactly when y, a word of the algebra a, is not none.
pub record Agree (a : Algebra) (x y : ℕ) : Type 0 where
  pub one : x ≡ 1 → y ≢ none_word_of a
  pub some : y ≢ none_word_of a → x ≡ 1

-- "the reach table has 1 off the diagonal exactly where the distance table is not none". What stands on the diagonals is free.
abbrev pub SameLinks : Algebra → ℕ → List ℕ → List ℕ → Type 0
SameLinks a n reach w = (i j : ℕ) → i < n → j < n → i ≢ j → Agree a (entries n reach i j) (entries n w i j)

-- A table of n points that the elimination's checks accept, or Start's as a job of its list.
pub data Checked (a : Algebra) (n : ℕ) (w : List ℕ) : Type 0 where
  by_elimination : (r : List ℕ) → elimination_tests (Known a) n w r ≡ 0 → Checked a n w
  by_start : (algebras : List ℕ) (order : ℕ) (sizes weights state : List ℕ) → start_tests algebras order sizes weights state ≡ 0
      → (q : ℕ) → q < count (jobs_of algebras order sizes weights) → a ≡ algebra (jobs_of algebras order sizes weights) q
      → n ≡ size (jobs_of algebras order sizes weights) q → w ≡ job_weights (jobs_of algebras order sizes weights) q
      → Checked a n w

-- Over all algebras, so of distance and of steepest.
abbrev pub Agreement : Type 0
Agreement =
    (a : Algebra) (n : ℕ) (reach w : List ℕ) → Checked Reach n reach → Checked a n w → SameLinks a n reach w
    → (i j : ℕ) → i < n → j < n → Agree a (closure Reach n reach i j) (closure a n w i j)

-- The same of the words that two accepted calls leave in their results, in reach and in the algebra of any number.
abbrev pub AgreementResult : Type 0
AgreementResult =
    (number n : ℕ) (reach w r s : List ℕ)
    → elimination_tests (named_of (number_of Reach)) n reach r ≡ 0
    → elimination_tests (named_of number) n w s ≡ 0
    → (a : Algebra) × (named_of number ≡ Known a)
    × (SameLinks a n reach w
    → (i j : ℕ) → i < n → j < n
    → Agree a
    (get_or (result_after (named_of (number_of Reach)) n reach r) (i * n + j) 0)
    (get_or (result_after (named_of number) n w s) (i * n + j) 0))

-- Every table that the elimination accepts has a reach table with the same links, which it accepts too: the support of its words.
abbrev pub SameLinksFound : Type 0
SameLinksFound =
    (a : Algebra) (n : ℕ) (w r : List ℕ) → elimination_tests (Known a) n w r ≡ 0
    → (elimination_tests (Known Reach) n (map (support a) w) r ≡ 0) × SameLinks a n (map (support a) w) w
