-- Closed reach agrees with another algebra: a reach word agrees with a word exactly when it is that word's support, and the support
-- commutes with the elimination.
use Prim.Native.Nat.{ℕ, ◌≤◌, ◌<◌, ◌+◌, ◌*◌}
use native.Mathlib.Omega.{arith}
use native.Mathlib.Decide.{ℕ_discrete}
use mathlib.Core.Path.{◌≡◌, refl, sym, ◌∙◌}
use mathlib.Core.List.{List}
use lib.ListN.{get_or}
use Rattle.semiring.specs.Algebra.{Word, none_word_of}
use Rattle.semiring.specs.Named.{named_of}
use Rattle.semiring.specs.declared.Algebra.{Algebra}
use Rattle.semiring.specs.declared.Algebra.TheVariants.{Reach}
use Rattle.closure.specs.Elimination.{closure}
use Rattle.closure.specs.Tests.{elimination_tests, result_after}
use Rattle.closure.proofs.Accepted.{Accepted, accepted, accepted_result}
use Rattle.closure.proofs.Equations.{eliminated_closure}
use Rattle.closure.proofs.Holds.{row_by_row_holds}
use Rattle.systolic.proofs.Started.{started_by}
use Rattle.homomorphism.specs.Support.{support}
use Rattle.homomorphism.specs.claims.Agreement.{Agree, SameLinks, Checked, by_elimination, by_start, Agreement, AgreementResult}
use Rattle.homomorphism.proofs.Commutes.{commutes}
use Rattle.homomorphism.proofs.Support.{support_none, support_some, support_kept}
use Rattle.std.specs.Prelude.{Option, Some as Known, None as Unknown}

module _ (a : Algebra) {x y : ℕ} where
  pub support_agrees : x ≡ support a y → Agree a x y
  support_agrees e = record {
    one = λ u d. let z : x ≡ 0 = e ∙ support_none a d in omega arith;
    some = λ d. e ∙ support_some a d;
  }

  agrees_support : x ≤ 1 → Agree a x y → x ≡ support a y
  agrees_support h agree =
      elim (ℕ_discrete y (none_word_of a)) [
        | yes e ↦
            elim (ℕ_discrete x 1) [
              | yes u ↦ absurd (agree.one u e)
              | no u ↦ let z : x ≡ 0 = omega arith in z ∙ sym (support_none a e)
            ]
        | no d ↦ agree.some d ∙ sym (support_some a d)
      ]

-- Of any two tables of words.
closure_agrees : (a : Algebra) (n : ℕ) (reach w : List ℕ) → ((p : ℕ) → Word Reach (get_or reach p 0)) → ((p : ℕ) → Word a (get_or w p 0))
    → SameLinks a n reach w → (i j : ℕ) → i < n → j < n → Agree a (closure Reach n reach i j) (closure a n w i j)
closure_agrees a n reach w reach_words words same i j hi hj =
    support_agrees a
    (commutes a Reach (support a) (support_kept a) n w reach words
    (λ i j hi hj d. agrees_support a (reach_words (i * n + j)) (same i j hi hj d))
    i j hi hj)

checked_words : {a : Algebra} {n : ℕ} {w : List ℕ} → Checked a n w → (p : ℕ) → Word a (get_or w p 0)
checked_words {a} {n} {w} (by_elimination r e) p = let input : Accepted a n w r = accepted e in input.words p
checked_words (by_start algebras order sizes weights state e q h algebra-is size_is weights_are) p =
    rw (algebra-is, weights_are) ((started_by algebras order sizes weights state e).words q p)

pub agreement : Agreement
agreement a n reach w checked checked' = closure_agrees a n reach w (checked_words checked) (checked_words checked')

result_agrees : (d : Option Algebra) (n : ℕ) (reach w r s : List ℕ)
    → elimination_tests (Known Reach) n reach r ≡ 0 → elimination_tests d n w s ≡ 0
    → (a : Algebra) × (d ≡ Known a)
    × (SameLinks a n reach w
    → (i j : ℕ) → i < n → j < n
    → Agree a (get_or (result_after (Known Reach) n reach r) (i * n + j) 0) (get_or (result_after d n w s) (i * n + j) 0))
result_agrees Unknown n reach w r s e f = absurd (omega arith)
result_agrees (Known a) n reach w r s e f = (
  a,
  refl,
  λ same i j hi hj.
      rw (
        accepted_result Reach n reach r e,
        accepted_result a n w s f,
        eliminated_closure Reach n reach,
        eliminated_closure a n w,
        (row_by_row_holds n (closure Reach n reach)).word i j hi hj,
        (row_by_row_holds n (closure a n w)).word i j hi hj,
      )
      (agreement a n reach w (by_elimination r e) (by_elimination s f) same i j hi hj),
)

pub agreement_result : AgreementResult
agreement_result number = result_agrees (named_of number)
