-- What lies between does so by number, and no table does where a link is inverted.
use Prim.Native.Nat.{ℕ, ◌<◌, ◌≤◌, ◌+◌, ◌*◌}
use native.Mathlib.Decide.{ℕ_discrete, dec_le}
use native.Mathlib.Omega.{arith}
use mathlib.Core.Path.{◌≡◌, refl, ◌∙◌}
use mathlib.Core.List.{List, ◌++◌}
use mathlib.Core.Bool.{Bool, true, false, cond}
use lib.ListN.{get_or}
use Rattle.refusals.specs.Tests.{first}
use Rattle.refusals.proofs.First.{none_applied, first_before, first_after, first_most, bounded}
use Rattle.semiring.specs.Algebra.{Word, top_of}
use Rattle.semiring.specs.declared.Algebra.{Algebra}
use Rattle.semiring.specs.declared.Algebra.TheVariants.{Reach, Distance, Steepest}
use Rattle.semiring.proofs.Above.{none_above, words_below}
use Rattle.semiring.proofs.Betters.{unbettered_good}
use Rattle.semiring.proofs.Order.{good_trans, not_bettered}
use Rattle.closure.specs.Tests.{elimination_table}
use Rattle.closure.proofs.Accepted.{Accepted, clear_accepted}
use Rattle.ranges.specs.Between.{Between, TableBetween, Inverted}
use Rattle.ranges.specs.Tests.{inverted, inversion_table, range_tests}
use Rattle.ranges.specs.claims.Between.{Within, BetweenExactlyClaim, TablesExactly, RangeEmpty}
use Rattle.ranges.proofs.Inverted.{decides_inverted}
use Rattle.std.specs.Prelude.{Some as Known}

-- no word outside a table either: there it reads as 0
pub between_words : {a : Algebra} {n : ℕ} {best worst w : List ℕ} → TableBetween a n best worst w → (p : ℕ) → Word a (get_or w p 0)
between_words {a} {w = w} between = words_below (top_of a) w (none_above (top_of a) w between.words)

within_between : (a : Algebra) (best worst x : ℕ) → Within a best worst x → Between a best worst x
within_between Reach best worst x (low, high) = record { best_holds = λ (d, e). d (omega arith); worst_holds = λ (d, e). d (omega arith) }
within_between Distance best worst x (low, high) = record { best_holds = λ (d, e). d (omega arith); worst_holds = λ (d, e). d (omega arith) }
within_between Steepest best worst x (low, high) = record { best_holds = λ (d, e). d (omega arith); worst_holds = λ (d, e). d (omega arith) }

-- what is not greater is at most the other
at_most : (x y : ℕ) → (y < x → ⊥) → x ≤ y
at_most x y f = elim (dec_le x y) [ yes h ↦ h | no h ↦ absurd (f (omega arith)) ]

between_within : (a : Algebra) (best worst x : ℕ) → Between a best worst x → Within a best worst x
between_within Reach best worst x b = (
  at_most worst x (λ h. b.worst_holds ((λ e. omega arith), omega arith)),
  at_most x best (λ h. b.best_holds ((λ e. omega arith), omega arith)),
)
between_within Distance best worst x b = (
  at_most best x (λ h. b.best_holds ((λ e. omega arith), omega arith)),
  at_most x worst (λ h. b.worst_holds ((λ e. omega arith), omega arith)),
)
between_within Steepest best worst x b = (
  at_most best x (λ h. b.best_holds ((λ e. omega arith), omega arith)),
  at_most x worst (λ h. b.worst_holds ((λ e. omega arith), omega arith)),
)

pub between_exactly : BetweenExactlyClaim
between_exactly a best worst x = record { is = between_within a best worst x; any = within_between a best worst x }

pub tables_exactly : TablesExactly
tables_exactly a n best worst w = record {
  is = λ between.
      record {
        size = between.size;
        words = λ p h. between_words between p;
        links = λ i j hi hj d. between_within a _ _ _ (between.links i j hi hj d);
      };
  any = λ within.
      record {
        size = within.size;
        words = λ p h. within.words p (rw within.size at h);
        links = λ i j hi hj d. within_between a _ _ _ (within.links i j hi hj d);
      };
}

-- Where the answer is 24, both tables passed and a link is inverted.
inverted_call : (a : Algebra) (n : ℕ) (best worst r s : List ℕ) → 24 ≡ range_tests (Known a) n best worst r s
    → Accepted a n best r × Accepted a n worst s × Inverted a n best worst
inverted_call a n best worst r s e =
    let us = elimination_table a n worst s ++ inversion_table a n best worst in
    let one : first 0 (elimination_table a n best r) ≡ 0 = few (elimination_table a n best r) us refl e in
    let c = none_applied (elimination_table a n best r) refl one in
    let e' : ◌≡◌ {A = ℕ} 24 (first 0 us) = e ∙ first_after (elimination_table a n best r) us c in
    let two : first 0 (elimination_table a n worst s) ≡ 0 = few (elimination_table a n worst s) (inversion_table a n best worst) refl e' in
    let d = none_applied (elimination_table a n worst s) refl two in
    let e'' : ◌≡◌ {A = ℕ} 24 (cond (inverted a n best worst) 24 0) = e' ∙ first_after (elimination_table a n worst s) (inversion_table a n best worst) d in
    (clear_accepted c, clear_accepted d, (decides_inverted a n best worst).yes (is (inverted a n best worst) e''))
  where
    few : (ts us : List (Bool × ℕ)) → bounded 5 ts ≡ true → 24 ≡ first 0 (ts ++ us) → first 0 ts ≡ 0
    few ts us b e =
        elim (ℕ_discrete (first 0 ts) 0) [
          | yes z ↦ z
          | no some ↦ let k = first_before ts us some in let m = first_most 5 ts b in absurd (omega arith)
        ]

    is : (b : Bool) → ◌≡◌ {A = ℕ} 24 (cond b 24 0) → b ≡ true
    is true e = refl
    is false e = absurd (omega arith)

pub range_empty : RangeEmpty
range_empty algebra n best worst r s r' s' given a known w between =
    let (first, second, (i, j, hi, hj, d, b)) = inverted_call a n best worst r s (rw known at given.outcome) in
    let p = i * n + j in
    let words = between_words between in
    not_bettered {a = a}
    (good_trans (unbettered_good (first.words p) (words p) (between.links i j hi hj d).best_holds)
    (unbettered_good (words p) (second.words p) (between.links i j hi hj d).worst_holds))
    b
