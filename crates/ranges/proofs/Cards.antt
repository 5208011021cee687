-- The cards of request K9, by computation.
use Prim.Native.Nat.{ℕ, ◌*◌}
use native.Mathlib.Omega.{arith}
use mathlib.Core.Path.{◌≡◌, refl}
use mathlib.Core.List.{List}
use mathlib.Core.Bool.{false}
use lib.ListN.{length}
use Rattle.memory.specs.Lists.{list_of, any}
use Rattle.closure.specs.Elimination.{passes, closure, eliminated}
use Rattle.ranges.specs.Tests.{some_below, inverted}
use Rattle.ranges.specs.Between.{TableBetween}
use Rattle.ranges.specs.claims.Cards.{RangeCards, quick, slow, lift, pair}
use Rattle.semiring.specs.Algebra.{top_of}
use Rattle.semiring.specs.Words.{any_above}
use Rattle.semiring.specs.declared.Algebra.{Algebra}
use Rattle.semiring.specs.declared.Algebra.TheVariants.{Reach, Distance}
use Rattle.semiring.proofs.Above.{words_below}
use Rattle.ranges.proofs.Inverted.{decides_inverted}

-- A table found to lie between two others, by their tests.
between : (a : Algebra) (n : ℕ) (best worst w : List ℕ) → length w ≡ n * n → any_above (top_of a) w ≡ false
    → inverted a n best w ≡ false → inverted a n w worst ≡ false → TableBetween a n best worst w
between a n best worst w size words best_order worst_order = record {
  size = size;
  words = λ p h. words_below (top_of a) w words p;
  links = λ i j hi hj d.
      record {
        best_holds = λ b. (decides_inverted a n best w).no best_order (i, j, hi, hj, d, b);
        worst_holds = λ b. (decides_inverted a n w worst).no worst_order (i, j, hi, hj, d, b);
      };
}

pub range_cards : RangeCards
unfolding list_of any passes closure eliminated some_below inverted
range_cards = record {
  taken = refl;
  given = record { outcome = refl; best_memory = refl; worst_memory = refl };
  inside = between Distance 3 quick slow (lift 4) refl refl refl refl;
  above = λ between. (between.links 0 1 (omega arith) (omega arith) (λ e. omega arith)).worst_holds ((λ e. omega arith), refl);
  under = λ between. (between.links 0 1 (omega arith) (omega arith) (λ e. omega arith)).best_holds ((λ e. omega arith), refl);
  exchanged = record { outcome = refl; best_memory = refl; worst_memory = refl };
  steepest = (refl, refl);
  itself = (refl, refl);
  unneeded = refl;
  reach_taken = refl;
  reach_exchanged = refl;
  reach_inside = between Reach 2 (pair 1 0 0) (pair 0 0 1) (pair 1 0 1) refl refl refl refl;
  reach_under = λ between. (between.links 0 1 (omega arith) (omega arith) (λ e. omega arith)).worst_holds ((λ e. omega arith), refl);
  reach_above = λ between. (between.links 1 0 (omega arith) (omega arith) (λ e. omega arith)).best_holds ((λ e. omega arith), refl);
  unknown = refl;
  size = refl;
  best_short = refl;
  best_result_short = refl;
  best_above = record { outcome = refl; best_memory = refl; worst_memory = refl };
  worst_short = refl;
  worst_result_short = record { outcome = refl; best_memory = refl; worst_memory = refl };
  worst_above = refl;
}
