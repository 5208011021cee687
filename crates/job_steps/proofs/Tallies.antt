-- What is counted among the words of a row gives the row's tests.
use Prim.Native.Nat.{ℕ, suc, ◌+◌}
use native.Mathlib.Nat.{add-zero, zero-add}
use native.Mathlib.Omega.{arith}
use mathlib.Core.Path.{◌≡◌, refl, sym, ◌∙◌}
use mathlib.Core.List.{List, [], ◌∷◌, map}
use mathlib.Core.Bool.{Bool, true, false, ◌||◌}
use lib.ListN.{length}
use lib.Dec.{ltb}
use Rattle.semiring.specs.Algebra.{top_of}
use Rattle.semiring.specs.declared.Algebra.{Algebra}
use Rattle.memory.specs.Lists.{any}
use Rattle.refusals.specs.Tests.{first}
use Rattle.semiring.specs.Words.{any_above}
use Rattle.job_form.specs.declared.tokens.Token.{Token}
use Rattle.job_form.specs.declared.rows.Tally.{Tally}
use Rattle.job_form.specs.Words.{word_of, over_in, no_word}
use Rattle.job_reading.specs.Steps.{row_tests}
use Rattle.job_form.specs.inner.Tallies.{no_tally, counted, tallied}
use Rattle.job_steps.specs.inner.Tallies.{tally_tests}

or-false : (b : Bool) → b ≡ (b || false)
or-false true = refl
or-false false = refl

or_assoc : (a b c : Bool) → ((a || b) || c) ≡ (a || (b || c))
or_assoc true b c = refl
or_assoc false b c = refl

abbrev found : Algebra → Tally → List Token → Tally
found a c ts = record {
  other = c.other || any no_word ts;
  over = c.over || any (over_in a) ts;
  above = c.above || any_above (top_of a) (map (word_of a) ts);
  count = c.count + length ts;
}

tallied_found : (a : Algebra) (c : Tally) (ts : List Token) → tallied a c ts ≡ found a c ts
unfolding tallied any
tallied_found a c [] = λ i. record {
  other = or-false c.other i;
  over = or-false c.over i;
  above = or-false c.above i;
  count = sym (add-zero c.count) i;
}
tallied_found a c (t ∷ ts) =
    let e : c.count + 1 + length ts ≡ c.count + suc (length ts) = omega arith in
    tallied_found a (counted a c t) ts
    ∙ (λ i. record {
      other = or_assoc c.other (no_word t) (any no_word ts) i;
      over = or_assoc c.over (over_in a t) (any (over_in a) ts) i;
      above = or_assoc c.above (ltb (top_of a) (word_of a t)) (any_above (top_of a) (map (word_of a) ts)) i;
      count = e i;
    })

pub tally_tests_lem : (a : Algebra) (size : ℕ) (ts : List Token) → first 0 (tally_tests (tallied a no_tally ts) size) ≡ first 0 (row_tests a size ts)
tally_tests_lem a size ts = rw (tallied_found a no_tally ts, zero-add (length ts))
