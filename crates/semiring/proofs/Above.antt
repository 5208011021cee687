-- A word above a bound is found exactly where there is one.
use Prim.Native.Nat.{ℕ, ◌<◌, ◌≤◌, zero-le}
use native.Mathlib.Decide.{dec_lt}
use native.Mathlib.Omega.{arith}
use mathlib.Core.Path.{◌≡◌, sym}
use mathlib.Core.Logic.{◌⊎◌, inl, inr}
use mathlib.Core.List.{List}
use mathlib.Core.Bool.{false, ◌||◌}
use lib.ListN.{length, get_or, get_or-eq_default}
use lib.Dec.{ltb}
use lib.Bits.{bit_or, or_add_and, and_le_l, and_le_r, or_lt}
use borrow.Author.Tests.{le-ltb, lt-ltb, ltb-false}
use Rattle.memory.proofs.Any.{none_any, any_none}
use Rattle.semiring.specs.Algebra.{top_of}
use Rattle.semiring.specs.Words.{any_above}
use Rattle.semiring.specs.declared.Algebra.{Algebra}
use Rattle.semiring.specs.declared.Algebra.TheVariants.{Distance, Steepest}

pub none_above : (top : ℕ) (w : List ℕ) → ((p : ℕ) → p < length w → get_or w p 0 ≤ top) → any_above top w ≡ false
none_above top w h = none_any (ltb top) w (λ p k. le-ltb top (get_or w p 0) (h p k))

-- Outside reach no 16-bit word is above the largest one.
pub none_outside_reach : (a : Algebra) (w : List ℕ) → (a ≡ Distance) ⊎ (a ≡ Steepest) → ((p : ℕ) → p < length w → get_or w p 0 ≤ 65535)
    → false ≡ any_above (top_of a) w
none_outside_reach a w (inl e) h = rw e (sym (none_above 65535 w h))
none_outside_reach a w (inr e) h = rw e (sym (none_above 65535 w h))

-- No word of the list is above, and neither is the default 0.
pub words_below : (top : ℕ) (w : List ℕ) → any_above top w ≡ false → (p : ℕ) → get_or w p 0 ≤ top
words_below top w e p = at (dec_lt p (length w))
  where
    at : Dec (p < length w) → get_or w p 0 ≤ top
    at (yes h) = ltb-false top (get_or w p 0) (any_none (ltb top) w e p h)
    at (no h) = rw (get_or-eq_default w 0 {n = p} (omega arith)) zero-le

-- Two words have a bit above the first exactly where one of them is above 1.
pub or_above : (x y : ℕ) → ltb 1 (bit_or x y) ≡ (ltb 1 x || ltb 1 y)
or_above x y = go (dec_lt 1 x) (dec_lt 1 y)
  where
    go : Dec (1 < x) → Dec (1 < y) → ltb 1 (bit_or x y) ≡ (ltb 1 x || ltb 1 y)
    go (yes h) d =
        let more : 1 < bit_or x y = omega (arith, or_add_and x y, and_le_r x y) in
        rw (lt-ltb 1 (bit_or x y) more, lt-ltb 1 x h)
    go (no h) (yes d) =
        let more : 1 < bit_or x y = omega (arith, or_add_and x y, and_le_l x y) in
        rw (lt-ltb 1 (bit_or x y) more, le-ltb 1 x (omega arith), lt-ltb 1 y d)
    go (no h) (no d) =
        let less : bit_or x y ≤ 1 = omega (arith, or_lt 1 x y (omega arith) (omega arith)) in
        rw (le-ltb 1 (bit_or x y) less, le-ltb 1 x (omega arith), le-ltb 1 y (omega arith))
