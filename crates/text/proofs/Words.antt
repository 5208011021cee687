-- A word as it is shown: `-` where it is the none word.
use Prim.Native.Nat.{ℕ, ◌≤◌}
use native.Mathlib.Omega.{arith}
use mathlib.Core.Bool.{Bool, true, false, cond}
use lib.ListN.{length}
use lib.Dec.{eqb}
use Rattle.text.specs.Ascii.{ascii}
use Rattle.text.specs.Numeral.{shown}
use Rattle.text.proofs.Numerals.{numeral_most}

pub unless_length : (word none : ℕ) → length (cond (eqb word none) (ascii "-") (shown word)) ≤ 5
unless_length word none = by (eqb word none)
  where
    by : (b : Bool) → length (cond b (ascii "-") (shown word)) ≤ 5
    by true = omega arith
    by false = numeral_most 5 word
