-- The numeral that is printed is the number's: what a reader of decimal digits makes of it, and no zero leads it.
use Rattle.std.specs.Prelude.{ℕ, ◌≤◌, ◌<◌, ◌≡◌, List, length, get_or}
use Rattle.text.specs.Numeral.{decimal, shown}

pub record NumeralOf (n : ℕ) (bytes : List ℕ) : Type 0 where
  pub some : 1 ≤ length bytes
  pub digits : (p : ℕ) → p < length bytes → (48 ≤ get_or bytes p 0) × (get_or bytes p 0 ≤ 57)
  pub value : decimal 0 bytes ≡ n
  pub no_leading_zero : 2 ≤ length bytes → 49 ≤ get_or bytes 0 0

abbrev pub Numerals : Type 0
Numerals = (n : ℕ) → n ≤ 99999 → NumeralOf n (shown n)
