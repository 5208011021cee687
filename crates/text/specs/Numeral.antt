-- Decimal numerals, read and printed.
use Rattle.std.specs.Prelude.{ℕ, zero, suc, ◌+◌, ◌*◌, ◌-◌, ◌/◌, ◌%◌, List, [], ◌∷◌, ◌++◌, Bool, true, cond, not, ◌&&◌, ◌||◌, length, ltb, Option, None, Some}

-- Document 01: "a numeral is a run of digits": bytes 48 to 57.
unfoldable pub digits : List ℕ → Bool
digits [] = true
digits (b ∷ p) = not (ltb b 48 || ltb 57 b) && digits p

-- The number of decimal digits that follow those of v.
unfoldable pub decimal : ℕ → List ℕ → ℕ
decimal v [] = v
decimal v (b ∷ bytes) = decimal (10 * v + (b - 48)) bytes

-- A numeral of at most `long` digits and at most `most`; leading zeros count as digits.
abbrev pub numeral_of : ℕ → ℕ → List ℕ → Option ℕ
numeral_of long most p = cond (ltb long (length p) || ltb most (decimal 0 p)) None (Some (decimal 0 p))

-- Document 01: "Printed numbers have no leading zeros." The last `most` decimal digits of n, with no zero before the first that isn't one.
unfoldable pub numeral : ℕ → ℕ → List ℕ
numeral zero n = []
numeral (suc most) n = cond (ltb n 10) ((48 + n) ∷ []) (numeral most (n / 10) ++ ((48 + n % 10) ∷ []))

-- No number that is printed has more than 5 digits: the largest is the line 65536.
abbrev pub shown : ℕ → List ℕ
shown = numeral 5
