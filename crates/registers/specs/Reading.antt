-- Request K10: what a read answers.
use Rattle.std.specs.Prelude.{ℕ, ◌≡◌, [], ◌∷◌, cond, get_or, eqb, ltb}
use Rattle.refusals.specs.Tests.{first}
use Rattle.registers.specs.Registers.{Registers, bytes_of}

-- "An offset above 7 is 25"
abbrev pub read_tests : ℕ → ℕ
read_tests offset = first 0 ((ltb 7 offset, 25) ∷ [])

-- The byte at an offset, 0 where there is none.
abbrev pub byte_at : Registers → ℕ → ℕ
byte_at w offset = get_or (bytes_of w) offset 0

-- The number (0 for none) and the byte that a read gives.
pub record ReadGiven (number byte : ℕ) (w : Registers) (offset : ℕ) : Type 0 where
  pub outcome : number ≡ read_tests offset
  pub given : byte ≡ byte_at w offset

-- The same where the byte goes to a lent place: `old` is what it held. A refusal leaves it as it was.
pub record ReadStored (number old byte : ℕ) (w : Registers) (offset : ℕ) : Type 0 where
  pub outcome : number ≡ read_tests offset
  pub stored : byte ≡ cond (eqb (read_tests offset) 0) (byte_at w offset) old
