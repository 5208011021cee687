-- The number that a host holds is the window: nothing is lost between two calls.
use Rattle.std.specs.Prelude.{ℕ, ◌≤◌, ◌≡◌}
use Rattle.registers.specs.Registers.{Registers, reset}
use Rattle.registers.specs.Writing.{Lent, Written, written}
use Rattle.registers.specs.Number.{registers_in, value_of}

-- A window whose registers fit their bytes.
pub record InBytes (w : Registers) : Type 0 where
  pub tick : w.tick ≤ 65535
  pub allowance : w.allowance ≤ 65535
  pub number : w.number ≤ 255

abbrev pub HeldInANumber : Type 0
HeldInANumber = (w : Registers) → InBytes w → registers_in (value_of w) ≡ w

-- The new window is such a one, every number holds such a one, and a write of a byte leaves one.
pub record StaysInBytes : Type 0 where
  pub new : InBytes reset
  pub new_is_0 : value_of reset ≡ 0
  pub any_number : (value : ℕ) → InBytes (registers_in value)
  pub after_write : (w : Registers) (offset byte : ℕ) (m : Lent) → InBytes w → byte ≤ 255 → InBytes (written w offset byte m).window
