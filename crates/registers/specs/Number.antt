-- The window for other languages: its eight bytes as one number of 64 bits, byte 0 the lowest.
use Rattle.std.specs.Prelude.{ℕ, ◌+◌, ◌*◌, ◌/◌, ◌%◌, ◌≡◌, List, [], ◌∷◌, cond, eqb}
use Rattle.registers.specs.Registers.{Registers, bytes_of}
use Rattle.registers.specs.Writing.{Written}

-- A number from its bytes, the lowest first.
abbrev pub from_bytes : List ℕ → ℕ
from_bytes [] = 0
from_bytes (b ∷ bytes) = b + 256 * from_bytes bytes

abbrev pub value_of : Registers → ℕ
value_of w = from_bytes (bytes_of w)

-- Done is bit 1 of byte 1, the tick bytes 2 and 3, the allowance bytes 4 and 5, the number byte 6, enable bit 0 of byte 7. Other bits are ignored.
abbrev pub registers_in : ℕ → Registers
registers_in value = record {
  done = eqb (value / 512 % 2) 1;
  tick = value / 65536 % 65536;
  allowance = value / 4294967296 % 65536;
  number = value / 281474976710656 % 256;
  enable = eqb (value / 72057594037927936 % 2) 1;
}

-- What a write leaves whose window is a lent number: a refused one leaves that as it was.
pub record WriteStored (due : Written) (number value value' : ℕ) (state scratch results : List ℕ) : Type 0 where
  pub outcome : number ≡ due.number
  pub window_after_lem : value' ≡ cond (eqb due.number 0) (value_of due.window) value
  pub state_after : state ≡ due.state
  pub scratch_after : scratch ≡ due.scratch
  pub results_after : results ≡ due.results
