-- Request K10: "An offset above 7 is 25, and a write to a read-only byte is 26, tested after it." Read both ways, of the number that a call answers.
use Rattle.std.specs.Prelude.{ℕ, ◌<◌, ◌≡◌, List}
use Rattle.refusals.specs.Conditions.{otherwise, test, Exactly}
use Rattle.registers.specs.Registers.{Registers}
use Rattle.registers.specs.Reading.{ReadGiven}
use Rattle.registers.specs.Writing.{Lent, written, WriteLeft}

abbrev pub ReadRefusals : Type 0
ReadRefusals =
    (number byte : ℕ) (w : Registers) (offset : ℕ) → ReadGiven number byte w offset → Exactly (test (7 < offset) 25 otherwise) number

-- "Byte 1 STATUS, read only", "Bytes 2 and 3, read only", "Byte 6, read only"
pub data ReadOnlyByte : ℕ → Type 0 where
  status : ReadOnlyByte 1
  tick_low : ReadOnlyByte 2
  tick_high : ReadOnlyByte 3
  last_number : ReadOnlyByte 6

abbrev pub WriteRefusals : Type 0
WriteRefusals =
    (w : Registers) (offset byte : ℕ) (m : Lent) (number : ℕ) (w' : Registers) (state scratch results : List ℕ)
    → WriteLeft (written w offset byte m) number w' state scratch results
    → Exactly (test (7 < offset) 25 (test (ReadOnlyByte offset) 26 otherwise)) number

-- A refused write leaves all as it was.
pub record WriteKept (w : Registers) (m : Lent) (w' : Registers) (state scratch results : List ℕ) : Type 0 where
  pub window_kept : w' ≡ w
  pub state_kept : state ≡ m.state
  pub scratch_kept : scratch ≡ m.scratch
  pub results_kept : results ≡ m.results

abbrev pub WriteKeptClaim : Type 0
WriteKeptClaim =
    (w : Registers) (offset byte : ℕ) (m : Lent) (number : ℕ) (w' : Registers) (state scratch results : List ℕ)
    → WriteLeft (written w offset byte m) number w' state scratch results
    → (number ≡ 0 → ⊥) → WriteKept w m w' state scratch results
