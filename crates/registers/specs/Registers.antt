-- Request K10, "The card's register window": what the eight bytes hold and read.
use Rattle.std.specs.Prelude.{ℕ, ◌+◌, ◌*◌, ◌/◌, ◌%◌, List, [], ◌∷◌, Bool, false, cond, not, ◌&&◌, eqb}

-- Byte 1: "done". Bytes 2 and 3: "the state's tick after the last accepted run". Bytes 4 and 5: "allowance". Byte 6: "the last run's
-- refusal number, 0 if none", so that the last run was refused where it is not 0. Byte 7: "interrupt enable".
pub record Registers : Type 0 where
  pub done : Bool
  pub tick : ℕ
  pub allowance : ℕ
  pub number : ℕ
  pub enable : Bool

-- "A new window holds 0 throughout."
abbrev pub reset : Registers
reset = record { done = false; tick = 0; allowance = 0; number = 0; enable = false }

-- A byte with the bit of this weight, where it is set.
abbrev pub bit : Bool → ℕ → ℕ
bit set weight = cond set weight 0

-- "low byte first"
abbrev pub low_byte : ℕ → ℕ
low_byte word = word % 256

abbrev pub high_byte : ℕ → ℕ
high_byte word = word / 256

abbrev pub word_of : ℕ → ℕ → ℕ
word_of low high = low + 256 * high

-- "Byte 1 STATUS, read only: bit 1 done, .. bit 7 last run refused."
abbrev pub status_byte : Registers → ℕ
status_byte w = bit w.done 2 + bit (not (eqb w.number 0)) 128

-- "Byte 0 CONTROL .. reads as 0. Byte 1 STATUS .. Bytes 2 and 3 .. tick .., low byte first. Bytes 4 and 5: allowance, low byte first. Byte 6 ..
-- the last run's refusal number, 0 if none. Byte 7: bit 0 interrupt enable." "Other bits read as 0"
abbrev pub bytes_of : Registers → List ℕ
bytes_of w =
    0
    ∷ status_byte w
    ∷ low_byte w.tick
    ∷ high_byte w.tick
    ∷ low_byte w.allowance
    ∷ high_byte w.allowance
    ∷ w.number
    ∷ bit w.enable 1
    ∷ []

-- "The interrupt line is up exactly when done and enable are both set."
abbrev pub interrupt_of : Registers → Bool
interrupt_of w = w.done && w.enable
