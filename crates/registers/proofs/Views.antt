-- What a write is, by its offset.
use Prim.Native.Nat.{ℕ, zero, suc}
use native.Mathlib.Omega.{arith}
use mathlib.Core.Path.{◌≡◌, refl}
use mathlib.Core.Bool.{Bool, true, false}
use lib.Dec.{eqb}
use borrow.Author.Tests.{lt-ltb, ne_eqb}
use Rattle.registers.specs.Registers.{Registers, low_byte, high_byte, word_of}
use Rattle.registers.specs.Writing.{Lent, bit0, cleared_by, with_allowance, with_enable, only, run_shown, run_by, Written, controlled, written}

-- An offset whose write is refused.
pub record Refused (offset : ℕ) : Type 0 where
  pub not_control : eqb offset 0 ≡ false
  pub not_low : eqb offset 4 ≡ false
  pub not_high : eqb offset 5 ≡ false
  pub not_enable : eqb offset 7 ≡ false

pub data View (w : Registers) (byte : ℕ) (m : Lent) : ℕ → Written → Type 0 where
  runs : bit0 byte ≡ true → View w byte m 0 (run_shown (cleared_by w byte) m)
  clears : bit0 byte ≡ false → View w byte m 0 (only 0 (cleared_by w byte) m)
  low : View w byte m 4 (only 0 (with_allowance w (word_of byte (high_byte w.allowance))) m)
  high : View w byte m 5 (only 0 (with_allowance w (word_of (low_byte w.allowance) byte)) m)
  enables : View w byte m 7 (only 0 (with_enable w (bit0 byte)) m)
  refuses : (offset number : ℕ) → Refused offset → View w byte m offset (only (suc number) w m)

module _ (w : Registers) (byte : ℕ) (m : Lent) where
  by_bit : (b : Bool) → bit0 byte ≡ b → View w byte m 0 (controlled w byte m)
  unfolding controlled run_by
  by_bit true e = rw e (runs e)
  by_bit false e = rw e (clears e)

  refusing : (offset number : ℕ) → eqb offset 0 ≡ false → eqb offset 4 ≡ false → eqb offset 5 ≡ false → eqb offset 7 ≡ false
      → View w byte m offset (only (suc number) w m)
  refusing offset number a b c d = refuses offset number (record { not_control = a; not_low = b; not_high = c; not_enable = d })

  pub view : (offset : ℕ) → View w byte m offset (written w offset byte m)
  unfolding written
  view zero = by_bit (bit0 byte) refl
  view (suc zero) = refusing 1 25 refl refl refl refl
  view (suc (suc zero)) = refusing 2 25 refl refl refl refl
  view (suc (suc (suc zero))) = refusing 3 25 refl refl refl refl
  view (suc (suc (suc (suc zero)))) = low
  view (suc (suc (suc (suc (suc zero))))) = high
  view (suc (suc (suc (suc (suc (suc zero)))))) = refusing 6 25 refl refl refl refl
  view (suc (suc (suc (suc (suc (suc (suc zero))))))) = enables
  view (suc (suc (suc (suc (suc (suc (suc (suc n)))))))) =
      let offset : ℕ = suc (suc (suc (suc (suc (suc (suc (suc n))))))) in
      rw (lt-ltb 7 offset (omega arith))
      (refusing offset 24 (ne_eqb offset 0 (λ e. omega arith)) (ne_eqb offset 4 (λ e. omega arith)) (ne_eqb offset 5 (λ e. omega arith))
      (ne_eqb offset 7 (λ e. omega arith)))
