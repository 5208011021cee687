-- The number holds the window: each part by arithmetic. And the registers fit their bytes: the tick since no run goes past the total.
use Prim.Native.Nat.{ℕ, suc, ◌+◌, ◌*◌, ◌/◌, ◌%◌, ◌-◌, ◌≤◌}
use native.Mathlib.Omega.{arith}
use mathlib.Core.Path.{◌≡◌, refl, sym, ap, ◌∙◌}
use mathlib.Core.List.{◌∷◌}
use mathlib.Core.Bool.{Bool, true, false, cond, not}
use lib.Dec.{eqb}
use borrow.Author.Tests.{eqb-true}
use Rattle.systolic.specs.State.{tick_of}
use Rattle.systolic.specs.Run.{Ran}
use Rattle.systolic.proofs.Totals.{total_most}
use Rattle.systolic.proofs.Fit.{accepted_run_lem, number_most}
use Rattle.registers.specs.Registers.{Registers, bit, status_byte}
use Rattle.registers.specs.Writing.{Lent, ran_with, accepted, shown, cleared_by, run_shown, Written, written}
use Rattle.registers.specs.Number.{registers_in, value_of}
use Rattle.registers.specs.claims.Held.{InBytes, HeldInANumber, StaysInBytes}
use Rattle.registers.proofs.Views.{View, runs, clears, low, high, enables, refuses, view}

module _ (tick allowance number : ℕ) (fits_tick : tick ≤ 65535) (fits_allowance : allowance ≤ 65535) (fits_number : number ≤ 255) where
  abbrev value : ℕ → ℕ → ℕ
  value status enable =
      0 + 256 * (status + 256 * (tick % 256 + 256 * (tick / 256 + 256 * (allowance % 256 + 256 * (allowance / 256 + 256 * (number + 256 * (enable + 256 * 0)))))))

  module _ (status enable : ℕ) (small : status ≤ 255) (flag : enable ≤ 1) where
    tick_held : value status enable / 65536 % 65536 ≡ tick
    tick_held = omega arith

    allowance_held_lem : value status enable / 4294967296 % 65536 ≡ allowance
    allowance_held_lem = omega arith

    number_held : value status enable / 281474976710656 % 256 ≡ number
    number_held = omega arith

    enable_held_lem : value status enable / 72057594037927936 % 2 ≡ enable
    enable_held_lem = omega arith

    done_held : value status enable / 512 % 2 ≡ status / 2 % 2
    done_held = omega arith

set_bit : (b : Bool) → eqb (bit b 1) 1 ≡ b
set_bit true = refl
set_bit false = refl

flag_small : (b : Bool) → bit b 1 ≤ 1
flag_small true = omega arith
flag_small false = omega arith

status_small : (d r : Bool) → bit d 2 + bit r 128 ≤ 255
status_small true true = omega arith
status_small true false = omega arith
status_small false true = omega arith
status_small false false = omega arith

status_done : (d r : Bool) → (bit d 2 + bit r 128) / 2 % 2 ≡ bit d 1
status_done true true = refl
status_done true false = refl
status_done false true = refl
status_done false false = refl

same_window : (w v : Registers) → v.done ≡ w.done → v.tick ≡ w.tick → v.allowance ≡ w.allowance → v.number ≡ w.number → v.enable ≡ w.enable → v ≡ w
same_window w v a b c d e = λ i. record { done = a i; tick = b i; allowance = c i; number = d i; enable = e i }

pub held_in_a_number : HeldInANumber
held_in_a_number w f =
    let status : ℕ = status_byte w in
    let enable : ℕ = bit w.enable 1 in
    let small = status_small w.done (not (eqb w.number 0)) in
    let flag = flag_small w.enable in
    same_window w (registers_in (value_of w))
    (ap (λ (n : ℕ). eqb n 1)
    (done_held w.tick w.allowance w.number f.tick f.allowance f.number status enable small flag
    ∙ status_done w.done (not (eqb w.number 0)))
    ∙ set_bit w.done)
    (tick_held w.tick w.allowance w.number f.tick f.allowance f.number status enable small flag)
    (allowance_held_lem w.tick w.allowance w.number f.tick f.allowance f.number status enable small flag)
    (number_held w.tick w.allowance w.number f.tick f.allowance f.number status enable small flag)
    (ap (λ (n : ℕ). eqb n 1) (enable_held_lem w.tick w.allowance w.number f.tick f.allowance f.number status enable small flag)
    ∙ set_bit w.enable)

-- The registers after a run.
module _ (w : Registers) (m : Lent) (fits : InBytes w) where
  abbrev one : Ran
  one = ran_with w.allowance m

  tick_fits : (b : Bool) → accepted one ≡ b → cond b (tick_of one.state) w.tick ≤ 65535
  tick_fits true e =
      let a = accepted_run_lem m.state m.jobs.algebras m.jobs.sizes m.jobs.weights w.allowance m.scratch m.results
      (eqb-true one.number 0 e) in
      let most = total_most a.ranged.most a.ranged.few in
      omega (arith, a.tick, a.within, most)
  tick_fits false e = fits.tick

  run_fits : InBytes (shown w one)
  run_fits = record {
    tick = tick_fits (accepted one) refl;
    allowance = fits.allowance;
    number =
        let most = number_most m.state m.jobs.algebras m.jobs.sizes m.jobs.weights w.allowance m.scratch m.results in
        omega (arith, most);
  }

cleared_fits : (w : Registers) (byte : ℕ) → InBytes w → InBytes (cleared_by w byte)
cleared_fits w byte fits = record { tick = fits.tick; allowance = fits.allowance; number = fits.number }

write_fits : (w : Registers) (byte : ℕ) (m : Lent) (offset : ℕ) (due : Written) → View w byte m offset due → InBytes w → byte ≤ 255 → InBytes due.window
unfolding run_shown
write_fits w byte m offset due (runs e) fits small = run_fits (cleared_by w byte) m (cleared_fits w byte fits)
write_fits w byte m offset due (clears e) fits small = cleared_fits w byte fits
write_fits w byte m offset due low fits small =
    record { tick = fits.tick; allowance = omega (arith, fits.allowance); number = fits.number }
write_fits w byte m offset due high fits small =
    record { tick = fits.tick; allowance = omega arith; number = fits.number }
write_fits w byte m offset due enables fits small = record { tick = fits.tick; allowance = fits.allowance; number = fits.number }
write_fits w byte m offset due (refuses at number r) fits small = fits

pub stays_in_bytes : StaysInBytes
stays_in_bytes = record {
  new = record { tick = omega arith; allowance = omega arith; number = omega arith };
  new_is_0 = refl;
  any_number = λ value. record { tick = omega arith; allowance = omega arith; number = omega arith };
  after_write = λ w offset byte m fits small. write_fits w byte m offset (written w offset byte m) (view w byte m offset) fits small;
}
