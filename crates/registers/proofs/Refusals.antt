-- The numbers of reads and writes, in the paper's conditions.
use Prim.Native.Nat.{ℕ}
use mathlib.Core.Path.{◌≡◌, refl, ◌∙◌}
use mathlib.Core.Logic.{◌⊎◌, inl, inr}
use mathlib.Core.List.{[], ◌∷◌}
use mathlib.Core.Bool.{Bool, true, false}
use lib.Dec.{eqb, ltb}
use Rattle.refusals.specs.Tests.{first}
use Rattle.refusals.proofs.Conditions.{Decides, row, none, decides_equal, decides_above, decides_never, either}
use Rattle.registers.specs.Registers.{Registers, low_byte, high_byte, word_of}
use Rattle.registers.specs.Writing.{Lent, bit0, with_allowance, with_enable, only, Written, run_by, controlled, run_shown, read_only, stored, written}
use Rattle.registers.specs.claims.Refusals.{ReadRefusals, ReadOnlyByte, status, tick_low, tick_high, last_number, WriteRefusals, WriteKept, WriteKeptClaim}
use Rattle.registers.proofs.Views.{View, runs, clears, low, high, enables, refuses, view}

pub read_refusals : ReadRefusals
read_refusals number byte w offset given = rw given.outcome (row (decides_above 7 offset) none)

-- The same as a choice.
abbrev One : ℕ → Type 0
One offset = (offset ≡ 1) ⊎ ((offset ≡ 2) ⊎ ((offset ≡ 3) ⊎ ((offset ≡ 6) ⊎ ⊥)))

one : {offset : ℕ} → ReadOnlyByte offset → One offset
one status = inl refl
one tick_low = inr (inl refl)
one tick_high = inr (inr (inl refl))
one last_number = inr (inr (inr (inl refl)))

read-only : {offset : ℕ} → One offset → ReadOnlyByte offset
read-only (inl e) = rw e status
read-only (inr (inl e)) = rw e tick_low
read-only (inr (inr (inl e))) = rw e tick_high
read-only (inr (inr (inr (inl e)))) = rw e last_number
read-only (inr (inr (inr (inr e)))) = absurd e

decides_read_only : (offset : ℕ) → Decides (read_only offset) (ReadOnlyByte offset)
decides_read_only offset =
    let d = either (decides_equal offset 1) (either (decides_equal offset 2) (either (decides_equal offset 3) (either (decides_equal offset 6) decides_never))) in
    record { yes = λ e. read-only (d.yes e); no = λ e r. d.no e (one r) }

-- "A write whose run is refused is itself accepted"
control_accepted : (w : Registers) (byte : ℕ) (m : Lent) → (controlled w byte m).number ≡ 0
unfolding controlled run_by run_shown
control_accepted w byte m = go (bit0 byte) refl
  where
    go : (b : Bool) → bit0 byte ≡ b → (controlled w byte m).number ≡ 0
    go true e = rw e
    go false e = rw e

module _ (w : Registers) (offset byte : ℕ) (m : Lent) where
  accepted_by : (control low high enable : Bool) (c₄ c₅ c₇ : Registers)
      → (first (only 0 w m) ((control, controlled w byte m) ∷ (low, only 0 c₄ m) ∷ (high, only 0 c₅ m) ∷ (enable, only 0 c₇ m) ∷ [])).number ≡ 0
  accepted_by true b c d c₄ c₅ c₇ = control_accepted w byte m
  accepted_by false true c d c₄ c₅ c₇ = refl
  accepted_by false false true d c₄ c₅ c₇ = refl
  accepted_by false false false true c₄ c₅ c₇ = refl
  accepted_by false false false false c₄ c₅ c₇ = refl

  stored_accepted : (stored w offset byte m).number ≡ 0
  stored_accepted =
      accepted_by (eqb offset 0) (eqb offset 4) (eqb offset 5) (eqb offset 7) (with_allowance w (word_of byte (high_byte w.allowance)))
      (with_allowance w (word_of (low_byte w.allowance) byte)) (with_enable w (bit0 byte))

  numbered : (above only-read : Bool)
      → (first (stored w offset byte m) ((above, only 25 w m) ∷ (only-read, only 26 w m) ∷ [])).number ≡ first 0 ((above, 25) ∷ (only-read, 26) ∷ [])
  numbered true b = refl
  numbered false true = refl
  numbered false false = stored_accepted

  write_number : (written w offset byte m).number ≡ first 0 ((ltb 7 offset, 25) ∷ (read_only offset, 26) ∷ [])
  unfolding written
  write_number = numbered (ltb 7 offset) (read_only offset)

pub write_refusals : WriteRefusals
write_refusals w offset byte m number w' state scratch results left =
    rw (left.outcome, write_number w offset byte m) (row (decides_above 7 offset) (row (decides_read_only offset) none))

-- What the definition leaves where it refuses.
kept_at : (w : Registers) (byte : ℕ) (m : Lent) (offset : ℕ) (due : Written) → View w byte m offset due → (due.number ≡ 0 → ⊥)
    → WriteKept w m due.window due.state due.scratch due.results
unfolding run_shown
kept_at w byte m offset due (runs e) n = absurd (n refl)
kept_at w byte m offset due (clears e) n = absurd (n refl)
kept_at w byte m offset due low n = absurd (n refl)
kept_at w byte m offset due high n = absurd (n refl)
kept_at w byte m offset due enables n = absurd (n refl)
kept_at w byte m offset due (refuses k number r) n = record { window_kept = refl; state_kept = refl; scratch_kept = refl; results_kept = refl }

pub write_kept : WriteKeptClaim
write_kept w offset byte m number w' state scratch results left some =
    let due = written w offset byte m in
    let kept = kept_at w byte m offset due (view w byte m offset) (λ e. some (left.outcome ∙ e)) in
    record {
      window_kept = left.window_after_lem ∙ kept.window_kept;
      state_kept = left.state_after ∙ kept.state_kept;
      scratch_kept = left.scratch_after ∙ kept.scratch_kept;
      results_kept = left.results_after ∙ kept.results_kept;
    }
