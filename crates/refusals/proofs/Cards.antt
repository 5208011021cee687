-- The range of 16-bit words.
use Prim.Native.Nat.{ℕ, zero, suc}
use native.Mathlib.Omega.{arith}
use mathlib.Core.List.{[], ◌∷◌}
use Rattle.refusals.specs.Conditions.{Words16}
use Rattle.refusals.specs.claims.Cards.{WordCards}

pub word_cards : WordCards
word_cards = record { largest = within; no_larger = λ h. let above = h 0 (omega arith) in omega arith }
  where
    within : Words16 (0 ∷ 65535 ∷ [])
    within zero h = omega arith
    within (suc zero) h = omega arith
    within (suc (suc p)) h = absurd (omega arith)
