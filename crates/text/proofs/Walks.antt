-- Loops over bytes: what holds before each turn, that it begins to hold, goes on to hold, and what it says where the loop ends.
use Prim.Native.Nat.{ℕ, ◌+◌, ◌<◌, ◌≤◌, max}
use Prim.Native.Char.{code}
use native.Mathlib.Omega.{arith}
use mathlib.Core.Path.{◌≡◌, refl, ◌∙◌}
use mathlib.Core.List.{List}
use lib.ListN.{length, get_or, drop}
use Rattle.text.specs.Pieces.{placed}
use Rattle.text.specs.inner.Scan.{Until, Unspaced}
use Rattle.text.proofs.Cuts.{until_here, below-from, placed_space}

-- `until`: no byte `end` so far
pub record Passed (end from : ℕ) (l : List ℕ) (at : ℕ) : Type 0 where
  pub least : from ≤ at
  pub most : at ≤ max from (length l)
  pub free : (q : ℕ) → from ≤ q → q < at → get_or l q 0 ≡ end → ⊥

module _ {end from : ℕ} {l : List ℕ} where
  pub passed_none : Passed end from l from
  passed_none = record { least = omega arith; most = omega arith; free = λ q h k. absurd (omega arith) }

  pub passed_one : {at : ℕ} → Passed end from l at → at < length l → (get_or l at 0 ≡ end → ⊥) → Passed end from l (at + 1)
  passed_one {at} p h other = record { least = omega arith; most = omega arith; free = below-from _ at p.free other }

  pub passed_found : {at : ℕ} → Passed end from l at → get_or l at 0 ≡ end → Until end from l at
  passed_found {at} p e = until_here end from at l p.least p.most p.free (λ h. e)

  pub passed_all : {at : ℕ} → Passed end from l at → length l ≤ at → Until end from l at
  passed_all {at} p h = until_here end from at l p.least p.most p.free (λ k. absurd (omega arith))

  pub passed_end : {at r : ℕ} → Passed end from l at → length l ≤ at → r ≡ max from (length l) → Until end from l r
  passed_end {at} p h e = let same : at ≡ max from (length l) = omega (arith, p.least, p.most) in rw (e, ← same) (passed_all p h)

-- `unspaced`: only spaces so far
pub record Spaces (from : ℕ) (l : List ℕ) (at : ℕ) : Type 0 where
  pub least : from ≤ at
  pub most : at ≤ max from (length l)
  pub each : (q : ℕ) → from ≤ q → q < at → get_or l q 0 ≡ code " "
  pub same_parts : placed from (drop from l) ≡ placed at (drop at l)

module _ {from : ℕ} {l : List ℕ} where
  pub spaces_none : Spaces from l from
  spaces_none = record { least = omega arith; most = omega arith; each = λ q h k. absurd (omega arith); same_parts = refl }

  pub spaces_one : {at : ℕ} → Spaces from l at → at < length l → get_or l at 0 ≡ code " " → Spaces from l (at + 1)
  spaces_one {at} s h e = record {
    least = omega arith;
    most = omega arith;
    each = below-from (λ q. get_or l q 0 ≡ code " ") at s.each e;
    same_parts = s.same_parts ∙ placed_space at l h e;
  }

  pub spaces_found : {at : ℕ} → Spaces from l at → (get_or l at 0 ≡ code " " → ⊥) → Unspaced from l at
  spaces_found {at} s other = record { least = s.least; most = s.most; each = s.each; other = λ h. other; same_parts = s.same_parts }

  pub spaces_all : {at : ℕ} → Spaces from l at → length l ≤ at → Unspaced from l at
  spaces_all {at} s h = record { least = s.least; most = s.most; each = s.each; other = λ k. absurd (omega arith); same_parts = s.same_parts }
