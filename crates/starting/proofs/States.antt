-- The words of a state with planes 0.
use Prim.Native.Nat.{ℕ, ◌+◌, ◌*◌}
use native.Mathlib.Omega.{arith}
use mathlib.Core.Path.{◌≡◌, ap, ◌∙◌}
use mathlib.Core.List.{List, ◌++◌}
use lib.ListN.{length, replicate, replicate-append-replicate}
use Rattle.systolic.specs.State.{state_words, state_length}
use Rattle.systolic.specs.Start.{zero_planes}
use Rattle.state_header.specs.declared.Header.{Header}
use Rattle.state_header.specs.inner.Header.{headed}

three_planes : (area : ℕ) → replicate {A = ℕ} (3 * area) 0 ≡ replicate area 0 ++ (replicate area 0 ++ replicate area 0)
three_planes area =
    let e : 3 * area ≡ area + (area + area) = omega arith in
    rw (replicate-append-replicate {A = ℕ} area area 0, replicate-append-replicate {A = ℕ} area (area + area) 0) (ap (λ (m : ℕ). replicate {A = ℕ} m 0) e)

header_of_zeros : (h : Header) (m : ℕ) → m ≡ state_length h.order
    → headed h (replicate m 0) ≡ state_words h.order h.count h.tick (zero_planes h.order)
header_of_zeros h m e =
    let area : ℕ = h.order * h.order in
    rw (e, ← replicate-append-replicate {A = ℕ} 4 (3 * area) 0, three_planes area)

-- a header over a memory of zeros
pub laid_out : (h : Header) (state zeros laid : List ℕ) → length state ≡ state_length h.order → zeros ≡ replicate (length state) 0 → laid ≡ headed h zeros
    → laid ≡ state_words h.order h.count h.tick (zero_planes h.order)
laid_out h state zeros laid fits cleared stored = stored ∙ ap (headed h) cleared ∙ header_of_zeros h (length state) fits
