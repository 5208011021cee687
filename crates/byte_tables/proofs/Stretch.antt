-- The layout from bytes is the layout of their words.
use Prim.Native.Nat.{ℕ, ◌+◌, ◌*◌, ◌-◌, ◌<◌, ◌≤◌, min}
use native.Mathlib.Omega.{arith}
use mathlib.Core.Path.{◌≡◌, refl, ap, ◌∙◌}
use mathlib.Core.List.{List}
use lib.ListN.{length, get_or, set, take, drop}
use Rattle.memory.specs.Lists.{replaced}
use Rattle.memory.proofs.Geometry.{square_fits}
use Rattle.memory.proofs.Part.{part_length}
use Rattle.table_layout.specs.LaidOut.{ToLayOut}
use Rattle.table_layout.proofs.Diagonal.{Laying, goes_on, table_inside}
use Rattle.byte_tables.specs.Bytes.{decoded}
use Rattle.byte_tables.proofs.Parts.{part_size, part_decoded}

module _ {own n m : ℕ} (weights : List ℕ) {old : List ℕ} {at : ℕ} {l : List ℕ} (c : Laying own n m (decoded weights) old at l)
    (asked : ToLayOut n m (decoded weights) old) (bytes : length weights ≡ 2 * (n * n)) (h : at < m) {to : ℕ} (e : to ≡ min (at + 1 + n) m) where
  room : (2 * to ≤ length weights) × (to ≤ 16384)
  room = (omega (arith, bytes, asked.steps), omega (arith, asked.steps, square_fits asked.most))

  pub to_decode : length (take (2 * to - 2 * (at + 1)) (drop (2 * (at + 1)) weights)) ≡ 2 * length (take (to - (at + 1)) (drop (at + 1) (set l at own)))
  to_decode =
      let from = part_length (2 * (at + 1)) (2 * to - 2 * (at + 1)) weights (omega (arith, room)) in
      let into = part_length (at + 1) (to - (at + 1)) (set l at own) (omega (arith, table_inside c asked h e)) in
      omega (arith, from, into)

  pub decodes : {new : List ℕ} → new ≡ decoded (take (2 * to - 2 * (at + 1)) (drop (2 * (at + 1)) weights))
      → Laying own n m (decoded weights) old (at + (n + 1)) (replaced (at + 1) (to - (at + 1)) new (set l at own))
  decodes {new} d =
      let w : ℕ = to - (at + 1) in
      let u : ℕ = 2 * to - 2 * (at + 1) in
      let width : u ≡ 2 * w = omega arith in
      let fits : 2 * (at + 1) + u ≤ length weights = omega (arith, room) in
      goes_on c asked h e new (ap length d ∙ part_size weights (at + 1) w (2 * (at + 1)) u refl width fits)
      (λ j k. ap (λ (l : List ℕ). get_or l j 0) d ∙ part_decoded weights (at + 1) w (2 * (at + 1)) u refl width fits j k)
