-- The part of a text that is printed, by what reading came to.
use Prim.Native.Nat.{ℕ, ◌≤◌}
use native.Mathlib.Omega.{arith}
use mathlib.Core.Path.{◌≡◌}
use mathlib.Core.List.{List}
use Rattle.std.proofs.Common.{Some, ap}
use lib.ListN.{length, take}
use Rattle.input.specs.declared.Input.{Input}
use Rattle.input.specs.declared.Input.TheVariants.{Ended, Full}
use Rattle.input.specs.Reads.{ReadInto}
use Rattle.input.proofs.Outcomes.{ended_within, ended_whole}
use Rattle.sheet_form.proofs.Longer.{longer_input}
use Rattle.bench.specs.Printed.{ToPrint, all, longer, InRoom}

module _ {text : List ℕ} {input : Input} (r : InRoom text input) where
  pub part_within : {n : ℕ} → input ≡ Ended n → n ≤ length text
  part_within e = ended_within text r.read (ap Some e)

  pub part_whole : {n : ℕ} → input ≡ Ended n → ToPrint text (Ended n) (take n text)
  part_whole e = all (ended_whole text r.read (ap Some e))

  pub part_longer : input ≡ Full → ToPrint text input text
  part_longer e = rw e (longer (longer_input text r.room))

pub in-room : (text : List ℕ) {room : ℕ} {input : Input} → ReadInto room (Some input) → length text ≡ 65537 → room ≡ 65537 → InRoom text input
in-room text {room} {input} told size same =
    let e : room ≡ length text = omega arith in
    record { read = rw e at told; room = omega arith }
