-- What is printed, by what reading came to.
use Prim.Native.Nat.{ℕ, ◌≤◌}
use native.Mathlib.Omega.{arith}
use mathlib.Core.Path.{◌≡◌}
use mathlib.Core.List.{List}
use Rattle.std.proofs.Common.{Some, ap}
use lib.ListN.{length, take, length-take}
use Rattle.input.specs.declared.Input.{Input}
use Rattle.input.specs.declared.Input.TheVariants.{Ended}
use Rattle.input.specs.Reads.{ReadInto}
use Rattle.input.proofs.Outcomes.{ended_below, ended_within, ended_whole}
use Rattle.road.specs.Printed.{ToPrint, InRoom}

module _ {buffer : List ℕ} {input : Input} (r : InRoom buffer input) where
  pub file_within : {n : ℕ} → input ≡ Ended n → n ≤ length buffer
  file_within e = ended_within buffer r.read (ap Some e)

  pub file_whole : {n : ℕ} → input ≡ Ended n → ToPrint buffer (Ended n) (take n buffer)
  file_whole {n} e = record {
    whole = ended_whole buffer r.read (ap Some e);
    most = rw (length-take n buffer) (omega (arith, ended_below r.read (ap Some e), r.room));
  }

pub in-room : (buffer : List ℕ) {room : ℕ} {input : Input} → ReadInto room (Some input) → length buffer ≡ 1048577 → room ≡ 1048577 → InRoom buffer input
in-room buffer {room} {input} told size same =
    let e : room ≡ length buffer = omega arith in
    record { read = rw e at told; room = size }
