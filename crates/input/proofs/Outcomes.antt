-- What is told of an input, read off its reads.
use Prim.Native.Nat.{ℕ, zero, suc, ◌+◌, ◌<◌, ◌≤◌}
use native.Mathlib.Omega.{arith}
use mathlib.Core.Path.{◌≡◌, refl}
use mathlib.Core.List.{List, [], ◌∷◌}
use Rattle.std.proofs.Common.{Option, Some, None}
use lib.IntN.{ℤ, pos, negsuc}
use lib.ListN.{length, take}
use lib.Signed.{◌<ℤ◌, lt_z_yes}
use Rattle.input.specs.declared.Input.{Input}
use Rattle.input.specs.declared.Input.TheVariants.{Ended, Full}
use Rattle.input.specs.Reads.{Reads, full, failed, ended, on, ReadInto, WholeInput, whole}
use Rattle.input.specs.claims.Outcomes.{fails, ends, moves, OneRead, EachRead, bytes_of, Last, Told, Outcomes}

below-zero : {k : ℕ} → negsuc k <ℤ pos 0
below-zero = lt_z_yes tt

pub one_read : OneRead
one_read at (negsuc k) = fails below-zero
one_read at (pos zero) = ends refl
one_read at (pos (suc n)) = moves refl (λ e. omega arith)

pub each_read : EachRead
each_read room at (negsuc k) answers r (failed h) = (refl, refl)
each_read room at (pos zero) answers r (ended h) = (refl, refl)
each_read room at (pos (suc n)) answers r (on h reads) = reads

-- one answer in front
last_more : (P : ℤ → Type 0) (x : ℤ) (answers : List ℤ) → Last P answers → Last P (x ∷ answers)
unfolding Last
last_more P x [] h = absurd h
last_more P x (y ∷ answers) h = h

-- after `at` bytes
abbrev ToldFrom : ℕ → ℕ → List ℤ → Option Input → Type 0
ToldFrom at room answers (Some (Ended n)) = (n < room) × (at + bytes_of answers ≡ n) × Last (λ x. x ≡ pos 0) answers
ToldFrom at room answers (Some Full) = at + bytes_of answers ≡ room
ToldFrom at room answers None = (at + bytes_of answers < room) × Last (λ x. x <ℤ pos 0) answers

module _ (at room n : ℕ) (answers : List ℤ) where
  more : (r : Option Input) → ToldFrom (at + suc n) room answers r → ToldFrom at room (pos (suc n) ∷ answers) r
  unfolding bytes_of
  more (Some (Ended m)) (below, bytes, last) = (below, omega arith, last_more (λ x. x ≡ pos 0) (pos (suc n)) answers last)
  more (Some Full) bytes = omega arith
  more None (below, last) = (omega arith, last_more (λ x. x <ℤ pos 0) (pos (suc n)) answers last)

told-from : {room at : ℕ} {answers : List ℤ} {r : Option Input} → at ≤ room → Reads room at answers r → ToldFrom at room answers r
unfolding bytes_of Last
told-from h (full k) = omega arith
told-from h (failed k) = (omega arith, below-zero)
told-from h (ended k) = (k, omega arith, refl)
told-from {room} {at} h (on {n = n} {answers = answers} {r = r} k reads) = more at room n answers r (told-from k reads)

told_all : (room : ℕ) (answers : List ℤ) (r : Option Input) → ToldFrom 0 room answers r → Told room answers r
told_all room answers (Some (Ended n)) (below, bytes, last) = (below, omega arith, last)
told_all room answers (Some Full) bytes = omega arith
told_all room answers None (below, last) = (omega arith, last)

pub outcomes : Outcomes
outcomes room answers r reads = told_all room answers r (told-from (omega arith) reads)

-- An input that ended has left room.
pub ended_below : {room n : ℕ} {r : Option Input} → ReadInto room r → r ≡ Some (Ended n) → n < room
ended_below {room} {n} told e = (outcomes room told.answers (Some (Ended n)) (rw e at told.reads)).0

-- Of an input read into a text.
module _ (text : List ℕ) {r : Option Input} {n : ℕ} (told : ReadInto (length text) r) (e : r ≡ Some (Ended n)) where
  pub ended_within : n ≤ length text
  ended_within = omega (arith, ended_below told e)

  pub ended_whole : WholeInput text (Ended n) (take n text)
  ended_whole = whole (ended_below told e)
