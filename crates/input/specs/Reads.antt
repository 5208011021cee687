-- What the reads of an input come to. By POSIX a read answers -1 where it fails, 0 at the end of the input, and otherwise how many bytes it moved.
use Rattle.std.specs.Prelude.{ℕ, zero, suc, ◌+◌, ◌<◌, ◌≤◌, List, [], ◌∷◌, ℤ, pos, negsuc, length, take, Option, Some, None}
use Rattle.std.specs.Io.KnownBytes.{Consumes, IsAtEnd}
use Rattle.input.specs.declared.Input.{Input}
use Rattle.input.specs.declared.Input.TheVariants.{Ended, Full}

-- The bytes that a read moved, by the number that it answered; none where it failed.
abbrev pub answer_of : ℤ → Option ℕ
answer_of (pos n) = Some n
answer_of (negsuc k) = None

-- What follows a read: the place of the next byte, or that it was the last and what they came to, which is `None` where it failed.
pub data Turn : Type 0 where
  On : ℕ → Turn
  Done : Option Input → Turn

-- What follows a read, with `at` bytes read before it.
abbrev pub turn_of : ℕ → Option ℕ → Turn
turn_of at (Some zero) = Done (Some (Ended at))
turn_of at (Some (suc n)) = On (at + suc n)
turn_of at None = Done None

-- The reads into a room of which `at` bytes are taken: what each answered, and what they come to. A read is made only while there is room.
pub data Reads (room : ℕ) : ℕ → List ℤ → Option Input → Type 0 where
  full : {at : ℕ} → room ≤ at → Reads room at [] (Some Full)
  failed : {at k : ℕ} → at < room → Reads room at (negsuc k ∷ []) None
  ended : {at : ℕ} → at < room → Reads room at (pos 0 ∷ []) (Some (Ended at))
  on : {at n : ℕ} {answers : List ℤ} {r : Option Input} → at + suc n ≤ room → Reads room (at + suc n) answers r → Reads room at (pos (suc n) ∷ answers) r

-- What reading came to is what some reads from the start come to: no contract names the bytes and answers that the system gave.
pub record ReadInto (room : ℕ) (r : Option Input) : Type 0 where
  pub answers : List ℤ
  pub reads : Reads room 0 answers r

-- The part of a text that is all of an input read into it: only of one that ended.
pub data WholeInput (text : List ℕ) : Input → List ℕ → Type 0 where
  whole : {n : ℕ} → n < length text → WholeInput text (Ended n) (take n text)

-- The bytes that the input gave, where they are known: those of an input that ended are all that it had, and those that fill the text come first.
abbrev pub BytesRead : Option (List ℕ) → Option (List ℕ) → List ℕ → Input → Type 0
BytesRead before after text (Ended n) = Consumes before after (take n text) × IsAtEnd after
BytesRead before after text Full = Consumes before after text
