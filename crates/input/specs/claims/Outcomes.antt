-- What is told of an input: that it ended only after a read that answered 0 with room left, so that no text that was cut is taken for whole; that
-- no room is left only where the bytes fill it; that a read failed only after one that answered a number below 0.
use Rattle.std.specs.Prelude.{ℕ, ◌+◌, ◌<◌, ◌≡◌, ◌≢◌, List, [], ◌∷◌, ℤ, pos, negsuc, ◌<ℤ◌, Option, Some, None}
use Rattle.input.specs.declared.Input.{Input}
use Rattle.input.specs.declared.Input.TheVariants.{Ended, Full}
use Rattle.input.specs.Reads.{answer_of, Turn, On, Done, turn_of, Reads}

-- One read, after `at` bytes, by what it answered.
pub data ByRead (at : ℕ) (moved : ℤ) : Turn → Type 0 where
  fails : moved <ℤ pos 0 → ByRead at moved (Done None)
  ends : moved ≡ pos 0 → ByRead at moved (Done (Some (Ended at)))
  moves : {n : ℕ} → moved ≡ pos n → n ≢ 0 → ByRead at moved (On (at + n))

abbrev pub OneRead : Type 0
OneRead = (at : ℕ) (moved : ℤ) → ByRead at moved (turn_of at (answer_of moved))

-- The reads after one that was followed so: from the next byte on, or none.
abbrev pub After : ℕ → Turn → List ℤ → Option Input → Type 0
After room (On next) answers r = Reads room next answers r
After room (Done x) answers r = (answers ≡ []) × (r ≡ x)

abbrev pub EachRead : Type 0
EachRead =
    (room at : ℕ) (moved : ℤ) (answers : List ℤ) (r : Option Input) → Reads room at (moved ∷ answers) r → After room (turn_of at (answer_of moved)) answers r

-- The bytes that reads moved.
unfoldable pub bytes_of : List ℤ → ℕ
bytes_of [] = 0
bytes_of (pos n ∷ answers) = n + bytes_of answers
bytes_of (negsuc k ∷ answers) = bytes_of answers

-- What holds of the last answer; of no answer nothing does.
unfoldable pub Last : (ℤ → Type 0) → List ℤ → Type 0
Last P [] = ⊥
Last P (x ∷ []) = P x
Last P (x ∷ y ∷ answers) = Last P (y ∷ answers)

abbrev pub Told : ℕ → List ℤ → Option Input → Type 0
Told room answers (Some (Ended n)) = (n < room) × (bytes_of answers ≡ n) × Last (λ x. x ≡ pos 0) answers
Told room answers (Some Full) = bytes_of answers ≡ room
Told room answers None = (bytes_of answers < room) × Last (λ x. x <ℤ pos 0) answers

-- The three exclude each other, so each is told exactly where its words hold.
abbrev pub Outcomes : Type 0
Outcomes = (room : ℕ) (answers : List ℤ) (r : Option Input) → Reads room 0 answers r → Told room answers r
