-- Document 01, row Text: a refusal "zeroes both buffers at any length". K8: "a refusal zeroes them as well, so demand 1's buffers are three".
use Rattle.std.specs.Prelude.{ℕ, ◌≡◌, List, replicate, Err}
use Rattle.job_reading.specs.declared.answer.Refusal.{Refusal as Why}
use Rattle.job_reading.specs.Reading.{Refusal, refused, reading_of, algebras_after, sizes_after, weights_after, ReadInto}

-- Three buffers of zeros, of the lengths that were lent.
pub record AllZero (l m n : ℕ) (algebras sizes weights : List ℕ) : Type 0 where
  pub algebras_zero : algebras ≡ replicate l 0
  pub sizes_zero : sizes ≡ replicate m 0
  pub weights_zero : weights ≡ replicate n 0

-- For buffers of every length: where a text is refused, and what a call of `read` left that answers a refusal.
pub record Zeroed : Type 0 where
  pub defined :
      (l m n : ℕ) (text : List ℕ) (why : Refusal) → reading_of l m n text ≡ refused why
      → AllZero l m n (algebras_after l m n text) (sizes_after l m n text) (weights_after l m n text)
  pub left :
      (l m n : ℕ) (text : List ℕ) (why : Why) (algebras sizes weights : List ℕ) → ReadInto l m n text (Err why) algebras sizes weights
      → AllZero l m n algebras sizes weights
