-- Document 01: "The reader gives N, .. Q, 16 sizes and 16,384 weights, unused ones 0." K8: "16 algebras too, unused ones 0".
use Rattle.std.specs.Prelude.{ℕ, ◌<◌, ◌≡◌, List, length, get_or, Ok}
use Rattle.job_reading.specs.Reading.{accepted, reading_of, ReadInto}

-- A buffer of l words that begins with the words read; past them get_or is 0, as every unused word is.
pub record Holds (l : ℕ) (read buffer : List ℕ) : Type 0 where
  pub size : length buffer ≡ l
  pub each : (p : ℕ) → p < l → get_or buffer p 0 ≡ get_or read p 0

-- What a call of `read` left that answers N and Q.
pub record GivenBy (l m n : ℕ) (text : List ℕ) (order jobs : ℕ) (algebras sizes weights : List ℕ) : Type 0 where
  pub algebras_read : List ℕ
  pub sizes_read : List ℕ
  pub weights_read : List ℕ
  pub is : reading_of l m n text ≡ accepted order algebras_read sizes_read weights_read
  pub many : jobs ≡ length sizes_read
  pub algebras_given : Holds l algebras_read algebras
  pub sizes_given : Holds m sizes_read sizes
  pub weights_given : Holds n weights_read weights

abbrev pub ReadGiven : Type 0
ReadGiven =
    (l m n : ℕ) (text : List ℕ) (order jobs : ℕ) (algebras sizes weights : List ℕ)
    → ReadInto l m n text (Ok (record { order = order; jobs = jobs })) algebras sizes weights → GivenBy l m n text order jobs algebras sizes weights
