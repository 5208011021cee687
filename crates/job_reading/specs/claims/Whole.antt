-- What an accepted reading holds: a list of jobs that fits an array, one algebra a job, with as many weights as the jobs have words, each a
-- word of its job's algebra.
use Rattle.std.specs.Prelude.{ℕ, ◌≤◌, ◌≡◌, List, length}
use Rattle.job_list.specs.Jobs.{jobs_of}
use Rattle.job_list.specs.Fits.{ListAccepted}
use Rattle.job_reading.specs.Reading.{accepted, reading_of}

abbrev pub Whole : Type 0
Whole =
    (l m n : ℕ) (text : List ℕ) (order : ℕ) (algebras sizes weights : List ℕ)
    → reading_of l m n text ≡ accepted order algebras sizes weights → ListAccepted (jobs_of algebras order sizes weights)

-- Nothing that is read is cut off: "16 algebras", "16 sizes and 16,384 weights" hold every list that is accepted.
abbrev pub WithinBuffers : Type 0
WithinBuffers =
    (l m n : ℕ) (text : List ℕ) (order : ℕ) (algebras sizes weights : List ℕ)
    → reading_of l m n text ≡ accepted order algebras sizes weights
    → (length algebras ≤ 16) × (length sizes ≤ 16) × (length weights ≤ 16384)
