-- A text is accepted exactly where its bytes are a list of jobs, and then with what they say.
use Rattle.std.specs.Prelude.{ℕ, ◌≡◌, List}
use Rattle.job_reading.specs.Reading.{accepted, reading_of}
use Rattle.job_grammar.specs.Texts.{ListText}

pub record AcceptedExactly (text : List ℕ) (order : ℕ) (algebras sizes weights : List ℕ) : Type 0 where
  pub written : reading_of 16 16 16384 text ≡ accepted order algebras sizes weights → ListText text order algebras sizes weights
  pub accepts : ListText text order algebras sizes weights → reading_of 16 16 16384 text ≡ accepted order algebras sizes weights

abbrev pub AcceptedExactlyClaim : Type 0
AcceptedExactlyClaim = (text : List ℕ) (order : ℕ) (algebras sizes weights : List ℕ) → AcceptedExactly text order algebras sizes weights
