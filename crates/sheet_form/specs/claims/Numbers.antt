-- Every number on a sheet is shown whole, by the numeral that a reader of decimal digits takes for it.
use Rattle.std.specs.Prelude.{ℕ, ◌+◌, ◌-◌, ◌*◌, ◌<◌, ◌≡◌, List}
use Rattle.job_list.specs.Jobs.{Jobs, count, size, jobs_of, Entry}
use Rattle.systolic.specs.Tick.{leaves}
use Rattle.text.specs.Numeral.{shown}
use Rattle.text.specs.claims.Numerals.{NumeralOf}
use Rattle.job_reading.specs.Reading.{Refusal, refused, accepted, reading_of}
use Rattle.sheet_form.specs.claims.Demand.{closure_words}

abbrev pub ShownWhole : ℕ → Type 0
ShownWhole n = NumeralOf n (shown n)

-- A refusal's number and line.
abbrev pub RefusalNumbers : Type 0
RefusalNumbers = (text : List ℕ) (r : Refusal) → reading_of 16 16 16384 text ≡ refused r → ShownWhole r.number × ShownWhole r.line

-- A list's jobs and ticks, and the numbers of each entry's line.
pub record ListNumbers (J : Jobs) : Type 0 where
  pub jobs : ShownWhole (count J)
  pub ticks : ShownWhole (4 * J.order * count J + 2 * J.order - 2)
  pub sizes : (q : ℕ) → q < count J → ShownWhole (size J q)
  pub places : (q i k : ℕ) → Entry J q i k → ShownWhole q × ShownWhole i × ShownWhole k
  pub tick : (q i k : ℕ) → Entry J q i k → ShownWhole (leaves J q i k)
  pub words : (q i k : ℕ) → Entry J q i k → ShownWhole (closure_words J q i k)

abbrev pub ListNumbersClaim : Type 0
ListNumbersClaim =
    (text : List ℕ) (order : ℕ) (algebras sizes weights : List ℕ)
    → reading_of 16 16 16384 text ≡ accepted order algebras sizes weights → ListNumbers (jobs_of algebras order sizes weights)
