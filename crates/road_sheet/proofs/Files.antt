-- What the reader's answer and buffer say of the printed text.
use Prim.Native.Nat.{ℕ, ◌*◌, ◌≤◌}
use native.Mathlib.Omega.{arith}
use mathlib.Core.Path.{◌≡◌, sym, ap, ◌∙◌}
use mathlib.Core.List.{List}
use lib.ListN.{length, take}
use lib.Seq.{length-take-le}
use mir.Syntax.{w64}
use mir.Val.{Fits}
use Rattle.memory.proofs.Geometry.{cells_room, square_fits}
use Rattle.memory.proofs.ListOf.{length_list_of}
use Rattle.semiring.specs.declared.Algebra.TheVariants.{Distance}
use Rattle.closure.specs.Elimination.{eliminated}
use Rattle.text.specs.Pieces.{lines}
use Rattle.text.specs.declared.page.Page.{Page}
use Rattle.text.specs.inner.Printed.{Printed}
use Rattle.text.proofs.Printed.{printed_as}
use Rattle.refusals.specs.Reason.{reason_number}
use Rattle.refusals.specs.declared.Reason.{Reason}
use Rattle.std.specs.Prelude.{Result, Ok, Err}
use Rattle.road_text.specs.Reading.{accepted, road_reading_of, arcs_in, word_in, table_after, answered, RoadRead}
use Rattle.road_sheet.specs.Rows.{table_text, refused_text}
use Rattle.road_sheet.specs.Sheet.{printed, road_sheet_of}
use Rattle.road_sheet.specs.inner.Tables.{ToClose, Rooms}
use Rattle.road_text.proofs.Whole.{accepted_points}
use Rattle.road_sheet.proofs.Points.{table_words}

module _ (file : List ℕ) {old closed : List ℕ} (asked : Rooms old closed) {answer : Result ℕ Reason} {table : List ℕ}
    (read : RoadRead (length old) file answer table) where
  same_reading : road_reading_of (length old) file ≡ road_reading_of 16384 file
  same_reading = ap (λ (m : ℕ). road_reading_of m file) asked.table_room

  -- a refusal
  pub refusal_printed : {reason : Reason} {number : ℕ} → answer ≡ Err reason → number ≡ reason_number reason → {page page' : Page}
      → Printed page (refused_text number) page' → Printed page (road_sheet_of file) page'
  refusal_printed e told p =
      printed_as p (ap refused_text told ∙ ap (printed file) (sym (ap answered e) ∙ read.outcome ∙ same_reading))

  -- n points: the parts of the buffers that are lent on
  module _ {n : ℕ} (e : answer ≡ Ok n) where
    reading : road_reading_of 16384 file ≡ accepted n
    reading = sym same_reading ∙ sym read.outcome ∙ ap answered e

    table_is : table ≡ table_after 16384 file
    table_is = read.memory ∙ ap (λ (m : ℕ). table_after m file) asked.table_room

    points_most : n ≤ 128
    points_most = (accepted_points 16384 file n reading).1

    pub words_room : Fits w64 (n * n)
    words_room = cells_room points_most

    table_long : length table ≡ 16384
    table_long = ap length table_is ∙ length_list_of 16384 (word_in (road_reading_of 16384 file) (arcs_in (lines file)))

    pub table_within : n * n ≤ length table
    table_within = omega (arith, table_long, square_fits points_most)

    pub table_part : n * n ≡ length (take (n * n) table)
    table_part = sym (length-take-le (n * n) table table_within)

    pub closed_within : n * n ≤ length closed
    closed_within = omega (arith, asked.closed_room, square_fits points_most)

    pub closed_part : n * n ≡ length (take (n * n) closed)
    closed_part = sym (length-take-le (n * n) closed closed_within)

    pub to_close : ToClose n (take (n * n) table) (take (n * n) closed)
    to_close = record {
      least = (accepted_points 16384 file n reading).0;
      most = points_most;
      table_fits = sym table_part;
      closed_fits = sym closed_part;
      words = rw table_is (table_words (n * n) 16384 file);
    }

    pub table_printed : {page page' : Page} → Printed page (table_text n (eliminated Distance n (take (n * n) table))) page'
        → Printed page (road_sheet_of file) page'
    table_printed p =
        printed_as p (ap (λ (l : List ℕ). table_text n (eliminated Distance n (take (n * n) l))) table_is ∙ sym (ap (printed file) reading))
