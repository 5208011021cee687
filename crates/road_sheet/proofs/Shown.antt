-- What is printed for a file that is accepted.
use Prim.Native.Nat.{ℕ, ◌*◌}
use native.Mathlib.Omega.{arith}
use mathlib.Core.Path.{ap}
use mathlib.Core.List.{List}
use borrow.Author.Tests.{eq-eqb, ne_eqb}
use Rattle.semiring.specs.Algebra.{none_word_of}
use Rattle.semiring.specs.declared.Algebra.TheVariants.{Distance}
use Rattle.closure.specs.Elimination.{eliminated}
use Rattle.closure.specs.Table.{Holds}
use Rattle.closure.proofs.Equations.{closure_word}
use Rattle.closure.proofs.Holds.{row_by_row_holds}
use Rattle.text.proofs.Numerals.{numerals}
use Rattle.road_sheet.specs.Sheet.{road_table, closed_table, printed}
use Rattle.road_sheet.specs.claims.Shown.{closed_word, RoadSheet}
use Rattle.road_text.proofs.Whole.{accepted_points}
use Rattle.road_sheet.proofs.Points.{table_words}

closed_holds : (n : ℕ) (file : List ℕ) → Holds n (closed_word n file) (closed_table n file)
unfolding eliminated
closed_holds n file = row_by_row_holds n (closed_word n file)

pub road_sheet : RoadSheet
road_sheet file n e = record {
  least = (accepted_points 16384 file n e).0;
  most = (accepted_points 16384 file n e).1;
  rows = ap (printed file) e;
  words = λ i j hi hj. (closed_holds n file).word i j hi hj;
  none = λ i j hi hj is_none. rw (eq-eqb (closed_word n file i j) (none_word_of Distance) is_none);
  numeral = λ i j hi hj some.
      rw (ne_eqb (closed_word n file i j) (none_word_of Distance) some)
      (numerals (closed_word n file i j) (omega (arith, closure_word Distance n (road_table n file) (table_words (n * n) 16384 file) i j)));
}
