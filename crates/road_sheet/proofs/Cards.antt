-- The cards hold by computation.
use Prim.Native.Nat.{ℕ, ◌*◌, ◌≤◌}
use native.Mathlib.Omega.{arith}
use mathlib.Core.Path.{◌≡◌, refl, ap, ◌∙◌}
use mathlib.Core.List.{List}
use Rattle.semiring.specs.declared.Algebra.TheVariants.{Distance}
use Rattle.road_table.specs.Table.{lengths, least, word_of}
use Rattle.memory.specs.Lists.{list_of}
use Rattle.closure.specs.Elimination.{passes, closure, eliminated}
use Rattle.text.specs.Joined.{joined}
use Rattle.text.specs.Numeral.{decimal, digits, numeral}
use Rattle.text.specs.Pieces.{cut, lines, placed, parts}
use Rattle.road_form.specs.Forms.{form_of}
use Rattle.road_text.specs.Reading.{accepted, follow, road_reading_of, arcs_in}
use Rattle.road_sheet.specs.Rows.{row_line, table_text}
use Rattle.road_sheet.specs.Sheet.{printed, road_sheet_of}
use Rattle.road_sheet.specs.claims.Cards.{three_points, far_point, one_point, RoadCards}
use Rattle.road_sheet.proofs.Points.{road_table_lem}

-- The buffer's 16,384 words are not computed.
accepted_text : (file : List ℕ) (n : ℕ) → n ≤ 128 → road_reading_of 16384 file ≡ accepted n
    → road_sheet_of file ≡ table_text n (eliminated Distance n (list_of (n * n) (word_of n (arcs_in (lines file)))))
accepted_text file n h e = ap (printed file) e ∙ ap (λ (t : List ℕ). table_text n (eliminated Distance n t)) (road_table_lem file n h e)

pub road_cards : RoadCards
unfolding list_of passes closure eliminated joined decimal digits numeral cut lines placed parts form_of lengths least word_of follow
    road_reading_of arcs_in row_line table_text
road_cards = record {
  three_points_lem = accepted_text three_points 3 (omega arith) refl;
  far = accepted_text far_point 2 (omega arith) refl;
  one-point = accepted_text one_point 1 (omega arith) refl;
  refused_file = refl;
}
