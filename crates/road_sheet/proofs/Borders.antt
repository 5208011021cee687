-- The border files, by computation.
use mathlib.Core.Path.{refl}
use Rattle.memory.specs.Lists.{list_of}
use Rattle.text.specs.Numeral.{digits, decimal}
use Rattle.text.specs.Pieces.{cut, lines, placed, parts}
use Rattle.road_form.specs.Forms.{form_of}
use Rattle.road_table.specs.Table.{lengths, least, word_of}
use Rattle.road_text.specs.Reading.{follow, road_reading_of, arcs_in}
use Rattle.road_sheet.specs.claims.Borders.{Answers, Words}

pub answers : Answers
unfolding road_reading_of follow form_of digits decimal parts placed lines cut
answers = record {
  buffer_short = refl;
  buffer_long = refl;
  empty = refl;
  only_comments = refl;
  comments_anywhere = refl;
  one-point = refl;
  line_feed_last = refl;
  blank = refl;
  blank_first = refl;
  blank_last = refl;
  line_of_spaces = refl;
  carriage_return = refl;
  tab = refl;
  leading_space = refl;
  comment_behind_space = refl;
  trailing_space = refl;
  more_spaces = refl;
  ten_digits = refl;
  eleven_digits = refl;
  sign = refl;
  glued = refl;
  over_two_lines = refl;
  part_short = refl;
  part-more = refl;
  other_problem = refl;
  points_0 = refl;
  points_129 = refl;
  second_problem = refl;
  arc_first = refl;
  from_0 = refl;
  to_3 = refl;
  self_3 = refl;
  form_before_point = refl;
  point_line_first = refl;
  arc_trailing_space = refl;
  arc_leading_space = refl;
  arc_eleven_digits = refl;
  arc_eleven_in_from = refl;
  arc_eleven_in_to = refl;
  arc_ten_digits = refl;
  arc_part_more = refl;
  arc_return = refl;
  one_too_many = refl;
  one_too_few = refl;
  far_too_few = refl;
  later_form_wins = refl;
  later_point_wins = refl;
}

pub words : Words
unfolding road_reading_of follow form_of arcs_in word_of lengths least digits decimal parts placed lines cut list_of
words = record {
  shortest = refl;
  stride = refl;
  self = refl;
  long = refl;
  just_far = refl;
  zeroed = refl;
}
