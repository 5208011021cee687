-- Border files, each as K7 and its readings say: what is answered, and the first words of the buffer.
use Rattle.std.specs.Prelude.{ℕ, ◌≡◌, List, [], ◌∷◌}
use Rattle.memory.specs.Lists.{list_of}
use Rattle.text.specs.Ascii.{ascii}
use Rattle.text.specs.Pieces.{lines}
use Rattle.road_text.specs.Reading.{RoadReading, refused, accepted, road_reading_of, arcs_in, word_in}

abbrev pub reading : List ℕ → RoadReading
reading file = road_reading_of 16384 file

-- the first m words
abbrev pub words : ℕ → List ℕ → List ℕ
words m file = list_of m (word_in (reading file) (arcs_in (lines file)))

pub record Answers : Type 0 where
  pub buffer_short : road_reading_of 16383 (ascii "p sp 1 0") ≡ refused 21
  pub buffer_long : road_reading_of 16385 (ascii "p sp 129 0") ≡ refused 21
  pub empty : reading [] ≡ refused 21
  pub only_comments : reading (ascii "c\ncat\nc  \n") ≡ refused 21
  pub comments_anywhere : reading (ascii "c\ncat\np sp 2 1\nc  a 1 2 3\r\na 1 2 3\nc") ≡ accepted 2
  pub one-point : reading (ascii "p sp 1 0") ≡ accepted 1
  pub line_feed_last : reading (ascii "p sp 1 0\n") ≡ accepted 1
  pub blank : reading (ascii "p sp 1 0\n\nc") ≡ refused 21
  pub blank_first : reading (ascii "\np sp 1 0") ≡ refused 21
  pub blank_last : reading (ascii "p sp 1 0\n\n") ≡ refused 21
  pub line_of_spaces : reading (ascii "p sp 1 0\n  ") ≡ refused 21
  pub carriage_return : reading (ascii "p sp 1 0\r\n") ≡ refused 21
  pub tab : reading (ascii "p sp 1\t0") ≡ refused 21
  pub leading_space : reading (ascii " p sp 1 0") ≡ refused 21
  pub comment_behind_space : reading (ascii " c\np sp 1 0") ≡ refused 21
  pub trailing_space : reading (ascii "p sp 1 0 ") ≡ refused 21
  pub more_spaces : reading (ascii "p   sp  1    0\n") ≡ accepted 1
  pub ten_digits : reading (ascii "p sp 0000000128 0000000000") ≡ accepted 128
  pub eleven_digits : reading (ascii "p sp 00000000128 0") ≡ refused 21
  pub sign : reading (ascii "p sp +1 0") ≡ refused 21
  pub glued : reading (ascii "p sp 2 1\na1 2 3") ≡ refused 21
  pub over_two_lines : reading (ascii "p sp 2 1\na 1 2\n3\n") ≡ refused 21
  pub part_short : reading (ascii "p sp 1") ≡ refused 21
  pub part-more : reading (ascii "p sp 1 0 0") ≡ refused 21
  pub other_problem : reading (ascii "p max 1 0") ≡ refused 21
  pub points_0 : reading (ascii "p sp 0 0") ≡ refused 22
  pub points_129 : reading (ascii "p sp 129 0") ≡ refused 22
  pub second_problem : reading (ascii "p sp 1 0\np sp 999 0") ≡ refused 21
  pub arc_first : reading (ascii "a 9 9 9\np sp 1 0") ≡ refused 21
  pub from_0 : reading (ascii "p sp 2 1\na 0 1 5") ≡ refused 22
  pub to_3 : reading (ascii "p sp 2 1\na 1 3 5") ≡ refused 22
  pub self_3 : reading (ascii "p sp 2 1\na 3 3 5") ≡ refused 22
  pub form_before_point : reading (ascii "p sp 2 1\na 3 1 x") ≡ refused 21
  pub point_line_first : reading (ascii "p sp 2 1\na 3 1 1\nx") ≡ refused 22
  pub arc_trailing_space : reading (ascii "p sp 2 1\na 1 2 3 ") ≡ refused 21
  pub arc_leading_space : reading (ascii "p sp 2 1\n a 1 2 3") ≡ refused 21
  pub arc_eleven_digits : reading (ascii "p sp 2 1\na 1 2 00000000003") ≡ refused 21
  pub arc_eleven_in_from : reading (ascii "p sp 2 1\na 00000000001 2 3") ≡ refused 21
  pub arc_eleven_in_to : reading (ascii "p sp 2 1\na 1 00000000002 3") ≡ refused 21
  pub arc_ten_digits : reading (ascii "p sp 2 1\na 0000000001 0000000002 0000000003") ≡ accepted 2
  pub arc_part_more : reading (ascii "p sp 2 1\na 1 2 3 4") ≡ refused 21
  pub arc_return : reading (ascii "p sp 2 1\na 1 2 3\r") ≡ refused 21
  pub one_too_many : reading (ascii "p sp 2 0\na 1 2 5") ≡ refused 23
  pub one_too_few : reading (ascii "p sp 2 2\na 1 2 5") ≡ refused 23
  pub far_too_few : reading (ascii "p sp 2 4294967297\na 1 2 5") ≡ refused 23
  pub later_form_wins : reading (ascii "p sp 2 0\na 1 2 5\nx") ≡ refused 21
  pub later_point_wins : reading (ascii "p sp 2 0\na 1 2 5\na 1 3 5") ≡ refused 22

pub record Words : Type 0 where
  pub shortest : words 6 (ascii "p sp 2 3\na 1 2 9\na 1 2 7\na 1 2 8\n") ≡ 0 ∷ 7 ∷ 65535 ∷ 0 ∷ 0 ∷ 0 ∷ []
  pub stride : words 10 (ascii "p sp 3 2\na 3 1 4\na 1 3 5") ≡ 0 ∷ 65535 ∷ 5 ∷ 65535 ∷ 0 ∷ 65535 ∷ 4 ∷ 65535 ∷ 0 ∷ 0 ∷ []
  pub self : words 5 (ascii "p sp 2 2\na 1 1 9\na 2 1 0") ≡ 0 ∷ 65535 ∷ 0 ∷ 0 ∷ 0 ∷ []
  pub long : words 4 (ascii "p sp 2 2\na 1 2 9999999999\na 2 1 65535") ≡ 0 ∷ 65534 ∷ 65534 ∷ 0 ∷ []
  pub just_far : words 4 (ascii "p sp 2 2\na 1 2 65534\na 2 1 65533") ≡ 0 ∷ 65534 ∷ 65533 ∷ 0 ∷ []
  pub zeroed : words 4 (ascii "p sp 2 2\na 1 2 7") ≡ 0 ∷ 0 ∷ 0 ∷ 0 ∷ []
