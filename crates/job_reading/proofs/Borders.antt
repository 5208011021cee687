-- The border texts, by computation.
use mathlib.Core.Path.{refl}
use Rattle.memory.specs.Lists.{any}
use Rattle.text.specs.Numeral.{decimal, digits}
use Rattle.text.specs.Pieces.{cut, lines, placed, parts}
use Rattle.job_form.specs.Tokens.{name, token_of}
use Rattle.job_form.specs.Forms.{words, opening, head_of, form_of}
use Rattle.job_reading.specs.Steps.{step}
use Rattle.job_reading.specs.Reading.{follow, reading_of}
use Rattle.job_reading.specs.claims.Borders.{Borders}

pub borders : Borders
unfolding reading_of follow step any form_of head_of opening words token_of name digits decimal parts placed lines cut
borders = record {
  empty = refl;
  algebras_buffer = refl;
  sizes_buffer = refl;
  only_comments = refl;
  carriage_return = refl;
  empty_list = refl;
  order_33 = refl;
  order_dash = refl;
  order_long = refl;
  part-more = refl;
  no_name = refl;
  number_for_name = refl;
  part_behind = refl;
  name_before_long = refl;
  long_before_size = refl;
  size_above = refl;
  numeral_then_part = refl;
  dash_in_reach = refl;
  dash_by_job = refl;
  word_by_job = refl;
  word_in_reach = refl;
  length_before_word = refl;
  no_words = refl;
  space_at_bracket = refl;
  comment_behind = refl;
  row_too_many = refl;
  closed_early = refl;
  bracket_and_more = refl;
  ends_early = refl;
  after_the_end = refl;
  loose = refl;
  mixed = refl;
}
