-- The listing of document 01 reads to its words.
use mathlib.Core.Path.{refl}
use Rattle.memory.specs.Lists.{any}
use Rattle.text.specs.Pieces.{cut, lines, placed, parts}
use Rattle.text.specs.Numeral.{decimal, digits}
use Rattle.job_form.specs.Tokens.{name, token_of}
use Rattle.job_form.specs.Forms.{words, opening, head_of, form_of}
use Rattle.job_reading.specs.Steps.{step}
use Rattle.job_reading.specs.Reading.{follow, reading_of}
use Rattle.job_reading.specs.claims.Listing.{Listing}

pub listing_read : Listing
unfolding reading_of follow step any form_of head_of opening words token_of name digits decimal parts placed lines cut
listing_read = refl
