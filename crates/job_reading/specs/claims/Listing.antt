-- Document 01, "Job text and bench program": the listing, with K8's first two lines, and the words that it reads to.
use Rattle.std.specs.Prelude.{◌≡◌, List, [], ◌∷◌, ℕ}
use Rattle.text.specs.Ascii.{ascii}
use Rattle.job_reading.specs.Reading.{accepted, reading_of}

abbrev pub listing : List ℕ
listing = ascii "(list 2\n(job 2 distance\n(row 0 5)\n(row - 0)\n)\n)\n"

abbrev pub Listing : Type 0
Listing = reading_of 16 16 16384 listing ≡ accepted 2 (1 ∷ []) (2 ∷ []) (0 ∷ 5 ∷ 65535 ∷ 0 ∷ [])
