-- The cards of words in bytes, by computation.
use mathlib.Core.Path.{refl}
use Rattle.byte_tables.specs.Bytes.{decoded, encoded}
use Rattle.byte_tables.specs.claims.Cards.{ByteCards}

pub byte_cards : ByteCards
unfolding decoded encoded
byte_cards = record { read = refl; written = refl; odd = refl }
