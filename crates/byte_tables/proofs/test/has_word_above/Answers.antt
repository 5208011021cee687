-- Outside reach no word of two bytes is above the largest one.
use Rattle.std.proofs.Common.{arith}
use Rattle.semiring.proofs.Above.{none_outside_reach}
use Rattle.byte_tables.proofs.Parts.{decoded_16}
use Rattle.byte_tables.proofs.test.has_word_above.Goals as goal

pub returns-in-Distance : goal.returns-in-Distance
returns-in-Distance c = none_outside_reach _ _ c.in-Distance.is (decoded_16 _ (λ p k. omega (arith, c.type_inv.bytes p)))
