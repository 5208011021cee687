use Rattle.std.proofs.Common.{arith}
use Rattle.semiring.proofs.Above.{none_outside_reach}
use Rattle.semiring.proofs.words.has_word_above.Goals as goal

pub returns-in-Distance : goal.returns-in-Distance
returns-in-Distance c = none_outside_reach _ _ c.in-Distance.is (λ p h. omega (arith, c.type_inv.words p))
