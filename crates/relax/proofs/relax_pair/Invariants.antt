-- Two rows walked in one loop (Pairing).
use Rattle.relax.proofs.Pairs.{Pairing}
use Rattle.relax.proofs.relax_pair.Given as goal

abbrev pub invariant-loop-p : goal.invariant-loop-p
invariant-loop-p l = Pairing l.a l.n l.k l.via l.next l.fn.rows l.x l.y l.u l.v l.p l.rows
