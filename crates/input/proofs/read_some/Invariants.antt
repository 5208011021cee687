-- `read_some`: the reads that were interrupted gave nothing.
use Rattle.std.specs.Io.KnownBytes.{Keeps}
use Rattle.input.proofs.read_some.Given as goal

abbrev pub invariant-again : goal.invariant-again
invariant-again g l = Keeps (g.R.Read.remaining l.fn.from) (g.R.Read.remaining l.from)
