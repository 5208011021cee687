-- `read_all` meets its contract: after each read the reads to come give what all of them give.
use Rattle.std.proofs.Common.{arith}
use Rattle.std.proofs.lemmas.Result.{err_from_is_err_and}
use Rattle.input.proofs.Reading.{reaching_on, bytes_on, reading_failed, reading_ended, reading_full}
use Rattle.input.proofs.read_all.Goals as goal

pub returns-in_err-n-clause-read : goal.returns-in_err-n-clause-read
returns-in_err-n-clause-read g c =
    let p = err_from_is_err_and c.from_residual.result c.from_residual.ensures.1 in
    rw p.1 (reading_failed c.loop-at.invariant.reads (omega arith))

pub returns-then-n-eq0-clause-read : goal.returns-then-n-eq0-clause-read
returns-then-n-eq0-clause-read g c = reading_ended c.loop-at.invariant.reads (omega arith)

pub loop-at-preserved : goal.loop-at-preserved
loop-at-preserved g c =
    let before = c.loop-at.invariant in
    let within = c.in_ok-n.ensures.within in
    record {
      reads = reaching_on before.reads _ (omega arith) (omega arith);
      bytes = bytes_on _ _ _ _ _ _ _ _ (omega arith) (omega arith) before.bytes c.in_ok-n.ensures.bytes.0;
    }

pub returns-clause-read : goal.returns-clause-read
returns-clause-read g c = reading_full c.loop-at.invariant.reads (omega arith)
