-- `text::until` meets its contract: it returns at the first byte `end`, or where the bytes end.
use Rattle.text.proofs.Walks.{passed_found, passed_end}
use Rattle.text.proofs.bytes.until.Goals as goal

pub returns-then-bytes-at : goal.returns-then-bytes-at
returns-then-bytes-at c = search passed_found

pub returns : goal.returns
returns c = search passed_end
