-- So far the bytes before this one are printed.
use Rattle.std.proofs.Common.{take}
use Rattle.text.specs.inner.Printed.{Printed}
use Rattle.text.proofs.page.Page.text.Given as goal

abbrev pub invariant-loop-byte : goal.invariant-loop-byte
invariant-loop-byte l = Printed l.initial.page (take l.byte-index l.text) l.page
