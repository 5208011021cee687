-- Each byte goes behind those before it.
use Rattle.text.proofs.Printed.{printed_byte}
use Rattle.text.proofs.page.Page.text.Goals as goal

pub loop-byte-preserved : goal.loop-byte-preserved
loop-byte-preserved c = search printed_byte
