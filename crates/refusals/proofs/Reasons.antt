-- No reason has the number 0, which is "none otherwise".
use Prim.Native.Nat.{ℕ}
use native.Mathlib.Omega.{arith}
use mathlib.Core.Path.{◌≡◌, sym, ap, ◌∙◌}
use Rattle.refusals.specs.Reason.{reason_number}
use Rattle.refusals.specs.declared.Reason.{Reason}
use Rattle.refusals.specs.declared.Reason.TheVariants as why

pub reason_some : (reason : Reason) → reason_number reason ≡ 0 → ⊥
reason_some why.AlgebraUnknown e = omega arith
reason_some why.SizeOutside e = omega arith
reason_some why.WeightsLength e = omega arith
reason_some why.ResultLength e = omega arith
reason_some why.WordAbove e = omega arith
reason_some why.OrderOutside e = omega arith
reason_some why.JobsOutside e = omega arith
reason_some why.JobSizeOutside e = omega arith
reason_some why.StateLength e = omega arith
reason_some why.StateUnfit e = omega arith
reason_some why.JobsDiffer e = omega arith
reason_some why.ScratchLength e = omega arith
reason_some why.TextLength e = omega arith
reason_some why.FormNotDue e = omega arith
reason_some why.NumeralOver e = omega arith
reason_some why.RowLength e = omega arith
reason_some why.TextEnd e = omega arith
reason_some why.BufferLength e = omega arith
reason_some why.WayUnfit e = omega arith
reason_some why.NoWay e = omega arith
reason_some why.RoadForm e = omega arith
reason_some why.RoadRange e = omega arith
reason_some why.RoadCount e = omega arith
reason_some why.RangeInverted e = omega arith
