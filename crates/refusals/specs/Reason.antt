-- Document 01, "Where each call turns back", and requests K2, K7 and K9: the number of each reason, the same wherever a call gives it.
use Rattle.std.specs.Prelude.{ℕ}
use Rattle.refusals.specs.declared.Reason.{Reason}
use Rattle.refusals.specs.declared.Reason.TheVariants as why

abbrev pub reason_number : Reason → ℕ
-- "1 algebra unknown; 2 size; 3 weights not n² words; 4 result not n² words; 5 a reach word above 1, diagonal too"
reason_number why.AlgebraUnknown = 1
reason_number why.SizeOutside = 2
reason_number why.WeightsLength = 3
reason_number why.ResultLength = 4
reason_number why.WordAbove = 5
-- "6 order; 7 sizes not 1 to 16 many; 8 a job's size outside 1 to N; .. 9 state not 4 + 3N² words"
reason_number why.OrderOutside = 6
reason_number why.JobsOutside = 7
reason_number why.JobSizeOutside = 8
reason_number why.StateLength = 9
-- "10 state shorter than 4, ..; 11 sizes not Q many; .. 12 scratch length"
reason_number why.StateUnfit = 10
reason_number why.JobsDiffer = 11
reason_number why.ScratchLength = 12
-- "18 sizes not 16 or weights not 16,384 words; 13 over 65,536 bytes; .. 14 not the form due; 15 a numeral over 5 digits or above 65535, or `-` in
-- reach; 16 row length; .. 17 any line after the end .. 17 the text ends early"
reason_number why.TextLength = 13
reason_number why.FormNotDue = 14
reason_number why.NumeralOver = 15
reason_number why.RowLength = 16
reason_number why.TextEnd = 17
reason_number why.BufferLength = 18
-- K2: "a list memory not n words long, a point outside the table, or a closed table that isn't the elimination's, is 19; an entry that is none is
-- 20"
reason_number why.WayUnfit = 19
reason_number why.NoWay = 20
-- K7: what a road file is refused for
reason_number why.RoadForm = 21
reason_number why.RoadRange = 22
reason_number why.RoadCount = 23
-- K9: "A link whose worst word betters its best one is 24"
reason_number why.RangeInverted = 24
