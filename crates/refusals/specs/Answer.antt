-- Document 01, "Where each call turns back": "the first that applies is returned, and none otherwise".
use Rattle.std.specs.Prelude.{ℕ, Result, Ok, Err}
use Rattle.refusals.specs.Reason.{reason_number}
use Rattle.refusals.specs.declared.Reason.{Reason}

-- The number of what a call or a table of tests answers, 0 where nothing turned it back.
abbrev pub answer_number : {A : Type 0} → Result A Reason → ℕ
answer_number (Ok value) = 0
answer_number (Err reason) = reason_number reason
