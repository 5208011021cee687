-- A text of more than 65,536 bytes is refused for its length, before any line is read.
use Prim.Native.Nat.{ℕ, ◌<◌}
use native.Mathlib.Omega.{arith}
use mathlib.Core.Path.{◌≡◌, refl, sym, ap, ◌∙◌}
use mathlib.Core.List.{List, ◌++◌}
use lib.ListN.{length, length-append}
use borrow.Author.Tests.{lt-ltb}
use Rattle.job_reading.specs.Reading.{refused, refusal, reading_of}
use Rattle.text.specs.Numeral.{numeral}
use Rattle.sheet_form.specs.Sheet.{printed}
use Rattle.sheet_form.specs.claims.Longer.{LongerText, LongerInput}

too_long : (text : List ℕ) → 65536 < length text → reading_of 16 16 16384 text ≡ refused (refusal 13 0)
unfolding reading_of
too_long text h = rw (lt-ltb 65536 (length text) h)

pub longer_text : LongerText
unfolding numeral
longer_text text h = ap printed (too_long text h)

pub longer_input : LongerInput
longer_input text h = record {
  same = λ more.
      let k : 65536 < length (text ++ more) = omega (arith, length-append text more) in
      longer_text (text ++ more) k ∙ sym (longer_text text h);
}
