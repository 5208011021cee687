-- What a line says, and what the parts after its first say.
use Rattle.std.specs.Prelude.{ℕ, ◌<◌, ◌≤◌, ◌≡◌, List, Bool, true, false, length, get_or, take, Option, None, Some}
use Prim.Native.Char.{code}
use Rattle.text.specs.inner.Scan.{Until}
use Rattle.road_form.specs.declared.forms.Line.{Line}
use Rattle.road_form.specs.declared.forms.Line.TheVariants.{Unknown}
use Rattle.road_form.specs.declared.forms.Said.{Said}
use Rattle.road_form.specs.Forms.{form_of}

pub record Says (form : List (List ℕ) → Line) (ps : List (List ℕ)) (r : Line) : Type 0 where
  pub is : r ≡ form ps

pub record LineRead (line : List ℕ) (r : Line) : Type 0 where
  pub is : r ≡ form_of line

-- The first line of a text.
pub record LineSaid (text : List ℕ) (r : Said) : Type 0 where
  pub ends : Until (code "\n") 0 text r.end
  pub says : LineRead (take r.end text) r.line

pub record UnknownSaid (text : List ℕ) (r : Said) : Type 0 where
  pub ends : Until (code "\n") 0 text r.end
  pub line : r.line ≡ Unknown

-- An arc's line, or that the first line is none of a known form.
pub record ArcSaid (text : List ℕ) (r : Option Said) : Type 0 where
  pub some : (said : Said) → r ≡ Some said → LineSaid text said
  pub none : r ≡ None → (said : Said) → UnknownSaid text said → LineSaid text said

-- Whether the first line ends at a place that is not behind its end.
pub record EndsAt (text : List ℕ) (at : ℕ) (r : Bool) : Type 0 where
  pub yes : r ≡ true → (e : ℕ) → Until (code "\n") 0 text e → at ≤ e → at ≡ e
  pub no : r ≡ false → (e : ℕ) → Until (code "\n") 0 text e → at ≤ e → at < e

-- A text that begins with `a` and a space.
pub record ArcBegins (text : List ℕ) : Type 0 where
  pub two : 2 ≤ length text
  pub name : get_or text 0 0 ≡ code "a"
  pub spaced : get_or text 1 0 ≡ code " "

pub record ArcTold (text : List ℕ) (r : Bool) : Type 0 where
  pub yes : r ≡ true → ArcBegins text
  pub no : r ≡ false → ArcBegins text → ⊥

-- One line, which is no arc's.
pub record Plain (line : List ℕ) : Type 0 where
  pub one : Until (code "\n") 0 line (length line)
  pub no_arc : ArcBegins line → ⊥
