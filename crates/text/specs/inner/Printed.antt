-- Printing on a page, as far as there is room. For the proofs.
use Rattle.std.specs.Prelude.{ℕ, ◌+◌, ◌-◌, min, ◌≡◌, List, length}
use Rattle.std.proofs.lemmas.List.Edits.{sets}
use Rattle.text.specs.declared.page.Page.{Page}

-- The page `new` after a text was printed on `old`: the bytes lent are the same ones, and hold the text from old's position on.
pub record Printed (old : Page) (text : List ℕ) (new : Page) : Type 0 where
  pub same_bytes : new.bytes.ghost_name ≡ old.bytes.ghost_name
  pub bytes : new.bytes.now ≡ sets old.bytes.now old.at text
  pub size : length new.bytes.now ≡ length old.bytes.now
  pub after : new.at ≡ old.at + min (length old.bytes.now - old.at) (length text)
