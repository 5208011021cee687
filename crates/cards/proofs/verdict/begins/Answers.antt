-- `begins` meets its contract: the page's part and the text are compared word by word.
use Rattle.std.proofs.Common.{◌≡◌, ℕ, List, [], ◌∷◌, refl, ◌∙◌, length, take, arith}
use lib.Pointwise.{pointwise}
use lib.Dec.{eqb}
use Rattle.memory.specs.Lists.{same}
use Rattle.cards.proofs.verdict.begins.Goals as goal

eqb-swap : (x y : ℕ) → eqb y x ≡ eqb x y
eqb-swap x y = grind arith

alike : (text page : List ℕ) → pointwise eqb text page ≡ same page text
alike [] [] = refl
alike [] (x ∷ page) = refl
alike (y ∷ text) [] = refl
alike (y ∷ text) (x ∷ page) = rw (eqb-swap x y, alike text page) refl

pub returns : goal.returns
returns c = c.starts_with.ensures.value ∙ alike c.args.text.now (take (length c.args.text.now) c.args.page.now)
