-- What a part stands for, from what the code found of it.
use Prim.Native.Nat.{ℕ, ◌≤◌, ◌<◌}
use native.Mathlib.Omega.{arith}
use mathlib.Core.Path.{◌≡◌, refl, sym, ◌∙◌}
use mathlib.Core.List.{List, [], ◌∷◌}
use mathlib.Core.Bool.{Bool, true, false, cond}
use lib.ListN.{length}
use Rattle.text.specs.Ascii.{ascii}
use Rattle.memory.specs.Lists.{same}
use Rattle.text.specs.Numeral.{digits}
use Rattle.job_form.specs.declared.tokens.Token.{Token}
use Rattle.job_form.specs.declared.tokens.Token.TheVariants.{Dash, Other}
use Rattle.job_form.specs.Tokens.{numeral_token, name, token_of}

pub token_none : (p : List ℕ) → length p < 1 → Other ≡ token_of p
unfolding token_of
token_none [] h = refl
token_none (b ∷ p) h = absurd (omega arith)

some : (p : List ℕ) → 1 ≤ length p → token_of p ≡ cond (digits p) (numeral_token p) (cond (same p (ascii "-")) Dash (name p))
unfolding token_of
some [] h = absurd (omega arith)
some (b ∷ p) h = refl

module _ (p : List ℕ) (h : 1 ≤ length p) (d : Bool) (all : d ≡ digits p) where
  pub token_number : (t : Token) → d ≡ true → t ≡ numeral_token p → t ≡ token_of p
  token_number t e f = rw (some p h, sym all ∙ e) f

  module _ (not-all : d ≡ false) (e : Bool) (dash : e ≡ same p (ascii "-")) where
    pub token_dash : e ≡ true → Dash ≡ token_of p
    token_dash f = rw (some p h, sym all ∙ not-all, sym dash ∙ f)

    pub token_name : (t : Token) → e ≡ false → t ≡ name p → t ≡ token_of p
    token_name t f g = rw (some p h, sym all ∙ not-all, sym dash ∙ f) g
