-- "16-bit words": claims over every lent memory of words ask for these, so a smaller range here would make all of them weaker.
use Rattle.std.specs.Prelude.{[], ◌∷◌}
use Rattle.refusals.specs.Conditions.{Words16}

pub record WordCards : Type 0 where
  pub largest : Words16 (0 ∷ 65535 ∷ [])
  pub no_larger : Words16 (65536 ∷ []) → ⊥
