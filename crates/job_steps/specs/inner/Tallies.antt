-- A row's tests from what was counted among its words.
use Rattle.std.specs.Prelude.{ℕ, List, [], ◌∷◌, Bool, not, eqb}
use Rattle.job_form.specs.declared.rows.Tally.{Tally}

abbrev pub tally_tests : Tally → ℕ → List (Bool × ℕ)
tally_tests c size =
    (c.other, 14)
    ∷ (c.over, 15)
    ∷ (not (eqb c.count size), 16)
    ∷ (c.above, 5)
    ∷ []
