-- Cards for request K6: three points with links 0→1 and 1→2 of 40000, closed in all three algebras. The diagonals disagree everywhere,
-- and don't count. And as jobs of one list (request K8).
use Rattle.std.specs.Prelude.{ℕ, ◌<◌, ◌≡◌, List, [], ◌∷◌, ◌++◌, replicate}
use Rattle.semiring.specs.declared.Algebra.TheVariants.{Reach, Distance, Steepest}
use Rattle.closure.specs.Table.{entries}
use Rattle.closure.specs.Elimination.{eliminated}
use Rattle.systolic.specs.State.{state_length, scratch_length}
use Rattle.systolic.specs.claims.Demand.{Runs}
use Rattle.systolic.specs.claims.Corollaries.{started_runs}
use Rattle.homomorphism.specs.claims.Agreement.{Agree, SameLinks}

abbrev pub links : List ℕ
links = 65535 ∷ 40000 ∷ 65535 ∷ 65535 ∷ 7 ∷ 40000 ∷ 65535 ∷ 65535 ∷ 0 ∷ []

abbrev pub reach_links : List ℕ
reach_links = 1 ∷ 1 ∷ 0 ∷ 0 ∷ 0 ∷ 1 ∷ 0 ∷ 0 ∷ 0 ∷ []

-- A planner's list: the hall in reach, a point in steepest, the hall in distance, nose to tail in an array of order 3, run once.
abbrev pub planners_run : Runs
planners_run =
    started_runs (0 ∷ 2 ∷ 1 ∷ []) 3 (3 ∷ 1 ∷ 3 ∷ []) (reach_links ++ 9 ∷ links) (replicate (state_length 3) 0)
    (record { allowance = 65535; scratch = replicate (scratch_length 3) 0 } ∷ []) (replicate 19 0)

pub record AgreementCards : Type 0 where
  pub diagonals : (i : ℕ) → i < 3 → Agree Distance (entries 3 reach_links i i) (entries 3 links i i) → ⊥
  pub same_links : SameLinks Distance 3 reach_links links
  pub same_links_steepest : SameLinks Steepest 3 reach_links links
  pub reach : eliminated Reach 3 reach_links ≡ 1 ∷ 1 ∷ 1 ∷ 0 ∷ 1 ∷ 1 ∷ 0 ∷ 0 ∷ 1 ∷ []
  -- 80000 is far; before K4 it was none
  pub distance : eliminated Distance 3 links ≡ 0 ∷ 40000 ∷ 65534 ∷ 65535 ∷ 0 ∷ 40000 ∷ 65535 ∷ 65535 ∷ 0 ∷ []
  pub steepest : eliminated Steepest 3 links ≡ 0 ∷ 40000 ∷ 40000 ∷ 65535 ∷ 0 ∷ 40000 ∷ 65535 ∷ 65535 ∷ 0 ∷ []
  -- each job closed in its own algebra, as it is alone
  pub one_list : planners_run.results ≡ eliminated Reach 3 reach_links ++ 0 ∷ eliminated Distance 3 links
