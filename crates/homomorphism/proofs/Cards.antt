-- The cards of request K6, by computation.
use Prim.Native.Nat.{ℕ, zero, suc, ◌<◌}
use native.Mathlib.Omega.{arith}
use mathlib.Core.Path.{◌≡◌, refl}
use mathlib.Core.Logic.{◌≢◌}
use Rattle.memory.specs.Lists.{list_of, any}
use Rattle.semiring.specs.declared.Algebra.TheVariants.{Distance, Steepest}
use Rattle.closure.specs.Table.{entries}
use Rattle.closure.specs.Elimination.{passes, closure, eliminated}
use Rattle.job_list.specs.Jobs.{offset, algebra_of}
use Rattle.job_list.specs.Fits.{above_before}
use Rattle.systolic.specs.Tick.{cell_after, planes_after, emitted, emitted_rows, ticked, ticks}
use Rattle.systolic.specs.Run.{ran_on, refused_run, ran}
use Rattle.systolic.specs.claims.Demand.{runs}
use Rattle.homomorphism.specs.Support.{support}
use Rattle.homomorphism.specs.claims.Agreement.{Agree}
use Rattle.homomorphism.specs.claims.Cards.{AgreementCards, links, reach_links}
use Rattle.homomorphism.proofs.Agreement.{support_agrees}

-- The six pairs off the diagonal, one by one; steepest has the same none.
six : (i j : ℕ) → i < 3 → j < 3 → i ≢ j → entries 3 reach_links i j ≡ support Distance (entries 3 links i j)
six zero zero hi hj d = absurd (d refl)
six zero (suc zero) hi hj d = refl
six zero (suc (suc zero)) hi hj d = refl
six zero (suc (suc (suc j))) hi hj d = absurd (omega arith)
six (suc zero) zero hi hj d = refl
six (suc zero) (suc zero) hi hj d = absurd (d refl)
six (suc zero) (suc (suc zero)) hi hj d = refl
six (suc zero) (suc (suc (suc j))) hi hj d = absurd (omega arith)
six (suc (suc zero)) zero hi hj d = refl
six (suc (suc zero)) (suc zero) hi hj d = refl
six (suc (suc zero)) (suc (suc zero)) hi hj d = absurd (d refl)
six (suc (suc zero)) (suc (suc (suc j))) hi hj d = absurd (omega arith)
six (suc (suc (suc i))) j hi hj d = absurd (omega arith)

three : (i : ℕ) → i < 3 → Agree Distance (entries 3 reach_links i i) (entries 3 links i i) → ⊥
three zero h agree = agree.one refl refl
three (suc zero) h agree = let e : ◌≡◌ {A = ℕ} 0 1 = agree.some (λ d. omega arith) in omega arith
three (suc (suc zero)) h agree = let e : ◌≡◌ {A = ℕ} 0 1 = agree.some (λ d. omega arith) in omega arith
three (suc (suc (suc i))) h agree = omega arith

pub agreement_cards : AgreementCards
unfolding list_of any passes closure eliminated offset algebra_of above_before cell_after planes_after emitted emitted_rows ticked ticks ran_on refused_run ran runs
agreement_cards = record {
  diagonals = three;
  same_links = λ i j hi hj d. support_agrees Distance (six i j hi hj d);
  same_links_steepest = λ i j hi hj d. support_agrees Steepest (six i j hi hj d);
  reach = refl;
  distance = refl;
  steepest = refl;
  one_list = refl;
}
