-- Each of the two entries is, its tick past, the elimination's word of its job (demand 3), and these agree.
use Prim.Native.Nat.{ℕ}
use native.Mathlib.Decide.{ℕ_discrete}
use native.Mathlib.Omega.{arith}
use mathlib.Core.Path.{◌≡◌, refl, sym, ap, ◌∙◌}
use mathlib.Core.List.{List}
use lib.ListN.{length}
use Rattle.systolic.specs.claims.Demand.{Call, Runs, Claim}
use Rattle.systolic.specs.claims.Corollaries.{Past}
use Rattle.semiring.specs.declared.Algebra.{Algebra}
use Rattle.closure.specs.Elimination.{closure}
use Rattle.job_list.specs.Jobs.{Jobs, size, algebra, words_of, job_weights, jobs_of}
use Rattle.systolic.proofs.Demand.{start_claim}
use Rattle.systolic.proofs.Corollaries.{past_word}
use Rattle.homomorphism.specs.claims.Agreement.{by_start}
use Rattle.homomorphism.specs.claims.Arrays.{AgreementArray, AgreementList}
use Rattle.homomorphism.proofs.Agreement.{agreement}

-- Where the length of the results doesn't fit the jobs no tick is made, so none is past.
past_fits : {J : Jobs} {begun : List ℕ} {calls : List Call} {results : List ℕ} {after : Runs} → Claim J begun calls results after
    → {q i k : ℕ} → Past J q i k after → length results ≡ words_of J.sizes
past_fits {J} {results} claim past =
    elim (ℕ_discrete (length results) (words_of J.sizes)) [
      | yes e ↦ e
      | no d ↦ let none_made = (claim.unfit d).0 in let tick = past.tick in absurd (omega arith)
    ]

pub agreement_array : AgreementArray
agreement_array order order' algebras sizes weights state algebras' sizes' weights' state' e e' calls calls' results results'
    q q' in_reach same_size same i k past past' =
    let J = jobs_of algebras order sizes weights in
    let J' = jobs_of algebras' order' sizes' weights' in
    let a = algebra J' q' in
    let claim = start_claim algebras order sizes weights state e calls results in
    let claim' = start_claim algebras' order' sizes' weights' state' e' calls' results' in
    rw (
      past_word claim (past_fits claim past) past ∙ ap (λ (b : Algebra). closure b (size J q) (job_weights J q) i k) in_reach,
      past_word claim' (past_fits claim' past') past'
          ∙ ap (λ (n : ℕ). closure a n (job_weights J' q') i k) (sym same_size),
    )
    (agreement a (size J q) (job_weights J q) (job_weights J' q')
    (by_start algebras order sizes weights state e q past.job (sym in_reach) refl refl)
    (by_start algebras' order' sizes' weights' state' e' q' past'.job refl same_size refl)
    same i k past.row past.column)

pub agreement_list : AgreementList
agreement_list algebras order sizes weights state e calls results =
    agreement_array order order algebras sizes weights state algebras sizes weights state e e calls calls results results
