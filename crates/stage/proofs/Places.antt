-- Where the jobs' parts lie: within the words of the list, which are few.
use Prim.Native.Nat.{ℕ, ◌+◌, ◌*◌, ◌<◌, ◌≤◌}
use native.Mathlib.Omega.{arith}
use mathlib.Core.Path.{◌≡◌, refl, sym, ap, ◌∙◌}
use mathlib.Core.List.{List}
use mathlib.Core.Bool.{Bool, true, false, true≢false}
use lib.ListN.{length, get_or, set}
use mir.Syntax.{w64}
use mir.Val.{Fits}
use Rattle.semiring.specs.declared.Algebra.{Algebra}
use Rattle.semiring.specs.declared.Algebra.TheVariants.{Reach}
use Rattle.job_list.specs.Jobs.{algebra_of, offset}
use Rattle.job_list.specs.Fits.{Small}
use Rattle.job_list.proofs.Places.{offset_none, offset_one, part_within}
use Rattle.job_list.proofs.Fits.{area_fits, offset_most, words_most}
use Rattle.memory.specs.Walked.{Walked}
use Rattle.memory.proofs.Walk.{walked_none, walked_one}
use Rattle.turns.specs.Turn.{live, job_in}
use Rattle.turns.proofs.Turns.{live_job}
use Rattle.stage.specs.Found.{Listed, Findable, Found}

-- The job of a pass, from the numbers of the code and what `live` answered.
module _ {algebras sizes starts : List ℕ} (asked : Findable algebras sizes starts) (pass : ℕ) {answer : Bool} (is : answer ≡ live (length sizes) pass) (found : answer ≡ true) where
  abbrev listed : Listed sizes starts
  listed = asked.listed

  e : live (length sizes) pass ≡ true
  e = sym is ∙ found

  job_there : job_in pass < length sizes
  job_there = live_job (length sizes) pass e

  job_fits : offset sizes (job_in pass) + get_or sizes (job_in pass) 0 * get_or sizes (job_in pass) 0 ≤ 16384
  job_fits = omega (arith, part_within sizes (job_in pass) job_there, listed.words)

  module _ {size : ℕ} (f : size ≡ get_or sizes (job_in pass) 0) where
    pub end_room : Fits w64 (get_or starts (job_in pass) 0 + size * size)
    end_room = omega (arith, job_fits, ap (λ (x : ℕ). x * x) f, listed.start (job_in pass) job_there)

    pub job_found : {a : Algebra} → a ≡ algebra_of algebras (job_in pass)
        → Found algebras sizes pass (record { algebra = a; size = size; start = get_or starts (job_in pass) 0; end = get_or starts (job_in pass) 0 + size * size })
    job_found named =
        let start_at = listed.start (job_in pass) job_there in
        record {
          algebra = record { is = λ h. named };
          end = refl;
          within = rw (start_at, f) (part_within sizes (job_in pass) job_there);
          size = λ h. f;
          start = λ h. start_at;
          idle = λ h. absurd (true≢false (sym e ∙ h));
        }

pub none_found : {algebras sizes : List ℕ} {pass : ℕ} {answer : Bool} → answer ≡ live (length sizes) pass → answer ≡ false
    → Found algebras sizes pass (record { algebra = Reach; size = 0; start = 0; end = 0 })
none_found is idle = record {
  algebra = record { is = λ h. absurd (true≢false (sym h ∙ sym is ∙ idle)) };
  end = refl;
  within = omega arith;
  size = λ h. absurd (true≢false (sym h ∙ sym is ∙ idle));
  start = λ h. absurd (true≢false (sym h ∙ sym is ∙ idle));
  idle = λ h. refl;
}

-- The starts of the first q jobs found, and where the next one begins.
pub record Marked (sizes old starts : List ℕ) (q at : ℕ) : Type 0 where
  pub within : q ≤ length sizes
  pub next : at ≡ offset sizes q
  pub found : Walked (λ p word. offset sizes p) old q starts

pub begins : (sizes old : List ℕ) → Marked sizes old old 0 0
begins sizes old = record { within = omega arith; next = sym (offset_none sizes); found = walked_none }

module _ (sizes old starts : List ℕ) (q at : ℕ) (m : Marked sizes old starts q at) (more : q < length sizes)
    (asked : (length sizes ≤ length old) × Small sizes) where
  pub sum_room : (size : ℕ) → size ≡ get_or sizes q 0 → Fits w64 (at + size * size)
  sum_room size e = rw e (omega (arith, area_fits (asked.1.small q more), m.next, offset_most asked.1 q m.within, asked.1.few))

  pub goes_on : (size : ℕ) → size ≡ get_or sizes q 0 → Marked sizes old (set starts q at) (q + 1) (at + size * size)
  goes_on size e = record {
    within = omega arith;
    next = rw (e, m.next) (sym (offset_one sizes q more));
    found = walked_one _ m.found (omega (arith, asked.0)) m.next;
  }

pub ends : (sizes old starts : List ℕ) (q at : ℕ) → Marked sizes old starts q at → length sizes ≤ q
    → (length sizes ≤ length old) × Small sizes → Listed sizes starts
ends sizes old starts q at m last asked = record {
  few = asked.1.few;
  room = omega (arith, m.found.size, asked.0);
  start = λ p h. m.found.inside p (omega arith) (omega arith);
  words = words_most asked.1;
}
