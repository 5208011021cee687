-- What a call gives, read off the list's memory.
use Prim.Native.Nat.{ℕ, ◌≤◌, ◌<◌}
use native.Mathlib.Omega.{arith}
use mathlib.Core.Path.{◌≡◌, refl, sym, ap, ◌∙◌}
use mathlib.Core.Logic.{inl, inr}
use mathlib.Core.List.{List, [], ◌∷◌, ◌++◌}
use lib.ListN.{length, take, drop}
use lib.Seq.{take_at, drop_at}
use borrow.Author.Tests.{ne_eqb}
use Rattle.semiring.specs.Algebra.{Betters}
use Rattle.semiring.specs.Named.{named_of}
use Rattle.semiring.specs.declared.Algebra.{Algebra}
use Rattle.semiring.proofs.Numbers.{Names, named_or_above}
use Rattle.closure.specs.Table.{entries}
use Rattle.closure.specs.Elimination.{closure, eliminated}
use Rattle.closure.specs.Ways.{Way, stay, step, Visits, now, later, NoRepeat, more}
use Rattle.closure.specs.claims.Demand.{word_over}
use Rattle.closure.proofs.Demand.{closure_best}
use Rattle.closure.proofs.Holds.{row_by_row_holds}
use Rattle.ways.specs.Tests.{way_tests}
use Rattle.ways.specs.Given.{Attains}
use Rattle.ways.specs.claims.Reading.{ReadOff, WayRead, WayKept, WayReadHost, WayKeptHost}
use Rattle.ways.proofs.Accepted.{WayAccepted, way_accepted}
use Rattle.ways.proofs.Follow.{way_short}
use Rattle.std.specs.Prelude.{Some as Known}

way_visits_end : {n i j : ℕ} {l : List ℕ} → Way n i j l → Visits j l
way_visits_end (stay h) = now
way_visits_end (step h w) = later (way_visits_end w)

-- The way from a point to itself without a repeat is that point alone.
way_alone : {n i j : ℕ} {l : List ℕ} → Way n i j l → NoRepeat l → i ≡ j → l ≡ i ∷ []
way_alone (stay h) once e = refl
way_alone (step h w) (more f once) e = absurd (f (rw e (way_visits_end w)))

way_some : {n i j : ℕ} {l : List ℕ} → Way n i j l → 1 ≤ length l
way_some (stay h) = omega arith
way_some (step h w) = omega arith

-- The closed table's entries are the elimination's.
pub closed_entry : (a : Algebra) (n : ℕ) (w : List ℕ) {c : List ℕ} {i j : ℕ} → c ≡ eliminated a n w → i < n → j < n → entries n c i j ≡ closure a n w i j
unfolding eliminated
closed_entry a n w {i} {j} e h k = rw e ((row_by_row_holds n (closure a n w)).word i j h k)

module _ {a : Algebra} {n : ℕ} {w c : List ℕ} {from to : ℕ} {list : List ℕ} (input : WayAccepted a n w c from to list) where
  unbettered : (l : List ℕ) → Way n from to l → Betters a (word_over a n w l) (entries n c from to) → ⊥
  unbettered l way =
      rw (closed_entry a n w input.closed input.from_inside input.to_inside)
      ((closure_best a n w input.input.words input.from_inside input.to_inside).unbettered l way)

  read_off : {count : ℕ} {list' points : List ℕ} → Attains a n w from to (entries n c from to) points → count ≡ length points
      → list' ≡ points ++ drop (length points) list → ReadOff a n w c from to count list list'
  read_off {count} {list'} {points} found carried memory =
      let front : take count list' ≡ points = rw memory (take_at points (drop (length points) list) count (sym carried)) in
      record {
        attains = rw front found;
        unbettered = unbettered;
        after = rw (memory, drop_at points (drop (length points) list) count (sym carried), ← carried) refl;
        least = omega (arith, way_some found.way);
        most = omega (arith, way_short found.way found.once);
        alone = λ e. front ∙ way_alone found.way found.once e;
      }

pub way_read : WayRead
way_read count algebra n w c from to list list' given = go (named_or_above algebra)
  where
    go : Names algebra → (a : Algebra) × (named_of algebra ≡ Known a) × ReadOff a n w c from to count list list'
    go (inl (a, known, number)) =
        let zero_tests : way_tests (named_of algebra) n w c from to list ≡ 0 = sym given.outcome in
        let input : WayAccepted a n w c from to list = way_accepted (rw known at zero_tests) in
        (a, known, read_off input (given.free.accepted a known zero_tests) given.carried given.memory)
    go (inr (unknown, above)) = let e = rw unknown at given.outcome in absurd (omega arith)

pub way_kept : WayKept
way_kept number count algebra n w c from to list list' given refused =
    let none : given.points ≡ [] = given.free.refused (λ e. refused (given.outcome ∙ e)) in (
      given.memory ∙ ap (λ (points : List ℕ). points ++ drop (length points) list) none,
      given.carried ∙ ap length none,
    )

pub way_read_host : WayReadHost
way_read_host algebra n w c from to list list' stored stored' host =
    rw host.written (way_read host.count algebra n w c from to list list' host.given)

pub way_kept_host : WayKeptHost
way_kept_host number algebra n w c from to list list' stored stored' host refused = (
  (way_kept number host.count algebra n w c from to list list' host.given refused).0,
  rw (ne_eqb number 0 refused) at host.written,
)
