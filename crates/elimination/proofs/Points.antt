-- The loop over the points, two at a time.
use Prim.Native.Nat.{ℕ, ◌+◌, ◌<◌, ◌≤◌}
use native.Mathlib.Omega.{arith}
use native.Mathlib.Numerals.{add-one, add-two}
use mathlib.Core.Path.{◌≡◌, refl, sym, ◌∙◌}
use mathlib.Core.List.{List}
use lib.ListN.{length}
use Rattle.semiring.specs.declared.Algebra.{Algebra}
use Rattle.closure.specs.Table.{Table, Holds}
use Rattle.closure.specs.Elimination.{through, passes}
use Rattle.closure.proofs.Holds.{holds_row_by_row}
use Rattle.elimination.specs.inner.Rows.{Square}
use Rattle.elimination.specs.inner.Passes.{Passed, PassedTwice, PassedAll}

pub passes_none : (a : Algebra) (t : Table) → passes a t 0 ≡ t
unfolding passes
passes_none a t = refl

pub passes_one : (a : Algebra) (t : Table) (k : ℕ) → passes a t (k + 1) ≡ through a k (passes a t k)
unfolding passes
passes_one a t k = rw (add-one k)

passes_two : (a : Algebra) (t : Table) (k : ℕ) → passes a t (k + 2) ≡ through a (k + 1) (through a k (passes a t k))
unfolding passes
passes_two a t k = rw (add-two k, add-one k)

-- The passes of points 0 to k - 1 were made on `old`, and the memory is l; `via` and `next` have room for a row.
pub record Closing (a : Algebra) (n : ℕ) (old via next : List ℕ) (k : ℕ) (l : List ℕ) : Type 0 where
  pub count : k ≤ n
  pub via_room : length via ≡ 128
  pub next_room : length next ≡ 128
  pub square : Square n l
  pub holds : (t : Table) → Holds n t old → Holds n (passes a t k) l

pub begins : {a : Algebra} {n : ℕ} {old via next : List ℕ} → Square n old → length via ≡ 128 → length next ≡ 128 → Closing a n old via next 0 old
begins {a} square via next = record {
  count = omega arith;
  via_room = via;
  next_room = next;
  square = square;
  holds = λ t holds. rw (passes_none a t) holds;
}

module _ {a : Algebra} {n k : ℕ} {old via next l : List ℕ} (c : Closing a n old via next k l) where
  pub room_via : 128 ≡ length via
  room_via = sym c.via_room

  pub room_next : 128 ≡ length next
  room_next = sym c.next_room

  pub goes_on : {k' : ℕ} {via' next' new : List ℕ} → k' ≡ k + 2 → k + 1 < n → PassedTwice a n k l new → length via' ≡ length via
      → length next' ≡ length next → length new ≡ length l → Closing a n old via' next' k' new
  goes_on e below passed via_kept next_kept kept = record {
    count = omega arith;
    via_room = via_kept ∙ c.via_room;
    next_room = next_kept ∙ c.next_room;
    square = record { most = c.square.most; words = kept ∙ c.square.words };
    holds = λ t holds. rw (e, passes_two a t k) (passed.holds (passes a t k) (c.holds t holds));
  }

  pub ends_odd : {last : ℕ} {new : List ℕ} → k ≡ last → last + 1 ≡ n → Passed a n last l new → PassedAll a n old new
  ends_odd e e' passed = record {
    words = λ t holds. holds_row_by_row (rw (← passes_one a t _, e') at (passed.holds (passes a t _) (rw e at (c.holds t holds))));
  }

  pub ends_even : n ≤ k → PassedAll a n old l
  ends_even last = let e : k ≡ n = omega (arith, c.count) in record { words = λ t holds. holds_row_by_row (rw e at (c.holds t holds)) }
