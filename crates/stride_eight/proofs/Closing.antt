-- The passes over rows of eight words: each row as the walk of `relax` leaves it, and the table through point after point.
use Prim.Native.Nat.{ℕ, ◌+◌, ◌*◌, ◌-◌, ◌<◌, ◌≤◌, zero-le}
use native.Mathlib.Omega.{arith}
use mathlib.Core.Path.{◌≡◌, ◌∙◌}
use mathlib.Core.List.{List}
use lib.Arith.{digits_div, digits_mod}
use lib.ListN.{length, get_or, take, drop}
use Rattle.memory.specs.Lists.{replaced}
use Rattle.memory.specs.Walked.{Walked}
use Rattle.memory.proofs.Part.{part_length, part_word}
use Rattle.semiring.specs.declared.Algebra.{Algebra}
use Rattle.closure.specs.Table.{Table, entries}
use Rattle.closure.specs.Elimination.{passes}
use Rattle.relax.specs.Relax.{relaxed}
use Rattle.elimination.specs.inner.Rows.{Square}
use Rattle.elimination.proofs.Rows.{RowsWalked, goes_on}
use Rattle.elimination.proofs.Points.{passes_none, passes_one}
use Rattle.stride_eight.specs.Strided.{Room}
use Rattle.stride_eight.specs.inner.Passes.{Holds, RowsRelaxed, PassedAll}

-- A room is a square of eight by eight words, of which the first n rows are walked.
square : {n : ℕ} {l : List ℕ} → Room n l → Square 8 l
square room = record { most = omega arith; words = room.words }

-- Rows 0 to i - 1 of `old` went through point k, and the memory is l.
pub record Relaxing (a : Algebra) (k : ℕ) (via old : List ℕ) (i : ℕ) (l : List ℕ) : Type 0 where
  pub rows : RowsWalked 8 (relaxed a k via) old i l

module _ {a : Algebra} {n k : ℕ} {via old : List ℕ} {i : ℕ} {l : List ℕ} (c : Relaxing a k via old i l) (room : Room n old) where
  pub row_relaxed : {new : List ℕ} → i < n
      → (let part : List ℕ = take (i * 8 + 8 - i * 8) (drop (i * 8) l) in Walked (relaxed a k via part) part (length part) new)
      → Relaxing a k via old (i + 1) (replaced (i * 8) (i * 8 + 8 - i * 8) new l)
  row_relaxed h done = record { rows = goes_on (square room) c.rows (omega (arith, room.most)) done }

  pub rows_relaxed : n ≤ i → k < n → RowsRelaxed a n k via old l
  rows_relaxed last below = record {
    word = λ i' j h h'.
        let j8 : j < 8 = omega (arith, room.most) in
        let k8 : k < 8 = omega (arith, room.most) in
        let row : i' * 8 + 8 ≤ length old = omega (arith, room.most, room.words) in
        c.rows.walked.inside (i' * 8 + j) zero-le (omega arith) ∙ rw (digits_div i' j8, digits_mod i' j8, part_word (i' * 8) 8 old row k k8);
  }

-- The passes of points 0 to k - 1 were made on `old`, and the memory is l; `via` has room for a row.
pub record Closing (a : Algebra) (n : ℕ) (old via : List ℕ) (k : ℕ) (l : List ℕ) : Type 0 where
  pub count : k ≤ n
  pub via_room : length via ≡ 8
  pub room : Room n l
  pub holds : (t : Table) → Holds n t old → Holds n (passes a t k) l

pub begins : {a : Algebra} {n : ℕ} {old via : List ℕ} → Room n old → length via ≡ 8 → Closing a n old via 0 old
begins {a} room via = record { count = zero-le; via_room = via; room = room; holds = λ t holds. rw (passes_none a t) holds }

module _ {a : Algebra} {n k : ℕ} {old via l : List ℕ} (c : Closing a n old via k l) where
  -- row k copied, then every row through k
  pub goes_through : {via' new : List ℕ} → k < n
      → (let part : List ℕ = take (k * 8 + 8 - k * 8) (drop (k * 8) l) in Walked (λ p word. get_or part p 0) via (length part) via')
      → RowsRelaxed a n k via' l new → length new ≡ length l → Closing a n old via' (k + 1) new
  goes_through {via'} h copied relaxes kept =
      let w : ℕ = k * 8 + 8 - k * 8 in
      let fits : k * 8 + w ≤ length l = omega (arith, c.room.most, c.room.words) in
      let link : (j : ℕ) → j < n → get_or via' j 0 ≡ entries 8 l k j =
      λ j h'. copied.inside j zero-le (omega (arith, part_length (k * 8) w l fits, c.room.most)) ∙ part_word (k * 8) w l fits j (omega (arith, c.room.most))
      in
      record {
        count = omega arith;
        via_room = copied.size ∙ c.via_room;
        room = record { most = c.room.most; words = kept ∙ c.room.words };
        holds = λ t holds.
            let now : Holds n (passes a t k) l = c.holds t holds in
            rw (passes_one a t k)
            (record {
              word = λ i j hi hj. relaxes.word i j hi hj ∙ rw (link j hj, now.word i j hi hj, now.word i k hi h, now.word k j h hj);
            });
      }

  pub ends : n ≤ k → PassedAll a n old l
  ends h = let e : k ≡ n = omega (arith, c.count) in record { holds = λ t holds. rw e at (c.holds t holds) }
