-- The walk that lays out a table, by the places of a memory: from one place on the diagonal to the next there are n others.
use Prim.Native.Nat.{ℕ, ◌+◌, ◌*◌, ◌-◌, ◌/◌, ◌%◌, ◌<◌, ◌≤◌, min, zero-le}
use native.Mathlib.Nat.{mul-le-mul_right, div-add-mod'}
use native.Mathlib.Decide.{dec_lt}
use native.Mathlib.Omega.{arith}
use mathlib.Core.Path.{◌≡◌, refl, sym, ap, ◌∙◌}
use mathlib.Core.List.{List}
use mathlib.Core.Bool.{cond}
use lib.Arith.{digits_div, digits_mod}
use lib.Dec.{eqb}
use lib.ListN.{length, get_or, set, take, drop, length-set}
use borrow.Author.Tests.{eq-eqb, ne_eqb}
use Rattle.memory.specs.Lists.{replaced}
use Rattle.memory.specs.Walked.{Walked}
use Rattle.memory.proofs.ListOf.{length_list_of, get_d_list_of}
use Rattle.memory.proofs.Part.{part_length, part_word}
use Rattle.memory.proofs.Walk.{walked_none, walked_one, walked_part, walked_to, spanned_as, walked_same, walked_front}
use Rattle.semiring.specs.Algebra.{own_of}
use Rattle.semiring.specs.declared.Algebra.{Algebra}
use Rattle.closure.specs.Table.{Table, entries, row_by_row, with_own}
use Rattle.table_layout.specs.LaidOut.{laid_out, ToLayOut}

-- The table with `own` on its diagonal, and what is to stand at place p.
abbrev pub owned : ℕ → ℕ → List ℕ → Table
owned own n weights i j = cond (eqb i j) own (entries n weights i j)

abbrev pub laid : ℕ → ℕ → List ℕ → ℕ → ℕ → ℕ
laid own n weights p word = owned own n weights (p / n) (p % n)

module _ (own n : ℕ) (weights : List ℕ) where
  on_diagonal : (d at : ℕ) → at ≡ d * n + d → d < n → laid own n weights at 0 ≡ own
  on_diagonal d at e h = rw (e, digits_div d h, digits_mod d h, eq-eqb d d refl)

  -- the n places that follow are not on it: a place c * n + c lies at or before `at`, or at or past the next
  off-diagonal : (d at j : ℕ) → at ≡ d * n + d → j < n → laid own n weights (at + 1 + j) 0 ≡ get_or weights (at + 1 + j) 0
  off-diagonal d at j e h =
      let p : ℕ = at + 1 + j in
      let whole : p / n * n + p % n ≡ p = div-add-mod' p n in
      rw (ne_eqb (p / n) (p % n) (λ same. no_diagonal (p / n) (rw (← same) at whole) (dec_lt d (p / n)))) (rw whole)
    where
      no_diagonal : (c : ℕ) → c * n + c ≡ at + 1 + j → Dec (d < c) → ⊥
      no_diagonal c place (yes past) = omega (arith, mul-le-mul_right n past)
      no_diagonal c place (no before) = omega (arith, mul-le-mul_right {m = c} {n = d} n (omega arith))

-- a place on the diagonal that is inside is in one of the n rows
in_rows : (d n : ℕ) → d * n + d < n * n → Dec (d < n) → d < n
in_rows d n h (yes k) = k
in_rows d n h (no k) = absurd (omega (arith, mul-le-mul_right {m = n} {n = d} n (omega arith)))

-- The first m steps over `old`, where the walk has come to the place `at` on the diagonal, or past m, and the memory is l.
pub record Laying (own n m : ℕ) (weights old : List ℕ) (at : ℕ) (l : List ℕ) : Type 0 where
  pub row : ℕ
  pub place : at ≡ row * n + row
  pub walked : Walked (laid own n weights) old (min at m) l

pub begins : {own n m : ℕ} {weights old : List ℕ} → Laying own n m weights old 0 old
begins {n = n} = record { row = 0; place = omega arith; walked = walked_to walked_none (omega arith) }

module _ {own n m : ℕ} {weights old : List ℕ} {at : ℕ} {l : List ℕ} (c : Laying own n m weights old at l) (asked : ToLayOut n m weights old) where
  -- the next stretch
  module _ (h : at < m) where
    module _ {to : ℕ} (e : to ≡ min (at + 1 + n) m) where
      pub weights_inside : to ≤ length weights
      weights_inside = omega (arith, asked.weights_fit, asked.steps)

      pub table_inside : to ≤ length (set l at own)
      table_inside = simp length-set (omega (arith, asked.table_fit, asked.steps, c.walked.size))

      -- the own word, then the words of the weights up to `to`, given back as `new`
      pub goes_on : (new : List ℕ) → length new ≡ to - (at + 1) → ((j : ℕ) → j < to - (at + 1) → get_or new j 0 ≡ get_or weights (at + 1 + j) 0)
          → Laying own n m weights old (at + (n + 1)) (replaced (at + 1) (to - (at + 1)) new (set l at own))
      goes_on new size word =
          let inside : at < length old = omega (arith, asked.table_fit, asked.steps) in
          let d : c.row < n = in_rows c.row n (omega (arith, c.place, asked.table_fit)) (dec_lt c.row n) in
          let come : Walked (laid own n weights) old at l = walked_to c.walked (omega arith) in
          let first = walked_one own come inside (sym (on_diagonal own n weights c.row at c.place d)) in
          record {
            row = c.row + 1;
            place = omega (arith, c.place);
            walked = walked_to
                (walked_part (to - (at + 1)) new first (omega (arith, asked.table_fit, asked.steps)) size
                (λ j k. word j k ∙ sym (off-diagonal own n weights c.row at j c.place (omega arith))))
                (omega arith);
          }

      -- so too, where they were lent and copied
      pub copied : {new : List ℕ}
          → (let from : List ℕ = take (to - (at + 1)) (drop (at + 1) weights) in
          Walked (λ p word. get_or from p 0) (take (to - (at + 1)) (drop (at + 1) (set l at own))) (length from) new)
          → Laying own n m weights old (at + (n + 1)) (replaced (at + 1) (to - (at + 1)) new (set l at own))
      copied {new} c' =
          let w : ℕ = to - (at + 1) in
          let fits : at + 1 + w ≤ length weights = omega (arith, weights_inside) in
          let from : length (take w (drop (at + 1) weights)) ≡ w = part_length (at + 1) w weights fits in
          let into : length (take w (drop (at + 1) (set l at own))) ≡ w = part_length (at + 1) w (set l at own) (omega (arith, table_inside)) in
          goes_on new (c'.size ∙ into) (λ j k. c'.inside j zero-le (omega arith) ∙ part_word (at + 1) w weights fits j k)

  pub ends : (a : Algebra) → m ≤ at → own ≡ own_of a → l ≡ laid_out a n m weights old
  ends a h e =
      let table : List ℕ = row_by_row n (with_own a (entries n weights)) in
      let size : length table ≡ n * n = length_list_of (n * n) (λ p. with_own a (entries n weights) (p / n) (p % n)) in
      let come : Walked (laid own n weights) old m l = walked_to c.walked (omega arith) in
      walked_same
      (spanned_as come
      (λ p u k.
      ap (λ (x : ℕ). laid x n weights p 0) e
      ∙ sym (get_d_list_of (n * n) (λ q. with_own a (entries n weights) (q / n) (q % n)) p (omega (arith, asked.steps)))))
      (walked_front table old m (omega (arith, asked.steps)) (omega (arith, asked.steps, asked.table_fit)))
