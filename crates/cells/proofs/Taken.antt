-- What a and b of a row take from c: each column by its pass and point, from the stores that the code makes.
use Prim.Native.Nat.{ℕ, ◌+◌, ◌*◌, ◌<◌, ◌≤◌}
use native.Mathlib.Omega.{arith}
use native.Mathlib.Decide.{dec_lt, ℕ_discrete}
use mathlib.Core.Path.{◌≡◌, refl, sym, ap, ◌∙◌}
use mathlib.Core.List.{List}
use mathlib.Core.Bool.{Bool, true, false, cond, ◌&&◌, and-false}
use lib.ListN.{get_or}
use lib.Dec.{eqb}
use borrow.Author.Tests.{eq-eqb, ne_eqb}
use Rattle.memory.proofs.Geometry.{row_fits}
use Rattle.turns.proofs.Geometry.{rows_apart}
use Rattle.turns.proofs.Spans.{span_in, span_out, digits_here, digits_behind}
use Rattle.turns.specs.Layout.{words_at}
use Rattle.turns.specs.Spans.{Spans}
use Rattle.turns.specs.Turn.{live, step_of, sums}
use Rattle.turns.specs.declared.columns.Columns.{Columns}
use Rattle.turns.specs.declared.turn.Turn.{Turn}
use Rattle.cells.specs.Work.{taking}
use Rattle.cells.specs.Rows.{Row, Done}
use Rattle.cells.specs.Settled.{Took, Column}

-- The words of a plane after a store in a span of a row.
module _ {f : ℕ → ℕ} {x plane at n u : ℕ} {test : ℕ → Bool} {span : Columns} {l l' : List ℕ}
    (took : Took f x plane at span l l') (spans : Spans n test u span) where
  off : (p : ℕ) → (plane + at ≤ p → p < plane + at + n → ⊥) → get_or l' p 0 ≡ get_or l p 0
  off p g = took.kept p (λ j d e h q. g (omega arith) (omega (arith, spans.within)))

  word : (j pass k : ℕ) → j < n → k < n → n * pass + k + j ≡ u
      → get_or l' (plane + (at + j)) 0 ≡ cond (test pass && eqb (f j) x) (get_or l (at + j) 0) (get_or l (plane + (at + j)) 0)
  word j pass k b h e = go (test pass) refl (ℕ_discrete (f j) x)
    where
      go : (t : Bool) → test pass ≡ t → Dec (f j ≡ x)
          → get_or l' (plane + (at + j)) 0 ≡ cond (t && eqb (f j) x) (get_or l (at + j) 0) (get_or l (plane + (at + j)) 0)
      go true t (yes d) = let (v, w) = span_in spans j pass k b h e t in rw (eq-eqb (f j) x d) (took.put j v w d)
      go true t (no d) =
          rw (ne_eqb (f j) x d)
          (took.kept (plane + (at + j)) (λ m v w y q. let z : j ≡ m = omega arith in d (ap f z ∙ y)))
      go false t d = took.kept (plane + (at + j)) (λ m v w y q. span_out spans j pass k b h e t (omega arith) (omega arith))

same_test : (x y z w : ℕ) → (x ≡ y → z ≡ w) → (z ≡ w → x ≡ y) → eqb x y ≡ eqb z w
same_test x y z w f g = go (ℕ_discrete x y)
  where
    go : Dec (x ≡ y) → eqb x y ≡ eqb z w
    go (yes d) = eq-eqb x y d ∙ sym (eq-eqb z w (f d))
    go (no d) = ne_eqb x y d ∙ sym (ne_eqb z w (λ e. d (g e)))

module _ {n count i col : ℕ} {s : Turn} {moved summed : Columns} {l l₁ l₂ l₃ : List ℕ} (row : Row n count i s l)
    (moves : Spans n (live count) (step_of n s) moved) (adds : Spans n (sums count) (step_of n s) summed)
    (own : Took (λ j. 2 * j) s.point (n * n) (i * n) moved l l₁)
    (own_behind : Took (λ j. 2 * j) (s.point + n) (n * n) (i * n) moved l₁ l₂)
    (column : Column n i s.point col) (turned : Took (λ j. j) col (2 * (n * n)) (i * n) summed l₂ l₃) where
  a_off : (p : ℕ) → (n * n + i * n ≤ p → p < n * n + i * n + n → ⊥) → get_or l₂ p 0 ≡ get_or l p 0
  a_off p f = off own_behind moves p f ∙ off own moves p f

  module _ (j pass k : ℕ) (b : j < n) (h : k < n) (e : n * pass + k + j ≡ step_of n s) where
    here : j ≤ s.point → k + j ≡ s.point
    here d = (digits_here n s row.below row.least j pass k h e d).1

    behind : s.point < j → k + j ≡ s.point + n
    behind d = (digits_behind n s row.below row.least j pass k h e b d).1

    a_word : get_or l₂ (n * n + (i * n + j)) 0
        ≡ cond (live count pass && eqb k j) (get_or l (i * n + j) 0) (get_or l (n * n + (i * n + j)) 0)
    a_word = word own_behind moves j pass k b h e ∙ go (dec_lt s.point j)
      where
        go : Dec (s.point < j)
            → cond (live count pass && eqb (2 * j) (s.point + n)) (get_or l₁ (i * n + j) 0) (get_or l₁ (n * n + (i * n + j)) 0)
            ≡ cond (live count pass && eqb k j) (get_or l (i * n + j) 0) (get_or l (n * n + (i * n + j)) 0)
        go (yes d) = rw (
          same_test (2 * j) (s.point + n) k j (λ z. omega (arith, behind d)) (λ z. omega (arith, behind d)),
          off own moves (i * n + j) (λ p q. omega (arith, row_fits row.row)),
          word own moves j pass k b h e,
          ne_eqb (2 * j) s.point (λ z. omega arith),
          and-false (live count pass),
        )
        go (no d) = rw (
          ne_eqb (2 * j) (s.point + n) (λ z. omega (arith, row.below)),
          and-false (live count pass),
          word own moves j pass k b h e,
          same_test (2 * j) s.point k j (λ z. omega (arith, here (omega arith))) (λ z. omega (arith, here (omega arith))),
        )

    -- the column whose point is the row
    is_column : k ≡ i → j ≡ col
    is_column d = go (dec_lt s.point j) (dec_lt s.point col)
      where
        go : Dec (s.point < j) → Dec (s.point < col) → j ≡ col
        go (yes y) (yes z) = omega (arith, behind y, column.behind z)
        go (yes y) (no z) = absurd (omega (arith, behind y, column.here (omega arith)))
        go (no y) (yes z) = absurd (omega (arith, here (omega arith), column.behind z, column.within))
        go (no y) (no z) = omega (arith, here (omega arith), column.here (omega arith))

    column-is : j ≡ col → k ≡ i
    column-is d = go (dec_lt s.point j)
      where
        go : Dec (s.point < j) → k ≡ i
        go (yes y) = omega (arith, behind y, column.behind (omega arith))
        go (no y) = omega (arith, here (omega arith), column.here (omega arith))

    b_word : get_or l₃ (2 * (n * n) + (i * n + j)) 0
        ≡ cond (sums count pass && eqb k i) (get_or l (i * n + j) 0) (get_or l (2 * (n * n) + (i * n + j)) 0)
    b_word =
        word turned adds j pass k b h e
        ∙ rw (
          same_test j col k i column-is is_column,
          a_off (i * n + j) (λ p q. omega (arith, row_fits row.row)),
          a_off (2 * (n * n) + (i * n + j)) (λ p q. omega (arith, row_fits row.row)),
        )

  others : (p : ℕ) → (n * n + i * n ≤ p → p < n * n + i * n + n → ⊥) → (2 * (n * n) + i * n ≤ p → p < 2 * (n * n) + i * n + n → ⊥)
      → get_or l₃ p 0 ≡ get_or l p 0
  others p f g = off turned adds p g ∙ a_off p f

  cell_kept : (m j : ℕ) → m < n → j < n → (i * n < m * n + n → m * n < i * n + n → ⊥) → words_at n l₃ m j ≡ words_at n l m j
  cell_kept m j d b apart =
      let here = row_fits row.row in
      let there = row_fits d in
      λ x. record {
        c = others (m * n + j) (λ y z. omega arith) (λ y z. omega arith) x;
        a = others (n * n + (m * n + j)) (λ y z. apart (omega arith) (omega arith)) (λ y z. omega arith) x;
        b = others (2 * (n * n) + (m * n + j)) (λ y z. omega arith) (λ y z. apart (omega arith) (omega arith)) x;
      }

  row_cell : (j pass k : ℕ) → j < n → k < n → n * pass + k + j ≡ step_of n s → words_at n l₃ i j ≡ taking count i j pass k (words_at n l i j)
  row_cell j pass k b h e =
      let here = row_fits row.row in
      λ x. record {
        c = others (i * n + j) (λ y z. omega arith) (λ y z. omega arith) x;
        a = (off turned adds (n * n + (i * n + j)) (λ y z. omega arith) ∙ a_word j pass k b h e) x;
        b = b_word j pass k b h e x;
      }

  pub row_took : Done (taking count) n (step_of n s + i) l i (i + 1) l₃
  row_took = record {
    size = turned.size ∙ own_behind.size ∙ own.size;
    inside = λ m j pass k f g b on.
        let e : m ≡ i = omega arith in
        rw e (row_cell j pass k b on.below (omega (arith, on.at)));
    before = λ m j f b. cell_kept m j (omega (arith, row.row)) b (λ y z. omega (arith, rows_apart n f));
    after = λ m j f g b.
        let f' : i < m = omega arith in
        cell_kept m j g b (λ y z. omega (arith, rows_apart n f'));
  }
