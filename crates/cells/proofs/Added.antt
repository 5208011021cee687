-- c of some rows from its words: of one row, by what its cells do, and of rows all of whose cells add.
use Prim.Native.Nat.{ℕ, ◌+◌, ◌-◌, ◌*◌, ◌<◌, ◌≤◌}
use native.Mathlib.Nat.{mul-le-mul_right}
use native.Mathlib.Omega.{arith}
use native.Mathlib.Decide.{dec_lt, ℕ_discrete}
use mathlib.Core.Path.{◌≡◌, refl, sym, ap, ◌∙◌}
use mathlib.Core.List.{List}
use mathlib.Core.Bool.{Bool, true, false, true≢false, cond, ◌&&◌, and-false}
use lib.ListN.{length, get_or}
use lib.Dec.{eqb, ltb}
use borrow.Author.Tests.{eq-eqb, ne_eqb, ltb-true}
use Rattle.memory.proofs.Any.{both_true}
use Rattle.memory.proofs.Geometry.{same_digits, row_fits}
use Rattle.memory.specs.Walked.{Spanned}
use Rattle.semiring.specs.Algebra.{sum_of, product_of}
use Rattle.semiring.specs.declared.Algebra.{Algebra}
use Rattle.turns.proofs.Geometry.{rows_apart, rows_fit}
use Rattle.turns.proofs.Spans.{span_in, span_out, digits_here, digits_behind, begins_first, begins_parts}
use Rattle.turns.specs.Layout.{words_at}
use Rattle.turns.specs.Spans.{Spans}
use Rattle.turns.specs.Turn.{live, pass_in, Phase, step_of, sums}
use Rattle.turns.specs.declared.columns.Columns.{Columns}
use Rattle.turns.specs.declared.turn.Turn.{Turn}
use Rattle.cells.specs.Work.{cStart, new_c, adding}
use Rattle.cells.specs.Rows.{Row, Rows, Done}
use Rattle.cells.specs.Settled.{added, Begun}
use Rattle.cells.proofs.Bounds.{rows_pass}

-- The words of c in these rows, and that the others are as they were.
module _ (algebra : Algebra) (count n u from to : ℕ) (old new : List ℕ) (fits : to ≤ n) (size : length new ≡ length old)
    (before : (p : ℕ) → p < from * n → get_or new p 0 ≡ get_or old p 0) (after : (p : ℕ) → to * n ≤ p → get_or new p 0 ≡ get_or old p 0)
    (words : (i j pass k : ℕ) → from ≤ i → i < to → j < n → Phase n u i j pass k
    → get_or new (i * n + j) 0 ≡ new_c algebra count pass k (words_at n old i j)) where
  a_kept : (i j : ℕ) → get_or new (n * n + (i * n + j)) 0 ≡ get_or old (n * n + (i * n + j)) 0
  a_kept i j = after (n * n + (i * n + j)) (omega (arith, rows_fit n fits))

  b_kept : (i j : ℕ) → get_or new (2 * (n * n) + (i * n + j)) 0 ≡ get_or old (2 * (n * n) + (i * n + j)) 0
  b_kept i j = after (2 * (n * n) + (i * n + j)) (omega (arith, rows_fit n fits))

  c_done : Done (adding algebra count) n u old from to new
  c_done = record {
    size = size;
    inside = λ i j pass k f g b on.
        λ x. record { c = words i j pass k f g b on x; a = a_kept i j x; b = b_kept i j x };
    before = λ i j f b.
        λ x. record { c = before (i * n + j) (omega (arith, rows_apart n f)) x; a = a_kept i j x; b = b_kept i j x };
    after = λ i j f g b.
        λ x. record { c = after (i * n + j) (omega (arith, mul-le-mul_right n f)) x; a = a_kept i j x; b = b_kept i j x };
  }

c_start_off : (algebra : Algebra) (p k c : ℕ) → (p ≡ 0 → k ≡ 0 → ⊥) → cStart algebra p k c ≡ c
c_start_off algebra p k c f = go (ℕ_discrete p 0)
  where
    go : Dec (p ≡ 0) → cStart algebra p k c ≡ c
    go (yes e) = rw (ne_eqb k 0 (f e), and-false (eqb p 0))
    go (no e) = rw (ne_eqb p 0 e)

-- The word v of c after the sum f, from w before it, by the two tests.
by_tests : (x y : Bool) (v w b c : ℕ) (f : ℕ → ℕ) → w ≡ cond x b c → ((x && y) ≡ true → v ≡ f w) → ((x && y) ≡ false → v ≡ w)
    → v ≡ cond x (cond y (f b) b) c
by_tests true true v w b c f e g h = g refl ∙ ap f e
by_tests true false v w b c f e g h = h refl ∙ e
by_tests false y v w b c f e g h = h refl ∙ e

-- a and b where the sum reads them.
added_cell : (algebra : Algebra) (n : ℕ) (l : List ℕ) (i j word : ℕ)
    → added algebra (n * n) l (i * n + j) word
    ≡ sum_of algebra word (product_of algebra (get_or l (n * n + (i * n + j)) 0) (get_or l (2 * (n * n) + (i * n + j)) 0))
added_cell algebra n l i j word =
    let u : i * n + j + n * n ≡ n * n + (i * n + j) = omega arith in
    let v : i * n + j + 2 * (n * n) ≡ 2 * (n * n) + (i * n + j) = omega arith in
    rw (u, v)

-- One row: the cell that starts, then the span of those that add.
module _ {algebra : Algebra} {n count i : ℕ} {s : Turn} {r : Columns} {l l₁ l₂ : List ℕ} (row : Row n count i s l)
    (begun : Begun algebra count (i * n) s l l₁) (span : Spans n (sums count) (step_of n s) r)
    (adds : Spanned (added algebra (n * n) l₁) l₁ (i * n + r.from) (i * n + r.to) l₂) where
  not_begun : (p : ℕ) → (i * n ≤ p → p < i * n + n → ⊥) → get_or l₁ p 0 ≡ get_or l p 0
  not_begun p f = begun.kept p (λ d g. f (omega arith) (omega (arith, row.below)))

  module _ (j pass k : ℕ) (b : j < n) (h : k < n) (e : n * pass + k + j ≡ step_of n s) where
    kept : (live count pass ≡ true → pass_in pass ≡ 0 → k ≡ 0 → ⊥) → get_or l₁ (i * n + j) 0 ≡ get_or l (i * n + j) 0
    kept f = begun.kept (i * n + j) (λ d begin.
        let (on, first) = begins_parts count s.pass begin in
        let (x, y) = same_digits {x = pass} {y = k} {x' = s.pass} {y' = 0} h (omega arith) (omega arith) in
        f (ap (live count) x ∙ on) (ap pass_in x ∙ first) y)

    begun_word : get_or l₁ (i * n + j) 0
        ≡ cond (live count pass) (cStart algebra (pass_in pass) k (get_or l (i * n + j) 0)) (get_or l (i * n + j) 0)
    begun_word = go (live count pass) refl (ℕ_discrete (pass_in pass) 0) (ℕ_discrete k 0)
      where
        go : (x : Bool) → live count pass ≡ x → Dec (pass_in pass ≡ 0) → Dec (k ≡ 0)
            → get_or l₁ (i * n + j) 0 ≡ cond x (cStart algebra (pass_in pass) k (get_or l (i * n + j) 0)) (get_or l (i * n + j) 0)
        go true f (yes g) (yes z) =
            let (x, y) = same_digits {x = s.pass} {y = s.point} {x' = pass} {y' = j} row.below b (omega arith) in
            rw (eq-eqb (pass_in pass) 0 g, eq-eqb k 0 z, ← y) (begun.start (sym (begins_first count s.pass (ap pass_in x ∙ g)) ∙ ap (live count) x ∙ f))
        go true f (yes g) (no z) =
            kept (λ u v w. z w) ∙ sym (c_start_off algebra (pass_in pass) k (get_or l (i * n + j) 0) (λ v w. z w))
        go true f (no g) z =
            kept (λ u v w. g v) ∙ sym (c_start_off algebra (pass_in pass) k (get_or l (i * n + j) 0) (λ v w. g v))
        go false f g z = kept (λ u v w. true≢false (sym u ∙ f))

    row_word : get_or l₂ (i * n + j) 0 ≡ new_c algebra count pass k (words_at n l i j)
    row_word =
        by_tests (live count pass) (ltb (pass_in pass) 3) (get_or l₂ (i * n + j) 0) (get_or l₁ (i * n + j) 0)
        (cStart algebra (pass_in pass) k (get_or l (i * n + j) 0)) (get_or l (i * n + j) 0)
        (λ z. sum_of algebra z (product_of algebra (get_or l (n * n + (i * n + j)) 0) (get_or l (2 * (n * n) + (i * n + j)) 0)))
        begun_word
        (λ f.
        let (d, d') = span_in span j pass k b h e f in
        adds.inside (i * n + j) (omega arith) (omega arith)
        ∙ added_cell algebra n l₁ i j (get_or l₁ (i * n + j) 0)
        ∙ rw (
          not_begun (n * n + (i * n + j)) (λ x y. omega (arith, row_fits row.row)),
          not_begun (2 * (n * n) + (i * n + j)) (λ x y. omega (arith, row_fits row.row)),
        ))
        (λ f. outside f (dec_lt j r.from) (dec_lt j r.to))
      where
        outside : sums count pass ≡ false → Dec (j < r.from) → Dec (j < r.to) → get_or l₂ (i * n + j) 0 ≡ get_or l₁ (i * n + j) 0
        outside f (yes d) d' = adds.before (i * n + j) (omega arith)
        outside f (no d) (no d') = adds.after (i * n + j) (omega arith)
        outside f (no d) (yes d') = absurd (span_out span j pass k b h e f (omega arith) d')

  pub row_added : Done (adding algebra count) n (step_of n s + i) l i (i + 1) l₂
  row_added =
      c_done algebra count n (step_of n s + i) i (i + 1) l l₂ (omega (arith, row.row)) (adds.size ∙ begun.size)
      (λ p f. adds.before p (omega arith) ∙ not_begun p (λ x y. omega arith))
      (λ p f. adds.after p (omega (arith, span.within)) ∙ not_begun p (λ x y. omega arith))
      (λ m j pass k f g b on.
      let e : m ≡ i = omega arith in
      rw e (row_word j pass k b on.below (omega (arith, on.at))))

-- Rows whose first cells are in one pass, where this pass and the one before add: no cell starts.
module _ (algebra : Algebra) {n count from to : ℕ} {s : Turn} {old new : List ℕ} (rows : Rows n count from to s old)
    (near : to ≤ from + s.point + 1) (adds_here : sums count s.pass ≡ true) (adds_behind : sums count (s.pass - 1) ≡ true)
    (adds : Spanned (added algebra (n * n) old) old (from * n) (to * n) new) where
  module _ (i j pass k : ℕ) (f : from ≤ i) (g : i < to) (b : j < n) (on : Phase n (step_of n s + from) i j pass k) where
    both : (sums count pass ≡ true) × (pass_in pass ≡ 0 → k ≡ 0 → ⊥)
    both = go (dec_lt (s.point - (i - from)) j)
      where
        z : Turn
        z = record { pass = s.pass; point = s.point - (i - from) }

        e : n * pass + k + j ≡ step_of n z
        e = omega (arith, on.at)

        go : Dec (s.point - (i - from) < j) → (sums count pass ≡ true) × (pass_in pass ≡ 0 → k ≡ 0 → ⊥)
        go (yes d) =
            let (x, y) = digits_behind n z (omega (arith, rows.below)) (rows_pass rows) j pass k on.below e b d in
            (ap (sums count) x ∙ adds_behind, λ v w. omega (arith, rows.below))
        go (no d) =
            let (x, y) = digits_here n z (omega (arith, rows.below)) (rows_pass rows) j pass k on.below e (omega arith) in
            let (on-behind, early) = both_true (live count (s.pass - 1)) (ltb (pass_in (s.pass - 1)) 3) adds_behind in
            let third = ltb-true (pass_in (s.pass - 1)) 3 early in
            (ap (sums count) x ∙ adds_here, λ v w. omega (arith, rows_pass rows))

    band_word : get_or new (i * n + j) 0 ≡ new_c algebra count pass k (words_at n old i j)
    band_word =
        let (x, y) = both in
        let (p, q) = both_true (live count pass) (ltb (pass_in pass) 3) x in
        rw (p, q, c_start_off algebra (pass_in pass) k (get_or old (i * n + j) 0) y)
        (adds.inside (i * n + j) (omega (arith, mul-le-mul_right n f)) (omega (arith, rows_apart n g))
        ∙ added_cell algebra n old i j (get_or old (i * n + j) 0))

  pub band_added : Done (adding algebra count) n (step_of n s + from) old from to new
  band_added = c_done algebra count n (step_of n s + from) from to old new rows.fits adds.size adds.before adds.after band_word
