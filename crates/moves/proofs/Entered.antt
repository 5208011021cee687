-- The edges' words put in: the left ones row by row into the first column of a, the top ones at once into the first row of b.
use Prim.Native.Nat.{ℕ, ◌+◌, ◌-◌, ◌*◌, ◌<◌, ◌≤◌}
use native.Mathlib.Omega.{arith}
use native.Mathlib.Decide.{dec_lt}
use mathlib.Core.Path.{◌≡◌, ap, ◌∙◌}
use mathlib.Core.List.{List}
use mathlib.Core.Bool.{cond}
use lib.ListN.{length, get_or, take, drop}
use Rattle.memory.proofs.Geometry.{row_fits}
use Rattle.memory.proofs.Part.{part_length, part_word, replaced_length, replaced_before, replaced_inside, replaced_after}
use Rattle.memory.specs.Lists.{replaced}
use Rattle.memory.specs.Walked.{Spanned, Walked}
use Rattle.moves.specs.Edges.{LeftEntered, Entered}
use Rattle.turns.specs.Layout.{Lent}
use Rattle.moves.specs.Lent.{WithEdges}
use Rattle.moves.proofs.Chosen.{in_span}
use Rattle.moves.proofs.Rows.{square}
use Rattle.turns.proofs.Geometry.{rows_apart}
use Rattle.moves.proofs.Stored.{same_row}
use Rattle.turns.specs.Spans.{Spans}
use Rattle.moves.specs.Stored.{Stored}
use Rattle.turns.specs.Turn.{live, Phase, step_of}
use Rattle.turns.specs.declared.columns.Columns.{Columns}
use Rattle.turns.specs.declared.turn.Turn.{Turn}

-- A word that is not in column 0.
off_column : (n i j m : ℕ) → 1 ≤ j → j < n → n * n + (i * n + j) ≡ n * n + m * n → ⊥
off_column n i j m h h' e = go (dec_lt i m) (dec_lt m i)
  where
    go : Dec (i < m) → Dec (m < i) → ⊥
    go (yes d) d' = omega (arith, rows_apart n d)
    go (no d) (yes d') = omega (arith, rows_apart n d')
    go (no d) (no d') = let f : i ≡ m = omega arith in let g = ap (λ (x : ℕ). x * n) f in omega arith

-- A part of a list copied to a part of another.
part_copied : (at w from w' : ℕ) (source : List ℕ) {l m : List ℕ} → at + w ≤ length l → from + w' ≤ length source → w ≡ w'
    → (let piece : List ℕ = take w' (drop from source) in Walked (λ p word. get_or piece p 0) (take w (drop at l)) (length piece) m)
    → Spanned (λ p word. get_or source (from + (p - at)) 0) l at (at + w) (replaced at w m l)
part_copied at w from w' source {l} {m} fits fits' same copied = record {
  size = replaced_length at w l fits m long;
  inside = λ j h h'.
      let e : j ≡ at + (j - at) = omega arith in
      ap (λ (x : ℕ). get_or (replaced at w m l) x 0) e
      ∙ replaced_inside at w l fits m long (j - at) (omega arith)
      ∙ copied.inside (j - at) (omega arith) (omega (arith, part_length from w' source fits'))
      ∙ part_word from w' source fits' (j - at) (omega arith);
  before = replaced_before at w l fits m long;
  after = replaced_after at w l fits m long;
}
  where
    long : length m ≡ w
    long = copied.size ∙ part_length at w l fits

-- Whatever was stored, the memory kept its length: the row's span is inside it.
top_fits : {n count : ℕ} {s : Turn} {r : Columns} {P : ℕ → Type 0} {place value : ℕ → ℕ} {old l : List ℕ} → Lent n count s old
    → Spans n (live count) (step_of n s) r → Stored P place value old l → 2 * (n * n) + r.to ≤ length l
top_fits {n} lent span stored = omega (arith, stored.size, span.within, lent.long, square n)

module _ {n count : ℕ} {s : Turn} {r : Columns} {edges old l₁ : List ℕ} (lent : Lent n count s old)
    (edged : WithEdges n old edges) (span : Spans n (live count) (step_of n s) r)
    (stored : LeftEntered n r.from r.to (take (2 * n - n) (drop n edges)) old l₁) where
  -- the words of c and b are not stored to
  unstored : (p : ℕ) → (n * n ≤ p → p < 2 * (n * n) → ⊥) → get_or l₁ p 0 ≡ get_or old p 0
  unstored p f = stored.kept p (λ i q z.
      let h : i < n = omega (arith, q.1, span.within) in
      f (omega arith) (omega (arith, row_fits h)))

  left_word : (i pass k : ℕ) → i < n → Phase n (step_of n s) i 0 pass k
      → get_or l₁ (n * n + i * n) 0 ≡ cond (live count pass) (get_or edges (n + i) 0) (get_or old (n * n + i * n) 0)
  left_word i pass k h on =
      in_span pass k span h on.below (omega (arith, on.at))
      (λ x y. stored.put i (x, y) ∙ part_word n (2 * n - n) edges (omega (arith, edged.wide)) i (omega arith))
      (λ x. stored.kept (n * n + i * n) (λ m q z. let e = same_row n i m (omega arith) z in omega (arith, q.0)))
      (λ x. stored.kept (n * n + i * n) (λ m q z. let e = same_row n i m (omega arith) z in omega (arith, q.1)))

  pub entered_of : {m : List ℕ} → (let at : ℕ = 2 * (n * n) + r.from in
      let piece : List ℕ = take (r.to - r.from) (drop r.from edges) in
      Walked (λ p word. get_or piece p 0) (take (2 * (n * n) + r.to - at) (drop at l₁)) (length piece) m)
      → Entered n count (step_of n s) edges old
      (replaced (2 * (n * n) + r.from) (2 * (n * n) + r.to - (2 * (n * n) + r.from)) m l₁)
  entered_of {m} copied =
      let room = 2 * (n * n) + r.to - (2 * (n * n) + r.from) in
      let top = part_copied (2 * (n * n) + r.from) room r.from (r.to - r.from) edges
      (omega (arith, top_fits lent span stored, span.order)) (omega (arith, span.order, span.within, edged.wide)) (omega (arith, span.order)) copied in
      record {
        size = top.size ∙ stored.size;
        left = λ i pass k h on. top.before (n * n + i * n) (omega (arith, row_fits h)) ∙ left_word i pass k h on;
        top = λ j pass k h on.
            in_span pass k span h on.below (omega (arith, on.at))
            (λ x y.
            let e : r.from + (2 * (n * n) + j - (2 * (n * n) + r.from)) ≡ j = omega arith in
            top.inside (2 * (n * n) + j) (omega arith) (omega (arith, span.order)) ∙ ap (λ (z : ℕ). get_or edges z 0) e)
            (λ x. top.before (2 * (n * n) + j) (omega arith) ∙ unstored (2 * (n * n) + j) (λ y z. omega arith))
            (λ x. top.after (2 * (n * n) + j) (omega (arith, span.order)) ∙ unstored (2 * (n * n) + j) (λ y z. omega arith));
        c = λ p h. top.before p (omega arith) ∙ unstored p (λ y z. omega arith);
        a = λ i j h h' b.
            top.before (n * n + (i * n + j)) (omega (arith, row_fits h))
            ∙ stored.kept (n * n + (i * n + j)) (λ x q z. off_column n i j x h' b z);
        b = λ p h. top.after p (omega (arith, span.order, span.within)) ∙ unstored p (λ y z. omega arith);
      }
