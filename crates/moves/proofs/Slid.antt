-- a and b moved in one row more, where the rows below it have moved: what it takes of the row above still stands.
use Prim.Native.Nat.{ℕ, suc, ◌+◌, ◌-◌, ◌*◌, ◌<◌, ◌≤◌}
use native.Mathlib.Omega.{arith}
use native.Mathlib.Decide.{ℕ_discrete}
use mathlib.Core.Path.{◌≡◌, ◌∙◌}
use mathlib.Core.List.{List}
use mathlib.Core.Bool.{Bool, true, cond}
use lib.ListN.{get_or}
use Rattle.memory.proofs.Geometry.{row_fits}
use Rattle.moves.specs.Moved.{Moved}
use Rattle.moves.specs.Slid.{Slid}
use Rattle.moves.proofs.Chosen.{in_span, chosen}
use Rattle.turns.proofs.Geometry.{rows_apart}
use Rattle.turns.specs.Spans.{Spans}
use Rattle.turns.specs.Turn.{live, Phase}
use Rattle.turns.specs.declared.columns.Columns.{Columns}

-- The words of cell (i, j) in a and in b.
abbrev A : ℕ → ℕ → ℕ → ℕ
A n i j = n * n + (i * n + j)

abbrev B : ℕ → ℕ → ℕ → ℕ
B n i j = 2 * (n * n) + (i * n + j)

-- Where its cell makes a step, word p takes the word d places before it.
abbrev taken : Bool → ℕ → List ℕ → ℕ → ℕ
taken steps d l p = cond steps (get_or l (p - d) 0) (get_or l p 0)

-- Word p, in column j of a row i whose span has moved on by d places.
row_word : (d p : ℕ) {n u v i j pass k at end : ℕ} {test : ℕ → Bool} {r : Columns} {l l' : List ℕ} → Spans n test v r → v + i ≡ u
    → Phase n u i j pass k → j < n → Moved d l at end l' → at + j ≡ p + r.from → end + j ≡ p + r.to
    → get_or l' p 0 ≡ taken (test pass) d l p
row_word d p {pass = pass} {k} span turn on h moved e f =
    in_span pass k span h on.below (omega (arith, on.at))
    (λ x y. moved.inside p (omega arith) (omega arith)) (λ x. moved.before p (omega arith)) (λ x. moved.after p (omega arith))

module _ {n count u v i : ℕ} {old l l₁ l₂ : List ℕ} {r : Columns} (row : i < n) (turn : v + i ≡ u)
    (slid : Slid n count u old (suc i) l) (span : Spans n (live count) v r)
    (moved : Moved 1 l (n * n + i * n + r.from) (n * n + i * n + r.to) l₁)
    (lowered : Moved n l₁ (n * n + i * n + n * n + r.from) (n * n + i * n + n * n + r.to) l₂) where
  above : (p : ℕ) → p < n * n + i * n + n * n + r.from → get_or l₂ p 0 ≡ get_or l₁ p 0
  above p h = lowered.before p h

  -- what stands of the rows up to i when each plane's row is moved
  a_stands : (p : ℕ) → p < n * n + (i * n + n) → get_or l p 0 ≡ get_or old p 0
  a_stands p h = slid.a_rest p (omega arith)

  b_stands : (p : ℕ) → 2 * (n * n) ≤ p → p < 2 * (n * n) + (i * n + n) → get_or l₁ p 0 ≡ get_or old p 0
  b_stands p h h' = moved.after p (omega (arith, span.within, row_fits row)) ∙ slid.b_rest p h (omega arith)

  module _ (j pass k : ℕ) (b : j < n) (on : Phase n u i j pass k) where
    a_word : get_or l₁ (A n i j) 0 ≡ taken (live count pass) 1 old (A n i j)
    a_word =
        row_word 1 (A n i j) span turn on b moved (omega arith) (omega arith)
        ∙ chosen (live count pass) (λ x. a_stands (A n i j - 1) (omega arith)) (a_stands (A n i j) (omega arith))

    b_word : (live count pass ≡ true → 1 ≤ i) → get_or l₂ (B n i j) 0 ≡ taken (live count pass) n old (B n i j)
    b_word some =
        row_word n (B n i j) span turn on b lowered (omega arith) (omega arith)
        ∙ chosen (live count pass)
        (λ x. b_stands (B n i j - n) (omega (arith, rows_apart {m = 0} n (some x))) (omega arith))
        (b_stands (B n i j) (omega arith) (omega arith))

  pub row_slid : Slid n count u old i l₂
  row_slid = record {
    size = lowered.size ∙ moved.size ∙ slid.size;
    a = λ m j pass k h h' b on. at_a m j pass k h h' b on (ℕ_discrete m i);
    b = λ m j pass k h h' b on f. at_b m j pass k h h' b on f (ℕ_discrete m i);
    a_rest = λ p h.
        above p (omega (arith, row_fits row)) ∙ moved.before p (omega arith) ∙ slid.a_rest p (omega arith);
    b_rest = λ p h h'. above p (omega arith) ∙ b_stands p h (omega arith);
  }
    where
      at_a : (m j pass k : ℕ) → i ≤ m → m < n → j < n → Phase n u m j pass k → Dec (m ≡ i)
          → get_or l₂ (A n m j) 0 ≡ taken (live count pass) 1 old (A n m j)
      at_a m j pass k h h' b on (yes d) = rw d (above (A n i j) (omega (arith, row_fits row)) ∙ a_word j pass k b (rw d at on))
      at_a m j pass k h h' b on (no d) =
          let past : i < m = omega arith in
          above (A n m j) (omega (arith, row_fits h'))
          ∙ moved.after (A n m j) (omega (arith, span.within, rows_apart n past))
          ∙ slid.a m j pass k past h' b on

      at_b : (m j pass k : ℕ) → i ≤ m → m < n → j < n → Phase n u m j pass k → (live count pass ≡ true → 1 ≤ m) → Dec (m ≡ i)
          → get_or l₂ (B n m j) 0 ≡ taken (live count pass) n old (B n m j)
      at_b m j pass k h h' b on f (yes d) = rw d (b_word j pass k b (rw d at on) (rw d at f))
      at_b m j pass k h h' b on f (no d) =
          let past : i < m = omega arith in
          lowered.after (B n m j) (omega (arith, span.within, rows_apart n past))
          ∙ moved.after (B n m j) (omega (arith, span.within, row_fits row))
          ∙ slid.b m j pass k past h' b on f
