-- The columns of a row whose pass meets a test, from the two tests that the code makes.
use Prim.Native.Nat.{ℕ, ◌+◌, ◌-◌, ◌*◌, ◌%◌, ◌<◌, ◌≤◌}
use native.Mathlib.Omega.{arith}
use native.Mathlib.Decide.{dec_lt}
use mathlib.Core.Path.{◌≡◌, refl, sym, ap, ◌∙◌}
use mathlib.Core.Bool.{Bool, true, false, true≢false, cond, ◌&&◌}
use lib.Dec.{eqb, leb, ltb}
use mathlib.Core.Logic.{◌≢◌}
use borrow.Author.Tests.{eq-eqb, lt-ltb, le-leb, leb-true, ltb-true, eqb-true}
use Rattle.turns.specs.Turn.{live, begins, pass_in, step_of}
use Rattle.memory.proofs.Any.{both_true}
use Rattle.memory.proofs.Geometry.{same_digits}
use Rattle.turns.specs.declared.turn.Turn.{Turn}
use Rattle.turns.proofs.Geometry.{pass_before}
use Rattle.turns.specs.declared.columns.Columns.{Columns}
use Rattle.turns.specs.Spans.{Spans, Parted, Banded}

-- A choice of two numbers, of which one is ruled out.
is_true : (x : Bool) (m y z : ℕ) → m ≡ cond x y z → (m ≡ z → ⊥) → x ≡ true
is_true true m y z e f = refl
is_true false m y z e f = absurd (f e)

is_false : (x : Bool) (m y z : ℕ) → m ≡ cond x y z → (m ≡ y → ⊥) → x ≡ false
is_false true m y z e f = absurd (f e)
is_false false m y z e f = refl

one_of_lem : (x : Bool) (m y z : ℕ) (P : ℕ → Type 0) → m ≡ cond x y z → P y → P z → P m
one_of_lem true m y z P e f g = rw e f
one_of_lem false m y z P e f g = rw e g

module _ (n : ℕ) (test : ℕ → Bool) (s : Turn) (r : Columns) (below : s.point < n) (least : 1 ≤ s.pass)
    (from : r.from ≡ cond (test s.pass) 0 (s.point + 1)) (to : r.to ≡ cond (test (s.pass - 1)) n (s.point + 1)) where
  here : (j pass k : ℕ) → j ≤ s.point → k < n → n * pass + k + j ≡ step_of n s → test pass ≡ test s.pass
  here j pass k l b e =
      ap test (same_digits {y' = s.point - j} b (omega arith) (omega arith)).0

  behind : (j pass k : ℕ) → s.point < j → j < n → k < n → n * pass + k + j ≡ step_of n s → test pass ≡ test (s.pass - 1)
  behind j pass k l h b e =
      ap test (same_digits {y' = s.point + n - j} b (omega arith) (omega (arith, pass_before n s.pass least))).0

  from_most : r.from ≤ s.point + 1
  from_most = one_of_lem (test s.pass) r.from 0 (s.point + 1) (λ m. m ≤ s.point + 1) from (omega arith) (omega arith)

  to_least : s.point + 1 ≤ r.to
  to_least = one_of_lem (test (s.pass - 1)) r.to n (s.point + 1) (λ m. s.point + 1 ≤ m) to (omega arith) (omega arith)

  to_most : r.to ≤ n
  to_most = one_of_lem (test (s.pass - 1)) r.to n (s.point + 1) (λ m. m ≤ n) to (omega arith) (omega arith)

  pub spans_of : Spans n test (step_of n s) r
  spans_of = record {
    order = omega (arith, from_most, to_least);
    within = to_most;
    inside = λ j pass k f g b e. in_span j pass k f g b e (dec_lt s.point j);
    before = λ j pass k f b e.
        here j pass k (omega (arith, from_most)) b e ∙ is_false (test s.pass) r.from 0 (s.point + 1) from (λ z. omega arith);
    after = λ j pass k f g b e.
        behind j pass k (omega (arith, to_least)) g b e ∙ is_false (test (s.pass - 1)) r.to n (s.point + 1) to (λ z. omega arith);
  }
    where
      in_span : (j pass k : ℕ) → r.from ≤ j → j < r.to → k < n → n * pass + k + j ≡ step_of n s → Dec (s.point < j) → test pass ≡ true
      in_span j pass k f g b e (yes h) =
          behind j pass k h (omega (arith, to_most)) b e ∙ is_true (test (s.pass - 1)) r.to n (s.point + 1) to (λ z. omega arith)
      in_span j pass k f g b e (no h) =
          here j pass k (omega arith) b e ∙ is_true (test s.pass) r.from 0 (s.point + 1) from (λ z. omega arith)

-- The same by the two answers.
pub spans_told : {n : ℕ} {test : ℕ → Bool} {s : Turn} {r : Columns} {here behind : Bool} → s.point < n → 1 ≤ s.pass
    → here ≡ test s.pass → behind ≡ test (s.pass - 1) → Parted n s.point here behind r → Spans n test (step_of n s) r
spans_told {n} {test} {s} {r} below least e f ends =
    spans_of n test s r below least (rw (← e) ends.from) (rw (← f) ends.to)

-- What a pass that is live adds to a second test.
and-true : (x : Bool) → x ≡ (x && true)
and-true true = refl
and-true false = refl

-- The first pass of a job begins it.
pub begins_first : (count pass : ℕ) → pass % 4 ≡ 0 → live count pass ≡ begins count pass
begins_first count pass e = rw (eq-eqb (pass % 4) 0 e) (and-true (live count pass))

pub begins_parts : (count pass : ℕ) → begins count pass ≡ true → (live count pass ≡ true) × (pass % 4 ≡ 0)
begins_parts count pass e =
    let (f, g) = both_true (live count pass) (eqb (pass % 4) 0) e in
    (f, eqb-true (pass % 4) 0 g)

-- A column inside or outside.
module _ {n : ℕ} {test : ℕ → Bool} {u : ℕ} {r : Columns} (span : Spans n test u r) (j pass k : ℕ) (b : j < n) (h : k < n) (e : n * pass + k + j ≡ u) where
  pub span_in : test pass ≡ true → (r.from ≤ j) × (j < r.to)
  span_in f = (go (dec_lt j r.from), go' (dec_lt j r.to))
    where
      go : Dec (j < r.from) → r.from ≤ j
      go (yes d) = absurd (true≢false (sym f ∙ span.before j pass k d h e))
      go (no d) = omega arith

      go' : Dec (j < r.to) → j < r.to
      go' (yes d) = d
      go' (no d) = absurd (true≢false (sym f ∙ span.after j pass k (omega arith) b h e))

  pub span_out : test pass ≡ false → r.from ≤ j → j < r.to → ⊥
  span_out f d d' = true≢false (sym (span.inside j pass k d d' h e) ∙ f)

pub has_in : (x : Bool) (from j to : ℕ) → x ≡ (leb from j && ltb j to) → x ≡ true → (from ≤ j) × (j < to)
has_in x from j to e f =
    let (g, h) = both_true (leb from j) (ltb j to) (sym e ∙ f) in
    (leb-true from j g, ltb-true j to h)

pub has_out : (x : Bool) (from j to : ℕ) → x ≡ (leb from j && ltb j to) → x ≡ false → from ≤ j → j < to → ⊥
has_out x from j to e f g h = true≢false (sym (e ∙ rw (le-leb from j g, lt-ltb j to h)) ∙ f)

-- The pass and the point of column j of a row.
module _ (n : ℕ) (s : Turn) (below : s.point < n) (least : 1 ≤ s.pass) (j pass k : ℕ) (b : k < n) (e : n * pass + k + j ≡ step_of n s) where
  pub digits_here : j ≤ s.point → (pass ≡ s.pass) × (k + j ≡ s.point)
  digits_here l =
      let (f, g) = same_digits {x = pass} {y = k} {x' = s.pass} {y' = s.point - j} b (omega arith) (omega arith) in
      (f, omega arith)

  pub digits_behind : j < n → s.point < j → (pass ≡ s.pass - 1) × (k + j ≡ s.point + n)
  digits_behind h l =
      let (f, g) = same_digits {x = pass} {y = k} {x' = s.pass - 1} {y' = s.point + n - j} b (omega arith) (omega (arith, pass_before n s.pass least)) in
      (f, omega arith)

-- The band of an edge: the cells up to the turn's point, those after it, or none.
module _ (n p : ℕ) (s : Turn) (below : s.point < n) (least : 1 ≤ s.pass) where
  pub band_here : pass_in s.pass ≡ p → Banded n p (step_of n s) (record { from = 0; to = s.point + 1; last = s.point })
  band_here e = record {
    order = omega arith;
    within = omega arith;
    points = omega arith;
    inside = λ j pass k f g b h.
        let (x, y) = digits_here n s below least j pass k b h (omega arith) in (ap pass_in x ∙ e, y);
    before = λ j pass k f b h x. absurd (omega arith);
    after = λ j pass k f g b h x.
        let (y, z) = digits_behind n s below least j pass k b h g (omega arith) in omega arith;
  }

  pub band_behind : pass_in s.pass ≢ p → pass_in (s.pass - 1) ≡ p
      → Banded n p (step_of n s) (record { from = s.point + 1; to = n; last = s.point + n })
  band_behind d e = record {
    order = omega arith;
    within = omega arith;
    points = omega arith;
    inside = λ j pass k f g b h.
        let (x, y) = digits_behind n s below least j pass k b h g (omega arith) in (ap pass_in x ∙ e, y);
    before = λ j pass k f b h x.
        let (y, z) = digits_here n s below least j pass k b h (omega arith) in d (sym (ap pass_in y) ∙ x);
    after = λ j pass k f g b h x. absurd (omega arith);
  }

  pub band_none : pass_in s.pass ≢ p → pass_in (s.pass - 1) ≢ p
      → Banded n p (step_of n s) (record { from = 0; to = 0; last = 0 })
  band_none d e = record {
    order = omega arith;
    within = omega arith;
    points = omega arith;
    inside = λ j pass k f g b h. absurd (omega arith);
    before = λ j pass k f b h x. absurd (omega arith);
    after = λ j pass k f g b h x. other j pass k g b h x (dec_lt s.point j);
  }
    where
      other : (j pass k : ℕ) → j < n → k < n → n * pass + k + j ≡ step_of n s → pass_in pass ≡ p → Dec (s.point < j) → ⊥
      other j pass k g b h x (yes z) = e (sym (ap pass_in (digits_behind n s below least j pass k b h g z).0) ∙ x)
      other j pass k g b h x (no z) = d (sym (ap pass_in (digits_here n s below least j pass k b h (omega arith)).0) ∙ x)
