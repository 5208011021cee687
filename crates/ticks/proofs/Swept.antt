-- The whole tick: what the moves leave, and the cells after it.
use Prim.Native.Nat.{ℕ, zero, suc, ◌+◌, ◌-◌, ◌*◌, ◌/◌, ◌<◌, ◌≤◌}
use native.Mathlib.Decide.{dec_lt}
use native.Mathlib.Nat.{mul-le-mul_left}
use native.Mathlib.Omega.{arith}
use mathlib.Core.Path.{◌≡◌, refl, sym, ap, ◌∙◌}
use mathlib.Core.List.{List}
use mathlib.Core.Bool.{Bool, true, false, true≢false, cond}
use lib.ListN.{length, get_or}
use borrow.Author.Tests.{lt-ltb, le-ltb}
use Rattle.semiring.specs.declared.Algebra.{Algebra}
use Rattle.job_list.specs.Jobs.{Jobs, count, jobs_of, algebra_of}
use Rattle.systolic.specs.Cell.{Planes, Cell, cell_of, aIn, bIn, stepped}
use Rattle.systolic.specs.Tick.{cell_after}
use Rattle.memory.proofs.Geometry.{row_fits}
use Rattle.turns.specs.Turn.{live, job_in, pass_in, Phase, Head, step_of}
use Rattle.turns.specs.declared.turn.Turn.{Turn}
use Rattle.turns.specs.Layout.{words_at}
use Rattle.turns.proofs.Turns.{on_cell, phase_of, pass_most, pass_near, live_same}
use Rattle.moves.specs.Slid.{Slid}
use Rattle.moves.specs.Edges.{Entered}
use Rattle.moves.specs.Lent.{WithEdges}
use Rattle.cells.specs.Work.{worked}
use Rattle.cells.specs.Settled.{row_algebra, Settled}
use Rattle.stage.specs.Found.{AlgebraIn}
use Rattle.ticks.specs.Swept.{Sweeping, Held, Edged, come, Came, Made}

-- A word that is one of two by a test, under other names.
by_test : (b : Bool) {w x y x' y' : ℕ} → w ≡ cond b x y → (b ≡ true → x ≡ x') → (b ≡ false → y ≡ y') → w ≡ cond b x' y'
by_test true e f g = e ∙ f refl
by_test false e f g = e ∙ g refl

second : (b : Bool) (x y : ℕ) → b ≡ false → cond b x y ≡ y
second true x y f = absurd (true≢false f)
second false x y f = refl

-- A cell of which a and b are one of two by a test.
cell_by : (b : Bool) (w x y : Cell) → w.c ≡ y.c → x.c ≡ y.c → w.a ≡ cond b x.a y.a → w.b ≡ cond b x.b y.b → w ≡ cond b x y
cell_by true w x y e e' f g = λ z. record { c = (e ∙ sym e') z; a = f z; b = g z }
cell_by false w x y e e' f g = λ z. record { c = e z; a = f z; b = g z }

-- What the moves leave: the cells that make a step hold what comes in.
module _ (J : Jobs) (t : ℕ) (r : Planes) {edges l l₁ l₂ : List ℕ} (held : Held J r l) (edged : Edged J t r edges)
    (slid : Slid J.order (count J) (t + 4 * J.order) l 0 l₁)
    (entered : Entered J.order (count J) (t + 4 * J.order) edges l₁ l₂) where
  abbrev n : ℕ
  n = J.order

  -- the places of a and b of cell (i, j)
  abbrev A : ℕ → ℕ → ℕ
  A i j = n * n + (i * n + j)

  abbrev B : ℕ → ℕ → ℕ
  B i j = 2 * (n * n) + (i * n + j)

  c_came : (i j : ℕ) → i < n → j < n → get_or l₂ (i * n + j) 0 ≡ (cell_of J r i j).c
  c_came i j h b =
      entered.c (i * n + j) (omega (arith, row_fits h))
      ∙ slid.a_rest (i * n + j) (omega (arith, row_fits h))
      ∙ ap (λ (x : Cell). x.c) (held.cell i j h b)

  a_held : (i j : ℕ) → i < n → j < n → get_or l (A i j) 0 ≡ (cell_of J r i j).a
  a_held i j h b = ap (λ (x : Cell). x.a) (held.cell i j h b)

  a_came : (i j pass k : ℕ) → i < n → j < n → Phase n (t + 4 * n) i j pass k
      → get_or l₂ (A i j) 0 ≡ cond (live (count J) pass) (aIn J r (job_in pass) (pass_in pass) k i j) (cell_of J r i j).a
  a_came i zero pass k h b on =
      let e : A i 0 ≡ n * n + i * n = omega arith in
      by_test (live (count J) pass) (ap (λ (p : ℕ). get_or l₂ p 0) e ∙ entered.left i pass k h on)
      (λ f. edged.left i pass k h on f)
      (λ f.
      ap (λ (p : ℕ). get_or l₁ p 0) (sym e)
      ∙ slid.a i 0 pass k (omega arith) h b on
      ∙ second (live (count J) pass) (get_or l (A i 0 - 1) 0) (get_or l (A i 0) 0) f
      ∙ a_held i 0 h b)
  a_came i (suc j) pass k h b on =
      let e : A i (suc j) - 1 ≡ A i j = omega arith in
      by_test (live (count J) pass) (entered.a i (suc j) h (omega arith) b ∙ slid.a i (suc j) pass k (omega arith) h b on)
      (λ f. ap (λ (p : ℕ). get_or l p 0) e ∙ a_held i j h (omega arith))
      (λ f. a_held i (suc j) h b)

  b_held : (i j : ℕ) → i < n → j < n → get_or l (B i j) 0 ≡ (cell_of J r i j).b
  b_held i j h b = ap (λ (x : Cell). x.b) (held.cell i j h b)

  b_came : (i j pass k : ℕ) → i < n → j < n → Phase n (t + 4 * n) i j pass k
      → get_or l₂ (B i j) 0 ≡ cond (live (count J) pass) (bIn J r (job_in pass) (pass_in pass) k i j) (cell_of J r i j).b
  b_came zero j pass k h b on =
      let e : B 0 j ≡ 2 * (n * n) + j = omega arith in
      by_test (live (count J) pass) (ap (λ (p : ℕ). get_or l₂ p 0) e ∙ entered.top j pass k b on)
      (λ f. edged.top j pass k b on f)
      (λ f.
      ap (λ (p : ℕ). get_or l₁ p 0) (sym e)
      ∙ slid.b 0 j pass k (omega arith) h b on (λ g. absurd (true≢false (sym g ∙ f)))
      ∙ second (live (count J) pass) (get_or l (B 0 j - n) 0) (get_or l (B 0 j) 0) f
      ∙ b_held 0 j h b)
  b_came (suc i) j pass k h b on =
      let e : B (suc i) j - n ≡ B i j = omega arith in
      by_test (live (count J) pass) (entered.b (B (suc i) j) (omega arith) ∙ slid.b (suc i) j pass k (omega arith) h b on (λ g. omega arith))
      (λ f. ap (λ (p : ℕ). get_or l p 0) e ∙ b_held i j (omega arith) b)
      (λ f. b_held (suc i) j h b)

  pub came : Came J t r l₂
  came = record {
    cell = λ i j pass k h b on.
        cell_by (live (count J) pass) (words_at n l₂ i j) (come J r pass k i j) (cell_of J r i j) (c_came i j h b) refl (a_came i j pass k h b on) (b_came i j pass k h b on);
  }

-- The algebra of a row's first cell, for a cell of the row: that is in the first one's pass or in the one before. Where these are of two jobs,
-- the cell is in the last pass of its job, which asks for no algebra.
module _ {algebras sizes : List ℕ} {a : Algebra} {first pass : ℕ} (named : AlgebraIn algebras sizes first a) (ahead : pass ≤ first)
    (close : first ≤ pass + 1) (alive : live (length sizes) pass ≡ true) where
  works_in : (k i j left above c : ℕ)
      → worked a (pass_in pass) k i j left above c ≡ worked (algebra_of algebras (job_in pass)) (pass_in pass) k i j left above c
  works_in k i j left above c = go (dec_lt (pass_in pass) 3)
    where
      go : Dec (pass_in pass < 3)
          → worked a (pass_in pass) k i j left above c ≡ worked (algebra_of algebras (job_in pass)) (pass_in pass) k i j left above c
      go (yes h) =
          let same : pass / 4 ≡ first / 4 = omega arith in
          let q : job_in first ≡ job_in pass = omega arith in
          let on_job : live (length sizes) first ≡ true = sym (live_same (length sizes) pass first same) ∙ alive in
          ap (λ (b : Algebra). worked b (pass_in pass) k i j left above c) (named.is on_job ∙ ap (algebra_of algebras) q)
      go (no h) = let last : pass_in pass ≡ 3 = omega arith in rw last

-- The cells after the tick.
module _ (algebras : List ℕ) (n : ℕ) (sizes weights : List ℕ) (t : ℕ) (r : Planes) {here behind : Algebra} {head : Turn} {l₂ l₃ : List ℕ}
    (turn : Head n (length sizes) head) (step : step_of n head ≡ t + 4 * n)
    (first : AlgebraIn algebras sizes head.pass here) (second : AlgebraIn algebras sizes (head.pass - 1) behind)
    (cells : Came (jobs_of algebras n sizes weights) t r l₂) (settled : Settled here behind n (length sizes) head l₂ l₃) where
  abbrev J : Jobs
  J = jobs_of algebras n sizes weights

  -- a row up to the head's point is in the head's pass, any other in the pass before
  row_works : {i j pass k : ℕ} → i < n → j < n → Phase n (step_of n head) i j pass k → live (length sizes) pass ≡ true → (left above c : ℕ)
      → worked (row_algebra here behind head.point i) (pass_in pass) k i j left above c
      ≡ worked (algebra_of algebras (job_in pass)) (pass_in pass) k i j left above c
  row_works {i} {j} {pass} {k} h b on alive left above c = go (dec_lt i (head.point + 1))
    where
      ahead : pass ≤ head.pass
      ahead = pass_most {s = head} turn.below on

      near : head.pass ≤ pass + 2
      near = pass_near {s = head} turn.below on h b

      close : i < head.point + 1 → Dec (pass + 1 < head.pass) → head.pass ≤ pass + 1
      close d (yes far) = absurd (omega (arith, on.at, on.below, mul-le-mul_left n far))
      close d (no far) = omega arith

      later : head.point + 1 ≤ i → Dec (pass < head.pass) → pass ≤ head.pass - 1
      later d (yes l) = omega arith
      later d (no l) = let same : pass ≡ head.pass = omega (arith, ahead) in absurd (omega (arith, on.at, ap (λ (x : ℕ). n * x) same))

      go : Dec (i < head.point + 1)
          → worked (row_algebra here behind head.point i) (pass_in pass) k i j left above c
          ≡ worked (algebra_of algebras (job_in pass)) (pass_in pass) k i j left above c
      go (yes d) =
          rw (lt-ltb i (head.point + 1) d) (works_in first ahead (close d (dec_lt (pass + 1) head.pass)) alive k i j left above c)
      go (no d) =
          let after : head.point + 1 ≤ i = omega arith in
          rw (le-ltb i (head.point + 1) after)
          (works_in second (later after (dec_lt pass head.pass)) (omega (arith, near)) alive k i j left above c)

  pub made : Made (jobs_of algebras n sizes weights) t r l₃
  made = record { cell = λ i j h b. cell i j h b _ _ (phase_of n (t + 4 * n) i j (omega arith) (omega arith)) }
    where
      cell : (i j : ℕ) → i < n → j < n → (pass k : ℕ) → Phase n (t + 4 * n) i j pass k → words_at n l₃ i j ≡ cell_after J t r i j
      cell i j h b pass k on =
          go (live (length sizes) pass) refl ∙ sym (on_cell J t on r)
        where
          on' : Phase n (step_of n head) i j pass k
          on' = rw step on

          new : Cell → Cell
          new x = worked (row_algebra here behind head.point i) (pass_in pass) k i j x.a x.b x.c

          go : (x : Bool) → live (length sizes) pass ≡ x
              → words_at n l₃ i j ≡ cond x (stepped J r (job_in pass) (pass_in pass) k i j) (cell_of J r i j)
          go true f =
              settled.cell i j pass k h b on'
              ∙ ap (λ (z : Bool). cond z (new (words_at n l₂ i j)) (words_at n l₂ i j)) f
              ∙ ap new (cells.cell i j pass k h b on ∙ ap (λ (z : Bool). cond z (come J r pass k i j) (cell_of J r i j)) f)
              ∙ (let x : Cell = come J r pass k i j in row_works h b on' f x.a x.b x.c)
          go false f =
              settled.cell i j pass k h b on'
              ∙ ap (λ (z : Bool). cond z (new (words_at n l₂ i j)) (words_at n l₂ i j)) f
              ∙ cells.cell i j pass k h b on
              ∙ ap (λ (z : Bool). cond z (come J r pass k i j) (cell_of J r i j)) f

-- The planes keep their length from call to call.
pub slid_edges : {n count u : ℕ} {s : Turn} {edges l l₁ : List ℕ} → Sweeping n count s edges l → Slid n count u l 0 l₁ → WithEdges n l₁ edges
slid_edges asked slid = record { most = asked.room.most; wide = asked.room.wide; long = slid.size ∙ asked.room.long }

-- The same in the words of the code.
pub sweep_made : {here behind : Algebra} (n : ℕ) {count : ℕ} {head : Turn} {edges l l₁ l₂ l₃ : List ℕ} → Sweeping n count head edges l
    → Slid n count (step_of n head) l 0 l₁ → Entered n count (step_of n head) edges l₁ l₂ → Settled here behind n count head l₂ l₃
    → (algebras sizes weights : List ℕ) (t : ℕ) (r : Planes) → length sizes ≡ count → step_of n head ≡ t + 4 * n
    → AlgebraIn algebras sizes head.pass here → AlgebraIn algebras sizes (head.pass - 1) behind
    → Held (jobs_of algebras n sizes weights) r l → Edged (jobs_of algebras n sizes weights) t r edges
    → Made (jobs_of algebras n sizes weights) t r l₃
sweep_made n asked slid entered settled algebras sizes weights t r e f first second held edged =
    made algebras n sizes weights t r (rw (← e) at asked.lent.turn) f first second
    (came (jobs_of algebras n sizes weights) t r held edged (rw (← e, f) at slid) (rw (← e, f) at entered))
    (rw (← e) at settled)
