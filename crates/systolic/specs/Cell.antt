-- Document 01, "Cell rule": what one cell does on one of its steps.
use Rattle.std.specs.Prelude.{ℕ, zero, suc, ◌-◌, ◌*◌, ◌≡◌, List, cond, ◌&&◌, length, eqb, ltb}
use Rattle.semiring.specs.Algebra.{none_word_of, sum_of, product_of}
use Rattle.closure.specs.Table.{entries}
use Rattle.job_list.specs.Jobs.{Jobs, algebra}
use Rattle.systolic.specs.Feeder.{fed}

-- The planes c, a and b: N by N words each, row by row.
pub record Planes : Type 0 where
  pub c : List ℕ
  pub a : List ℕ
  pub b : List ℕ

-- "planes c, a, b of N times N words"
pub record Sized (order : ℕ) (r : Planes) : Type 0 where
  pub c : length r.c ≡ order * order
  pub a : length r.a ≡ order * order
  pub b : length r.b ≡ order * order

-- "Cell (i, j) has registers a, b, c."
pub record Cell : Type 0 where
  pub c : ℕ
  pub a : ℕ
  pub b : ℕ

abbrev pub cell_of : Jobs → Planes → ℕ → ℕ → Cell
cell_of J r i j = record {
  c = entries J.order r.c i j;
  a = entries J.order r.a i j;
  b = entries J.order r.b i j;
}

-- A cell's step: job q, pass p, step k of the pass. All reads are of the registers of before the tick, r.
module _ (J : Jobs) (r : Planes) (q p k : ℕ) where
  -- "a of cell (i, j-1); for j = 0, the fed entry (i, k) of job q when p = 0, else a of cell (i, N-1)"
  abbrev pub aIn : ℕ → ℕ → ℕ
  aIn i zero = cond (eqb p 0) (fed J q i k) (cell_of J r i (J.order - 1)).a
  aIn i (suc j) = (cell_of J r i j).a

  -- "b of cell (i-1, j); for i = 0, the fed entry (k, j) of job q when p = 0, else b of cell (N-1, j)"
  abbrev pub bIn : ℕ → ℕ → ℕ
  bIn zero j = cond (eqb p 0) (fed J q k j) (cell_of J r (J.order - 1) j).b
  bIn (suc i) j = (cell_of J r i j).b

  -- "c starts as none when p = 0 and k = 0, else as c." Request K8: "Cells use the algebra of the job they are on, for none, own, sum and
  -- product."
  abbrev pub cIn : ℕ → ℕ → ℕ
  cIn i j = cond (eqb p 0 && eqb k 0) (none_word_of (algebra J q)) (cell_of J r i j).c

  -- "For p < 3 it becomes the sum of c and the product of a in and b in; for p = 3 it stays."
  abbrev pub new_c : ℕ → ℕ → ℕ
  new_c i j =
      cond (ltb p 3) (sum_of (algebra J q) (cIn i j) (product_of (algebra J q) (aIn i j) (bIn i j))) (cIn i j)

  -- "a becomes the new c if k = j, else a in. b becomes the new c if k = i and p < 3, else b in."
  abbrev pub stepped : ℕ → ℕ → Cell
  stepped i j = record {
    c = new_c i j;
    a = cond (eqb k j) (new_c i j) (aIn i j);
    b = cond (eqb k i && ltb p 3) (new_c i j) (bIn i j);
  }
