-- Document 01, "Feeder" and "Cell rule", sentence by sentence and for arrays of every order: what no result shows, and a card of order 2 can't.
use Rattle.std.specs.Prelude.{ℕ, suc, ◌+◌, ◌-◌, ◌*◌, ◌≤◌, ◌<◌, ◌≡◌, ◌≢◌, get_or}
use Rattle.semiring.specs.Algebra.{none_word_of, own_of, sum_of, product_of}
use Rattle.job_list.specs.Jobs.{Jobs, count, size, algebra, job_weights}
use Rattle.systolic.specs.Feeder.{fed}
use Rattle.systolic.specs.Cell.{Planes, cell_of, aIn, bIn, cIn, stepped}
use Rattle.systolic.specs.Tick.{cell_after}

-- "a job is padded to N with none off the diagonal, and the whole diagonal, padded or not, is the own word"
pub record FedIs (J : Jobs) (q i j : ℕ) : Type 0 where
  pub diagonal : i ≡ j → fed J q i j ≡ own_of (algebra J q)
  pub padded_row : i ≢ j → size J q ≤ i → fed J q i j ≡ none_word_of (algebra J q)
  pub padded_column : i ≢ j → size J q ≤ j → fed J q i j ≡ none_word_of (algebra J q)
  pub own_words : i ≢ j → i < size J q → j < size J q → fed J q i j ≡ get_or (job_weights J q) (i * size J q + j) 0

-- "a of cell (i, j-1); for j = 0, the fed entry (i, k) of job q when p = 0, else a of cell (i, N-1)", and b in the same way
pub record Enters (J : Jobs) (r : Planes) (q p k i j : ℕ) : Type 0 where
  pub a_beside : aIn J r q p k i (suc j) ≡ (cell_of J r i j).a
  pub a_fed : p ≡ 0 → aIn J r q p k i 0 ≡ fed J q i k
  pub a_around : p ≢ 0 → aIn J r q p k i 0 ≡ (cell_of J r i (J.order - 1)).a
  pub b_above : bIn J r q p k (suc i) j ≡ (cell_of J r i j).b
  pub b_fed : p ≡ 0 → bIn J r q p k 0 j ≡ fed J q k j
  pub b_around : p ≢ 0 → bIn J r q p k 0 j ≡ (cell_of J r (J.order - 1) j).b

-- "c starts as none when p = 0 and k = 0, else as c. For p < 3 it becomes the sum of c and the product of a in and b in; for p = 3 it stays."
pub record Sums (J : Jobs) (r : Planes) (q p k i j : ℕ) : Type 0 where
  pub starts : p ≡ 0 → k ≡ 0 → cIn J r q p k i j ≡ none_word_of (algebra J q)
  pub goes_on : (p ≡ 0 → k ≡ 0 → ⊥) → cIn J r q p k i j ≡ (cell_of J r i j).c
  pub becomes :
      p < 3
      → (stepped J r q p k i j).c
      ≡ sum_of (algebra J q) (cIn J r q p k i j) (product_of (algebra J q) (aIn J r q p k i j) (bIn J r q p k i j))
  pub stays : 3 ≤ p → (stepped J r q p k i j).c ≡ cIn J r q p k i j

-- "a becomes the new c if k = j, else a in. b becomes the new c if k = i and p < 3, else b in."
pub record Takes (J : Jobs) (r : Planes) (q p k i j : ℕ) : Type 0 where
  pub a_takes : k ≡ j → (stepped J r q p k i j).a ≡ (stepped J r q p k i j).c
  pub a_other : k ≢ j → (stepped J r q p k i j).a ≡ aIn J r q p k i j
  pub b_takes : k ≡ i → p < 3 → (stepped J r q p k i j).b ≡ (stepped J r q p k i j).c
  pub b_other : k ≢ i → (stepped J r q p k i j).b ≡ bIn J r q p k i j
  pub b_last : 3 ≤ p → (stepped J r q p k i j).b ≡ bIn J r q p k i j

-- "If s < 0 or s >= 4NQ, the cell keeps its registers."
pub record Rests (J : Jobs) (t : ℕ) (r : Planes) (i j : ℕ) : Type 0 where
  pub before : t < i + j → cell_after J t r i j ≡ cell_of J r i j
  pub over : 4 * J.order * count J + (i + j) ≤ t → cell_after J t r i j ≡ cell_of J r i j

pub record CellRule : Type 0 where
  pub fed_is : (J : Jobs) (q i j : ℕ) → FedIs J q i j
  pub enters : (J : Jobs) (r : Planes) (q p k i j : ℕ) → Enters J r q p k i j
  pub sums : (J : Jobs) (r : Planes) (q p k i j : ℕ) → Sums J r q p k i j
  pub takes : (J : Jobs) (r : Planes) (q p k i j : ℕ) → Takes J r q p k i j
  pub rests : (J : Jobs) (t : ℕ) (r : Planes) (i j : ℕ) → Rests J t r i j
