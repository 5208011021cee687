-- The rule sentence by sentence: each condition decides the definition's test.
use Prim.Native.Nat.{ℕ, zero, suc, ◌+◌, ◌-◌, ◌*◌}
use native.Mathlib.Omega.{arith}
use mathlib.Core.Path.{◌≡◌, refl}
use mathlib.Core.Bool.{and-false}
use lib.Dec.{ltb, eqb}
use borrow.Author.Tests.{lt-ltb, le-ltb, lt-leb, le-leb, eq-eqb, ne_eqb}
use Rattle.job_list.specs.Jobs.{Jobs, count, size}
use Rattle.systolic.specs.Cell.{Planes, cell_of, cIn}
use Rattle.systolic.specs.Tick.{cell_after}
use Rattle.systolic.specs.claims.Rule.{FedIs, Enters, Sums, Takes, Rests, CellRule}

fed_is : (J : Jobs) (q i j : ℕ) → FedIs J q i j
fed_is J q i j = record {
  diagonal = λ e. rw (eq-eqb i j e);
  padded_row = λ d h. rw (ne_eqb i j d, le-ltb i (size J q) h);
  padded_column = λ d h. rw (ne_eqb i j d, le-ltb j (size J q) h, and-false (ltb i (size J q)));
  own_words = λ d h l. rw (ne_eqb i j d, lt-ltb i (size J q) h, lt-ltb j (size J q) l);
}

enters : (J : Jobs) (r : Planes) (q p k i j : ℕ) → Enters J r q p k i j
enters J r q p k i j = record {
  a_beside = refl;
  a_fed = λ e. rw (eq-eqb p 0 e);
  a_around = λ d. rw (ne_eqb p 0 d);
  b_above = refl;
  b_fed = λ e. rw (eq-eqb p 0 e);
  b_around = λ d. rw (ne_eqb p 0 d);
}

-- c goes on past the first step of a job
goes_on : (J : Jobs) (r : Planes) (q p k i j : ℕ) → (p ≡ 0 → k ≡ 0 → ⊥) → cIn J r q p k i j ≡ (cell_of J r i j).c
goes_on J r q zero zero i j d = absurd (d refl refl)
goes_on J r q zero (suc k) i j d = rw (ne_eqb (suc k) 0 (λ e. omega arith))
goes_on J r q (suc p) k i j d = rw (ne_eqb (suc p) 0 (λ e. omega arith))

sums : (J : Jobs) (r : Planes) (q p k i j : ℕ) → Sums J r q p k i j
sums J r q p k i j = record {
  starts = λ e f. rw (eq-eqb p 0 e, eq-eqb k 0 f);
  goes_on = goes_on J r q p k i j;
  becomes = λ h. rw (lt-ltb p 3 h);
  stays = λ h. rw (le-ltb p 3 h);
}

takes : (J : Jobs) (r : Planes) (q p k i j : ℕ) → Takes J r q p k i j
takes J r q p k i j = record {
  a_takes = λ e. rw (eq-eqb k j e);
  a_other = λ d. rw (ne_eqb k j d);
  b_takes = λ e h. rw (eq-eqb k i e, lt-ltb p 3 h);
  b_other = λ d. rw (ne_eqb k i d);
  b_last = λ h. rw (le-ltb p 3 h, and-false (eqb k i));
}

rests : (J : Jobs) (t : ℕ) (r : Planes) (i j : ℕ) → Rests J t r i j
unfolding cell_after
rests J t r i j = record {
  before = λ h. rw (lt-leb (i + j) t h);
  over = λ h. rw (le-leb (i + j) t (omega arith), le-ltb (t - (i + j)) (4 * J.order * count J) (omega arith));
}

pub cell_rule : CellRule
cell_rule = record { fed_is = fed_is; enters = enters; sums = sums; takes = takes; rests = rests }
