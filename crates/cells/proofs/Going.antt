-- Rows one after the other: what is done in some rows and then in those after them is done in all of them.
use Prim.Native.Nat.{ℕ, ◌+◌, ◌-◌, ◌*◌, ◌<◌, ◌≤◌}
use native.Mathlib.Nat.{mul-le-mul_left}
use native.Mathlib.Omega.{arith}
use native.Mathlib.Decide.{dec_lt}
use mathlib.Core.Path.{◌≡◌, refl, ap, ◌∙◌}
use mathlib.Core.List.{List}
use lib.ListN.{length}
use Rattle.systolic.specs.Cell.{Cell}
use Rattle.turns.proofs.Geometry.{pass_least}
use Rattle.turns.specs.Layout.{words_at}
use Rattle.turns.specs.Turn.{At, Head, Phase, step_of}
use Rattle.turns.specs.declared.turn.Turn.{Turn}
use Rattle.cells.specs.Rows.{Row, Rows, Done}

module _ {work : ℕ → ℕ → ℕ → ℕ → Cell → Cell} {n u : ℕ} where
  done_none : {from : ℕ} {old : List ℕ} → Done work n u old from from old
  done_none = record {
    size = refl;
    inside = λ i j pass k f g b on. absurd (omega arith);
    before = λ i j f b. refl;
    after = λ i j f g b. refl;
  }

  pub done_join : {from mid to : ℕ} {old l new : List ℕ} → from ≤ mid → mid ≤ to → to ≤ n
      → Done work n u old from mid l → Done work n u l mid to new → Done work n u old from to new
  done_join {from} {mid} {to} {old} {l} {new} order order' fits one two = record {
    size = two.size ∙ one.size;
    inside = λ i j pass k f g b on. at i j pass k f g b on (dec_lt i mid);
    before = λ i j f b. two.before i j (omega arith) b ∙ one.before i j f b;
    after = λ i j f g b. two.after i j f g b ∙ one.after i j (omega arith) g b;
  }
    where
      at : (i j pass k : ℕ) → from ≤ i → i < to → j < n → Phase n u i j pass k → Dec (i < mid)
          → words_at n new i j ≡ work i j pass k (words_at n old i j)
      at i j pass k f g b on (yes d) = two.before i j d b ∙ one.inside i j pass k f d b on
      at i j pass k f g b on (no d) =
          two.inside i j pass k (omega arith) g b on ∙ ap (work i j pass k) (one.after i j (omega arith) (omega arith) b)

-- The same work under another name.
pub done_as : {work work' : ℕ → ℕ → ℕ → ℕ → Cell → Cell} {n u from to : ℕ} {old new : List ℕ}
    → ((i j pass k : ℕ) (x : Cell) → from ≤ i → i < to → work i j pass k x ≡ work' i j pass k x)
    → Done work n u old from to new → Done work' n u old from to new
done_as {n = n} {old = old} same done = record {
  size = done.size;
  inside = λ i j pass k f g b on. done.inside i j pass k f g b on ∙ same i j pass k (words_at n old i j) f g;
  before = done.before;
  after = done.after;
}

-- Some rows of an array that begins a tick.
pub some_rows : {n count from to : ℕ} {head s : Turn} {l : List ℕ} → Head n count head → from ≤ to → to ≤ n → s.point < n → 2 ≤ s.pass
    → length l ≡ 3 * (n * n) → Rows n count from to s l
some_rows {n} {s = s} h order fits below past long = record {
  most = h.most;
  few = h.few;
  order = order;
  fits = fits;
  below = below;
  late = omega (arith, mul-le-mul_left n past);
  long = long;
}

-- The loop over the rows from ≤ i < to of the planes `old`, where it has come to row i, whose first cell has turn s.
pub record Going (work : ℕ → ℕ → ℕ → ℕ → Cell → Cell) (n count u from to : ℕ) (old : List ℕ) (s : Turn) (i : ℕ) (l : List ℕ) : Type 0 where
  pub past : from ≤ i
  pub step : step_of n s + i ≡ u
  pub rest : Rows n count i to s l
  pub done : Done work n u old from i l

-- The loop begins, over some rows and over all.
module _ {work : ℕ → ℕ → ℕ → ℕ → Cell → Cell} {n count : ℕ} {s : Turn} {old : List ℕ} where
  pub begins : {from to : ℕ} → Rows n count from to s old → Going work n count (step_of n s + from) from to old s from old
  begins rows = record { past = omega arith; step = refl; rest = rows; done = done_none }

  pub all_begin : Head n count s → length old ≡ 3 * (n * n) → Going work n count (step_of n s) 0 n old s 0 old
  all_begin head long = record {
    past = omega arith;
    step = omega arith;
    rest = some_rows head (omega arith) (omega arith) head.below (omega (arith, head.early)) long;
    done = done_none;
  }

-- A row more, and the end.
module _ {work : ℕ → ℕ → ℕ → ℕ → Cell → Cell} {n count u from to : ℕ} {old : List ℕ} {s : Turn} {i : ℕ} {l : List ℕ}
    (c : Going work n count u from to old s i l) where
  pub one_row : i < to → Row n count i s l
  one_row more = record {
    most = c.rest.most;
    few = c.rest.few;
    row = omega (arith, c.rest.fits);
    below = c.rest.below;
    least = pass_least n s.pass s.point c.rest.below (omega (arith, c.rest.late));
    long = c.rest.long;
  }

  pub goes_on : {s' : Turn} {l' : List ℕ} → i < to → Done work n (step_of n s + i) l i (i + 1) l'
      → At n (n * s.pass + s.point - 1) s' → Going work n count u from to old s' (i + 1) l'
  goes_on more row back = record {
    past = omega (arith, c.past);
    step = omega (arith, back.at, c.step, c.rest.late);
    rest = record {
      most = c.rest.most;
      few = c.rest.few;
      order = omega arith;
      fits = c.rest.fits;
      below = back.below;
      late = omega (arith, back.at, c.rest.late);
      long = row.size ∙ c.rest.long;
    };
    done = done_join c.past (omega arith) (omega (arith, c.rest.fits)) c.done (rw c.step at row);
  }

  pub ends : to ≤ i → Done work n u old from to l
  ends last = let e : i ≡ to = omega (arith, c.rest.order) in rw e at c.done
