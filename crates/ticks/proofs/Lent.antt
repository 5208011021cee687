-- The memory as the definition's planes, before a tick and after.
use Prim.Native.Nat.{ℕ, ◌*◌, ◌<◌}
use native.Mathlib.Omega.{arith}
use mathlib.Core.Path.{◌≡◌, sym, ap, ◌∙◌}
use mathlib.Core.List.{List}
use lib.ListN.{length}
use Rattle.closure.specs.Table.{entries, row_by_row}
use Rattle.closure.proofs.Holds.{holds_row_by_row}
use Rattle.job_list.specs.Jobs.{Jobs}
use Rattle.systolic.specs.Cell.{Planes, Cell}
use Rattle.systolic.specs.Tick.{cell_after, planes_after}
use Rattle.turns.specs.Layout.{plane_in, planes_in}
use Rattle.ticks.specs.Swept.{Held, Made}
use Rattle.emission.proofs.PlaneWords.{plane_size, c_word, a_word, b_word}

pub held_planes : (J : Jobs) (l : List ℕ) → length l ≡ 3 * (J.order * J.order) → Held J (planes_in J.order l) l
held_planes J l long = record {
  cell = λ i j h b. λ x. record {
    c = sym (c_word J.order l long i j h b) x;
    a = sym (a_word J.order l long i j h b) x;
    b = sym (b_word J.order l long i j h b) x;
  };
}

pub made_planes : (J : Jobs) (t : ℕ) (r : Planes) (l : List ℕ) → length l ≡ 3 * (J.order * J.order) → Made J t r l
    → planes_in J.order l ≡ planes_after J t r
unfolding planes_after
made_planes J t r l long made = λ x. record {
  c = plane (plane_in J.order 0 l) (λ y. y.c) (plane_size J.order l long 0 (omega arith)) (λ i j h b. c_word J.order l long i j h b ∙ ap (λ (y : Cell). y.c) (made.cell i j h b)) x;
  a = plane (plane_in J.order 1 l) (λ y. y.a) (plane_size J.order l long 1 (omega arith)) (λ i j h b. a_word J.order l long i j h b ∙ ap (λ (y : Cell). y.a) (made.cell i j h b)) x;
  b = plane (plane_in J.order 2 l) (λ y. y.b) (plane_size J.order l long 2 (omega arith)) (λ i j h b. b_word J.order l long i j h b ∙ ap (λ (y : Cell). y.b) (made.cell i j h b)) x;
}
  where
    plane : (m : List ℕ) (f : Cell → ℕ) → length m ≡ J.order * J.order
        → ((i j : ℕ) → i < J.order → j < J.order → entries J.order m i j ≡ f (cell_after J t r i j))
        → m ≡ row_by_row J.order (λ i j. f (cell_after J t r i j))
    plane m f size word = holds_row_by_row (record { size = size; word = word })
