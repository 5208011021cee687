-- The two halves of the work, one after the other; c in two bands of rows.
use Prim.Native.Nat.{ℕ, ◌+◌, ◌≤◌}
use native.Mathlib.Omega.{arith}
use mathlib.Core.Path.{◌≡◌, refl, ap, ◌∙◌}
use mathlib.Core.List.{List}
use mathlib.Core.Bool.{Bool, true, false, cond, ◌&&◌}
use lib.Dec.{eqb, ltb}
use borrow.Author.Tests.{lt-ltb, le-ltb}
use Rattle.semiring.specs.declared.Algebra.{Algebra}
use Rattle.systolic.specs.Cell.{Cell}
use Rattle.turns.specs.Layout.{words_at}
use Rattle.turns.specs.Turn.{live, pass_in, step_of}
use Rattle.turns.specs.declared.turn.Turn.{Turn}
use Rattle.cells.specs.Work.{cStart, summed, adding, taking}
use Rattle.cells.specs.Rows.{Done}
use Rattle.cells.specs.Settled.{row_algebra, Settled}
use Rattle.cells.proofs.Going.{done_as, done_join}

-- By the tests whether a pass is live and adds, and whether a and b take.
halves : (on adds a_takes b_takes : Bool) (new c a b : ℕ)
    → ◌≡◌ {A = Cell} (record {
      c = cond on new c;
      a = cond (on && a_takes) (cond on new c) a;
      b = cond ((on && adds) && b_takes) (cond on new c) b;
    })
    (cond on (record { c = new; a = cond a_takes new a; b = cond (b_takes && adds) new b }) (record { c = c; a = a; b = b }))
halves true true x true new c a b = refl
halves true true x false new c a b = refl
halves true false x true new c a b = refl
halves true false x false new c a b = refl
halves false y x z new c a b = refl

-- Both bands, each in its algebra, then what a and b take.
module _ (here behind : Algebra) (count : ℕ) (head : Turn) {n v w : ℕ} {l l₁ l₂ l₃ : List ℕ} (fits : head.point + 1 ≤ n)
    (one : Done (adding here count) n v l 0 (head.point + 1) l₁) (step : v ≡ step_of n head)
    (two : Done (adding behind count) n w l₁ (head.point + 1) n l₂) (step_behind : w ≡ step_of n head)
    (taken : Done (taking count) n (step_of n head) l₂ 0 n l₃) where
  abbrev algebra : ℕ → Algebra
  algebra i = row_algebra here behind head.point i

  abbrev work : ℕ → ℕ → ℕ → ℕ → Cell → Cell
  work i = adding (algebra i) count i

  upper : Done work n (step_of n head) l 0 (head.point + 1) l₁
  upper = done_as (λ i j pass k x f g. rw (lt-ltb i (head.point + 1) g)) (rw step at one)

  lower : Done work n (step_of n head) l₁ (head.point + 1) n l₂
  lower = done_as (λ i j pass k x f g. rw (le-ltb i (head.point + 1) f)) (rw step_behind at two)

  both : Done work n (step_of n head) l 0 n l₂
  both = done_join (omega arith) fits (omega arith) upper lower

  pub settled_all : Settled here behind n count head l l₃
  settled_all = record {
    size = taken.size ∙ both.size;
    cell = λ i j pass k row b on.
        taken.inside i j pass k (omega arith) row b on
        ∙ ap (taking count i j pass k) (both.inside i j pass k (omega arith) row b on)
        ∙ (let x : Cell = words_at n l i j in
        halves (live count pass) (ltb (pass_in pass) 3) (eqb k j) (eqb k i)
        (summed (algebra i) (pass_in pass) x.a x.b (cStart (algebra i) (pass_in pass) k x.c)) x.c x.a x.b);
  }
