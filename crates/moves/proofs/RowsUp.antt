-- The rows slid from the last up, each with its own turn: the loop's begin, what a turn of it needs and gives, its end.
use Prim.Native.Nat.{ℕ, suc, ◌+◌, ◌-◌, ◌*◌, ◌<◌, ◌≤◌}
use native.Mathlib.Omega.{arith}
use mathlib.Core.Path.{◌≡◌, refl}
use mathlib.Core.List.{List}
use lib.ListN.{length}
use Rattle.turns.specs.Layout.{Lent}
use Rattle.moves.specs.Moved.{Moved}
use Rattle.moves.specs.Slid.{Slid}
use Rattle.moves.proofs.Slid.{row_slid}
use Rattle.turns.proofs.Geometry.{early_step, pass_least}
use Rattle.turns.specs.Spans.{Spans}
use Rattle.turns.specs.Turn.{live, At, step_of}
use Rattle.turns.specs.declared.columns.Columns.{Columns}
use Rattle.turns.specs.declared.turn.Turn.{Turn}

-- On the tick of step u the rows from i on are done; s is the turn of the first cell of the row above them.
pub record Sliding (n count u : ℕ) (old : List ℕ) (i : ℕ) (s : Turn) (l : List ℕ) : Type 0 where
  pub most : n ≤ 32
  pub few : count ≤ 16
  pub early : 4 * n ≤ u
  pub late : u ≤ 4096
  pub long : length old ≡ 3 * (n * n)
  pub within : i ≤ n
  pub turn : At n (u + 1 - i) s
  pub slid : Slid n count u old i l

-- The last row is n - 1 steps behind the first.
pub begins : {n count : ℕ} {head last : Turn} {old : List ℕ} → Lent n count head old
    → At n (n * head.pass + head.point + 1 - n) last → Sliding n count (step_of n head) old n last old
begins {n} {head = head} lent last = record {
  most = lent.turn.most;
  few = lent.turn.few;
  early = omega (arith, early_step n head.pass lent.turn.early);
  late = lent.turn.late;
  long = lent.long;
  within = omega arith;
  turn = last;
  slid = record {
    size = refl;
    a = λ m j pass k h h' b on. absurd (omega arith);
    b = λ m j pass k h h' b on f. absurd (omega arith);
    a_rest = λ p h. refl;
    b_rest = λ p h h'. refl;
  };
}

module _ {n count u i : ℕ} {old l : List ℕ} {s : Turn} (c : Sliding n count u old i s l) where
  pub some_pass : 1 ≤ s.pass
  some_pass = pass_least n s.pass s.point c.turn.below (omega (arith, c.turn.at, c.early, c.within))

  pub goes_on : {r : Columns} {l₁ l₂ : List ℕ} {s' : Turn} → 0 < i → Spans n (live count) (step_of n s) r
      → Moved 1 l (n * n + (i - 1) * n + r.from) (n * n + (i - 1) * n + r.to) l₁
      → Moved n l₁ (n * n + (i - 1) * n + n * n + r.from) (n * n + (i - 1) * n + n * n + r.to) l₂
      → At n (n * s.pass + s.point + 1) s' → Sliding n count u old (i - 1) s' l₂
  goes_on more span moved lowered next =
      let e : i ≡ suc (i - 1) = omega arith in
      record {
        most = c.most;
        few = c.few;
        early = c.early;
        late = c.late;
        long = c.long;
        within = omega (arith, c.within);
        turn = record { below = next.below; at = omega (arith, next.at, c.turn.at, c.early, c.within) };
        slid = row_slid (omega (arith, c.within)) (omega (arith, c.turn.at, c.early, c.within)) (rw e at c.slid) span moved lowered;
      }
