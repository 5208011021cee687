-- Whole planes moved, where every cell makes a step: no cell is more than two passes behind the first.
use Prim.Native.Nat.{ℕ, ◌+◌, ◌-◌, ◌*◌, ◌<◌}
use native.Mathlib.Omega.{arith}
use mathlib.Core.Path.{◌≡◌, ◌∙◌}
use mathlib.Core.List.{List}
use mathlib.Core.Bool.{true}
use Rattle.memory.proofs.Geometry.{row_fits}
use Rattle.turns.specs.Layout.{Lent}
use Rattle.moves.specs.Moved.{Moved}
use Rattle.moves.specs.Slid.{Slid}
use Rattle.turns.proofs.Geometry.{rows_apart}
use Rattle.turns.proofs.Turns.{live_bounds, live_within, pass_most, pass_near}
use Rattle.turns.specs.Turn.{live, Phase, step_of}
use Rattle.turns.specs.declared.turn.Turn.{Turn}

module _ {n count : ℕ} {s : Turn} {old l₁ l₂ : List ℕ} (lent : Lent n count s old)
    (here : live count s.pass ≡ true) (behind : live count (s.pass - 2) ≡ true)
    (moved : Moved 1 old (n * n) (2 * (n * n)) l₁) (lowered : Moved n l₁ (2 * (n * n)) (3 * (n * n)) l₂) where
  all_live : {i j pass k : ℕ} → i < n → j < n → Phase n (step_of n s) i j pass k → live count pass ≡ true
  all_live {pass = pass} h h' on =
      let (early, _) = live_bounds count (s.pass - 2) behind in
      let (_, late) = live_bounds count s.pass here in
      live_within count pass (omega (arith, early, pass_near {s = s} lent.turn.below on h h')) (omega (arith, late, pass_most {s = s} lent.turn.below on))

  pub planes_slid : Slid n count (step_of n s) old 0 l₂
  planes_slid = record {
    size = lowered.size ∙ moved.size;
    a = λ m j pass k h h' b on.
        rw (all_live h' b on)
        (lowered.before (n * n + (m * n + j)) (omega (arith, row_fits h'))
        ∙ moved.inside (n * n + (m * n + j)) (omega arith) (omega (arith, row_fits h')));
    b = λ m j pass k h h' b on some.
        let all : live count pass ≡ true = all_live h' b on in
        rw all
        (lowered.inside (2 * (n * n) + (m * n + j)) (omega arith) (omega (arith, row_fits h'))
        ∙ moved.after (2 * (n * n) + (m * n + j) - n) (omega (arith, rows_apart {m = 0} n (some all))));
    a_rest = λ p h. lowered.before p (omega arith) ∙ moved.before p (omega arith);
    b_rest = λ p h h'. absurd (omega arith);
  }
