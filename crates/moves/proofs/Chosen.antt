-- A word that is one of two by its cell's pass, as the span of the row or the edge has it.
use Prim.Native.Nat.{ℕ, ◌+◌, ◌*◌, ◌<◌, ◌≤◌}
use native.Mathlib.Omega.{arith}
use native.Mathlib.Decide.{dec_lt}
use mathlib.Core.Path.{◌≡◌, refl}
use mathlib.Core.Bool.{Bool, true, false, cond}
use Rattle.turns.specs.Spans.{Spans}
use Rattle.turns.specs.declared.columns.Columns.{Columns}

-- Cell j is inside the span, before it or after it.
pub in_span : {n v j w x y : ℕ} {test : ℕ → Bool} {r : Columns} (pass k : ℕ) → Spans n test v r → j < n → k < n → n * pass + k + j ≡ v
    → (r.from ≤ j → j < r.to → w ≡ x) → (j < r.from → w ≡ y) → (r.to ≤ j → w ≡ y) → w ≡ cond (test pass) x y
in_span {j = j} {w} {x} {y} {test} {r} pass k span h b step inside before after = go (dec_lt j r.from) (dec_lt j r.to)
  where
    go : Dec (j < r.from) → Dec (j < r.to) → w ≡ cond (test pass) x y
    go (yes d) d' = rw (span.before j pass k d b step) (before d)
    go (no d) (yes d') = rw (span.inside j pass k (omega arith) d' b step) (inside (omega arith) d')
    go (no d) (no d') = rw (span.after j pass k (omega arith) h b step) (after (omega arith))

-- The two words may change their names.
pub chosen : (b : Bool) {x x' y y' : ℕ} → (b ≡ true → x ≡ x') → y ≡ y' → cond b x y ≡ cond b x' y'
chosen true e f = e refl
chosen false e f = f
