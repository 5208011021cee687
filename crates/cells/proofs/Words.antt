-- c word by word: the one that starts as none, and one more that adds.
use Prim.Native.Nat.{ℕ, ◌+◌, ◌*◌, ◌<◌, ◌≤◌}
use native.Mathlib.Omega.{arith}
use mathlib.Core.Path.{◌≡◌, refl, sym, ◌∙◌}
use mathlib.Core.Bool.{Bool, true, false, true≢false}
use mathlib.Core.List.{List}
use lib.ListN.{length, get_or, set, length-set}
use lib.Seq.{get_or-set_same, get_or-set_other}
use Rattle.memory.proofs.Walk.{spanned_one}
use Rattle.memory.specs.Walked.{Spanned}
use Rattle.semiring.specs.Algebra.{none_word_of, sum_of, product_of}
use Rattle.semiring.specs.declared.Algebra.{Algebra}
use Rattle.turns.specs.Turn.{begins as beginsIn}
use Rattle.turns.specs.declared.turn.Turn.{Turn}
use Rattle.cells.specs.Settled.{added, Begun}

-- The cell at point 0 of its pass starts, or not.
module _ {algebra : Algebra} {count at : ℕ} {s : Turn} {l : List ℕ} {asked : Bool} (told : asked ≡ beginsIn count s.pass) where
  pub starts : {none : ℕ} → none ≡ none_word_of algebra → asked ≡ true → at + s.point < length l
      → Begun algebra count at s l (set l (at + s.point) none)
  starts {none} e so inside = record {
    size = length-set l (at + s.point) none;
    start = λ f. get_or-set_same l (at + s.point) none 0 inside ∙ e;
    kept = λ p f. get_or-set_other l (at + s.point) p none 0 (λ d. f d (sym told ∙ so));
  }

  pub stays : asked ≡ false → Begun algebra count at s l l
  stays not = record { size = refl; start = λ d. absurd (true≢false (sym d ∙ sym told ∙ not)); kept = λ p g. refl }

-- One word more of c, of a memory whose words from `from` to p have added. a and b lie behind c, so they are still as they were.
pub adds_one : (algebra : Algebra) {area from p v w : ℕ} {old l : List ℕ} → Spanned (added algebra area old) old from p l → from ≤ p → p < area
    → length old ≡ 3 * area → w ≡ product_of algebra (get_or l (p + area) 0) (get_or l (p + 2 * area) 0) → v ≡ sum_of algebra (get_or l p 0) w
    → Spanned (added algebra area old) old from (p + 1) (set l p v)
adds_one algebra {area} {p = p} {v} walked past more long d e =
    spanned_one v walked past (omega (arith, walked.size))
    (e ∙ rw (d, walked.after (p + area) (omega arith), walked.after (p + 2 * area) (omega arith)))
