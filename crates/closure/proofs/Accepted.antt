-- What the tests of an elimination ask of its input.
use Prim.Native.Nat.{ℕ, suc, ◌*◌, ◌≤◌}
use mathlib.Core.Path.{◌≡◌, refl}
use mathlib.Core.List.{List}
use lib.ListN.{length, get_or}
use lib.Dec.{eqb-suc-zero}
use Rattle.semiring.specs.Algebra.{Word, top_of}
use Rattle.semiring.specs.declared.Algebra.{Algebra}
use Rattle.closure.specs.Elimination.{eliminated}
use Rattle.closure.specs.Tests.{elimination_table, elimination_tests, result_after}
use Rattle.refusals.proofs.First.{Clear, none_applied, skip, clear, answers, inside, within, same, equal}
use Rattle.semiring.proofs.Above.{none_above, words_below}
use Rattle.std.specs.Prelude.{Option, Some as Known, None as Unknown}

pub record Accepted (a : Algebra) (n : ℕ) (w r : List ℕ) : Type 0 where
  pub least : 1 ≤ n
  pub most : n ≤ 128
  pub weights : length w ≡ n * n
  pub result : length r ≡ n * n
  pub words : (p : ℕ) → Word a (get_or w p 0)

pub clear_accepted : {a : Algebra} {n : ℕ} {w r : List ℕ} → Clear (elimination_table a n w r) → Accepted a n w r
clear_accepted {a} {n} {w} {r} (size, (weights, (result, (words, _)))) = record {
  least = (inside size).0;
  most = (inside size).1;
  weights = equal (length w) (n * n) weights;
  result = equal (length r) (n * n) result;
  words = words_below (top_of a) w words;
}

pub accepted : {a : Algebra} {n : ℕ} {w r : List ℕ} → elimination_tests (Known a) n w r ≡ 0 → Accepted a n w r
accepted {a} {n} {w} {r} e = clear_accepted (none_applied (elimination_table a n w r) refl e)

-- An accepted call leaves the elimination in the result.
pub accepted_result : (a : Algebra) (n : ℕ) (w r : List ℕ) → elimination_tests (Known a) n w r ≡ 0
    → result_after (Known a) n w r ≡ eliminated a n w
accepted_result a n w r e = rw e

-- A refused call leaves the result as it was.
pub refused_result : (d : Option Algebra) (n : ℕ) (w r : List ℕ) (number : ℕ) → elimination_tests d n w r ≡ suc number
    → result_after d n w r ≡ r
refused_result Unknown n w r number e = refl
refused_result (Known a) n w r number e = rw e (rw (eqb-suc-zero number))

-- The table read the other way: input that passes every test is accepted.
pub accepts : {a : Algebra} {n : ℕ} {w r : List ℕ} → Accepted a n w r → elimination_tests (Known a) n w r ≡ 0
accepts {a} {n} {w} {r} input =
    answers (skip (within 1 128 n input.least input.most)
    (skip (same (length w) (n * n) input.weights)
    (skip (same (length r) (n * n) input.result)
    (skip (none_above (top_of a) w (λ p h. input.words p)) clear))))
