-- Tables compared: one whose links are all at least as good stays so through the passes, and so do the words of its ways.
use Prim.Native.Nat.{ℕ, zero, suc, ◌+◌, ◌*◌, ◌≤◌, ◌<◌}
use native.Mathlib.Nat.{le_of_lt, le_refl}
use native.Mathlib.Decide.{ℕ_discrete}
use mathlib.Core.Path.{◌≡◌}
use mathlib.Core.Logic.{◌≢◌}
use mathlib.Core.List.{List}
use lib.ListN.{get_or}
use borrow.Author.Tests.{eq-eqb, ne_eqb}
use Rattle.semiring.specs.Algebra.{Word, Betters}
use Rattle.semiring.specs.declared.Algebra.{Algebra}
use Rattle.semiring.proofs.Laws.{laws}
use Rattle.semiring.proofs.Order.{AsGood, good_refl, sum_good, product_good, not_bettered}
use Rattle.semiring.proofs.Betters.{unbettered_good}
use Rattle.closure.specs.Table.{Table, entries, with_own}
use Rattle.closure.specs.Elimination.{passes, closure}
use Rattle.closure.specs.Ways.{Way, stay, step, way_word}
use Rattle.closure.proofs.Accepted.{Accepted, accepted}
use Rattle.closure.proofs.Ways.{way_start, stay_word, step_word}
use Rattle.closure.specs.claims.Monotone.{Monotone}

-- Each link of s is at least as good as that of t.
abbrev Good : Algebra → ℕ → Table → Table → Type 0
Good a n s t = (i j : ℕ) → i < n → j < n → AsGood a (s i j) (t i j)

passes_good : {a : Algebra} {s t : Table} {n : ℕ} → Good a n s t
    → (m i j : ℕ) → m ≤ n → i < n → j < n → AsGood a (passes a s m i j) (passes a t m i j)
unfolding passes
passes_good known zero i j h hi hj = known i j hi hj
passes_good known (suc m) i j h hi hj =
    let g = passes_good known m in
    sum_good (g i j (le_of_lt h) hi hj) (product_good (g i m (le_of_lt h) hi h) (g m j (le_of_lt h) h hj))

way_good : {a : Algebra} {s t : Table} {n : ℕ} → Good a n s t
    → {i j : ℕ} {l : List ℕ} → Way n i j l → AsGood a (way_word a s l) (way_word a t l)
way_good {a} {s} {t} known (stay {i} h) = rw (stay_word a s i, stay_word a t i) (good_refl (laws a).own_word)
way_good {a} {s} {t} known (step {i} {k} h way) =
    rw (step_word a s i way, step_word a t i way) (product_good (known i k h (way_start way)) (way_good known way))

-- Of two tables of words, accepted or not, where no link of w betters that of v.
module _ (a : Algebra) (n : ℕ) (v w : List ℕ) (v_words : (p : ℕ) → Word a (get_or v p 0)) (w_words : (p : ℕ) → Word a (get_or w p 0))
    (order : (i j : ℕ) → i < n → j < n → i ≢ j → Betters a (entries n w i j) (entries n v i j) → ⊥) where
  links_good : Good a n (with_own a (entries n v)) (with_own a (entries n w))
  links_good i j hi hj = go (ℕ_discrete i j)
    where
      go : Dec (i ≡ j) → AsGood a (with_own a (entries n v) i j) (with_own a (entries n w) i j)
      go (yes e) = rw (eq-eqb i j e) (good_refl (laws a).own_word)
      go (no d) = rw (ne_eqb i j d) (unbettered_good (v_words (i * n + j)) (w_words (i * n + j)) (order i j hi hj d))

  pub closure_good : (i j : ℕ) → i < n → j < n → AsGood a (closure a n v i j) (closure a n w i j)
  unfolding closure
  closure_good i j hi hj = passes_good links_good n i j (le_refl n) hi hj

  pub words_good : {i j : ℕ} {l : List ℕ} → Way n i j l
      → AsGood a (way_word a (with_own a (entries n v)) l) (way_word a (with_own a (entries n w)) l)
  words_good way = way_good links_good way

pub monotone : Monotone
monotone a n v w r s e f order i j hi hj =
    let first : Accepted a n v r = accepted e in
    let second : Accepted a n w s = accepted f in
    not_bettered (closure_good a n v w first.words second.words order i j hi hj)
