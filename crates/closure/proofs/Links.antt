-- The tables that an elimination starts from.
use Prim.Native.Nat.{ℕ, ◌+◌, ◌*◌}
use mathlib.Core.Path.{◌≡◌, refl}
use mathlib.Core.Bool.{true, false, cond}
use mathlib.Core.List.{List}
use lib.Dec.{eqb}
use lib.ListN.{get_or}
use borrow.Author.Tests.{eq-eqb}
use Rattle.semiring.specs.Algebra.{Word, own_of}
use Rattle.semiring.specs.declared.Algebra.{Algebra}
use Rattle.semiring.proofs.Laws.{laws}
use Rattle.closure.specs.Table.{Table, entries, with_own}

-- Every entry is a word, and the diagonal is the own word.
pub record Links (a : Algebra) (t : Table) : Type 0 where
  pub word : (i j : ℕ) → Word a (t i j)
  pub own : (i : ℕ) → t i i ≡ own_of a

pub with_own_links : (a : Algebra) (t : Table) → ((i j : ℕ) → Word a (t i j)) → Links a (with_own a t)
with_own_links a t valid = record {
  word = λ i j.
      elim (eqb i j) as (λ b. Word a (cond b (own_of a) (t i j))) [ true ↦ (laws a).own_word | false ↦ valid i j ];
  own = λ i. rw (eq-eqb i i refl);
}

pub words_links : (a : Algebra) (n : ℕ) (w : List ℕ) → ((p : ℕ) → Word a (get_or w p 0)) → Links a (with_own a (entries n w))
words_links a n w words = with_own_links a (entries n w) (λ i j. words (i * n + j))
