-- The equations of the elimination, and that it gives words: what the crates above cite, so that none of them unfolds its definitions.
use Prim.Native.Nat.{ℕ, suc}
use mathlib.Core.Path.{◌≡◌, refl}
use mathlib.Core.List.{List}
use lib.ListN.{get_or}
use Rattle.semiring.specs.Algebra.{Word}
use Rattle.semiring.specs.declared.Algebra.{Algebra}
use Rattle.closure.specs.Table.{Table, entries, row_by_row, with_own}
use Rattle.closure.specs.Elimination.{through, passes, closure, eliminated}
use Rattle.closure.proofs.Links.{words_links}
use Rattle.closure.proofs.Passes.{passes_word}

pub passes_none : (a : Algebra) (t : Table) → passes a t 0 ≡ t
unfolding passes
passes_none a t = refl

pub passes-next : (a : Algebra) (t : Table) (m : ℕ) → passes a t (suc m) ≡ through a m (passes a t m)
unfolding passes
passes-next a t m = refl

pub closure_passes : (a : Algebra) (n : ℕ) (w : List ℕ) → closure a n w ≡ passes a (with_own a (entries n w)) n
unfolding closure
closure_passes a n w = refl

pub eliminated_closure : (a : Algebra) (n : ℕ) (w : List ℕ) → eliminated a n w ≡ row_by_row n (closure a n w)
unfolding eliminated
eliminated_closure a n w = refl

pub closure_word : (a : Algebra) (n : ℕ) (w : List ℕ) → ((p : ℕ) → Word a (get_or w p 0)) → (i j : ℕ) → Word a (closure a n w i j)
closure_word a n w words i j = rw (closure_passes a n w) (passes_word (words_links a n w words) n i j)
