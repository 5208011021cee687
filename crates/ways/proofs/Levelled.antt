-- Levels over the weights of a table: the successors of a levelled point lead to the target by a way of the closed entry's word, and
-- where no point is left that could get a level, every point has one.
use Prim.Native.Nat.{ℕ, ◌≤◌, ◌<◌}
use native.Mathlib.Nat.{le_refl}
use mathlib.Core.Path.{◌≡◌, sym}
use mathlib.Core.List.{List}
use lib.ListN.{get_or}
use Rattle.semiring.specs.Algebra.{Word, own_of}
use Rattle.semiring.specs.declared.Algebra.{Algebra}
use Rattle.closure.specs.Table.{entries, with_own}
use Rattle.closure.specs.Elimination.{closure}
use Rattle.closure.proofs.Links.{words_links}
use Rattle.closure.proofs.Passes.{passes_own}
use Rattle.ways.specs.Given.{Attains}
use Rattle.ways.specs.inner.Levels.{Levels, Saturated, Follows}
use Rattle.ways.proofs.Follow.{follows_way, follows, level_most}
use Rattle.ways.proofs.Complete.{complete}

module _ (a : Algebra) (n : ℕ) (w : List ℕ) (words : (p : ℕ) → Word a (get_or w p 0)) {to : ℕ} (inside : to < n) where
  own : closure a n w to to ≡ own_of a
  unfolding closure
  own = passes_own (words_links a n w words) n to

  pub all_levelled : (level : ℕ → ℕ) → 1 ≤ level to → Saturated a n (with_own a (entries n w)) (λ v. closure a n w v to) level
      → (v : ℕ) → v < n → 1 ≤ level v
  unfolding closure
  all_levelled level target saturated = complete (words_links a n w words) inside level target saturated

  module _ {level next : ℕ → ℕ} (levels : Levels a n (with_own a (entries n w)) (λ v. closure a n w v to) to level next) where
    pub leads : {from : ℕ} {points : List ℕ} → from < n → 1 ≤ level from → Follows next to from points
        → Attains a n w from to (closure a n w from to) points
    leads h r k = let f = follows_way own inside levels h r k in record { way = f.way; once = f.once; word = sym f.word }

    pub leads_some : {v : ℕ} → v < n → 1 ≤ level v → (points : List ℕ) × Follows next to v points
    leads_some {v} h r = follows own inside levels (level v) (le_refl (level v)) h r

    pub most_levels : {v : ℕ} → v < n → 1 ≤ level v → level v ≤ n
    most_levels h r = level_most own inside levels h r
