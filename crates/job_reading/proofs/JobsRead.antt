-- Jobs that have been read whole, one after the other: what their algebras, sizes and weights then are.
use Prim.Native.Nat.{ℕ, zero, suc, ◌+◌, ◌*◌, ◌≤◌, ◌<◌, zero-le}
use native.Mathlib.Omega.{arith}
use mathlib.Core.Path.{◌≡◌, refl, sym, ap, ap₂, subst, ◌∙◌}
use mathlib.Core.List.{List, [], ◌∷◌, ◌++◌, append-nil, append_assoc}
use mathlib.Core.Bool.{false}
use lib.ListN.{length, get_or, take, drop, length-append}
use lib.Seq.{take_at, drop-append-add}
use Rattle.semiring.specs.Algebra.{Word, top_of}
use Rattle.semiring.specs.declared.Algebra.{Algebra}
use Rattle.semiring.specs.declared.Algebra.TheVariants.{Reach, Distance, Steepest}
use Rattle.semiring.specs.Named.{named_of, number_of}
use Rattle.semiring.specs.Words.{any_above}
use Rattle.semiring.proofs.Above.{words_below}
use Rattle.job_list.specs.Jobs.{known, algebra_of, offset, words_of}

-- "A job's weights are the part of the list's weights that begins where the earlier jobs' end".
pub data JobsRead : List ℕ → List ℕ → List ℕ → Type 0 where
  none : JobsRead [] [] []
  and : (a : Algebra) {n : ℕ} {bs ns : List ℕ} (w ws : List ℕ) → length w ≡ n * n → any_above (top_of a) w ≡ false → JobsRead bs ns ws
      → JobsRead (number_of a ∷ bs) (n ∷ ns) (w ++ ws)

pub one_job_more : (a : Algebra) (n : ℕ) (w : List ℕ) {bs ns ws : List ℕ} → length w ≡ n * n → any_above (top_of a) w ≡ false
    → JobsRead bs ns ws → JobsRead (bs ++ (number_of a ∷ [])) (ns ++ (n ∷ [])) (ws ++ w)
one_job_more a n w long below none = subst (JobsRead (number_of a ∷ []) (n ∷ [])) (append-nil w) (and a w [] long below none)
one_job_more a n w long below (and b v ws e f jobs) = rw (append_assoc v ws w) (and b v (ws ++ w) e f (one_job_more a n w long below jobs))

pub paired : {bs ns ws : List ℕ} → JobsRead bs ns ws → length bs ≡ length ns
paired none = refl
paired (and a w ws e f jobs) = ap suc (paired jobs)

pub all_words : {bs ns ws : List ℕ} → JobsRead bs ns ws → length ws ≡ words_of ns
unfolding offset
all_words none = refl
all_words (and a w ws e f jobs) = length-append w ws ∙ ap₂ (λ (x y : ℕ). x + y) e (all_words jobs)

named : (a : Algebra) → (number_of a ≤ 2) × (known (named_of (number_of a)) ≡ a)
named Reach = (omega arith, refl)
named Distance = (omega arith, refl)
named Steepest = (omega arith, refl)

pub numbered : {bs ns ws : List ℕ} → JobsRead bs ns ws → (q : ℕ) → q < length bs → get_or bs q 0 ≤ 2
numbered none q h = zero-le
numbered (and a w ws e f jobs) zero h = (named a).0
numbered (and a w ws e f jobs) (suc q) h = numbered jobs q (omega arith)

pub own_words : {bs ns ws : List ℕ} → JobsRead bs ns ws → (q p : ℕ)
    → Word (algebra_of bs q) (get_or (take (get_or ns q 0 * get_or ns q 0) (drop (offset ns q) ws)) p 0)
unfolding offset algebra_of
own_words none q p = zero-le
own_words (and a {n} w ws e f jobs) zero p = rw ((named a).1, take_at w ws (n * n) e) (words_below (top_of a) w f p)
own_words (and a {ns = ns} w ws e f jobs) (suc q) p =
    rw (sym e) (rw (drop-append-add w ws (offset ns q)) (own_words jobs q p))
