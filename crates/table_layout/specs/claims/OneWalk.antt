-- K3, "for every m up to n²": which m `lay_out` takes, and how `laid_out`, which it leaves, grows with m. That the steps are one walk, and that
-- `eliminate` makes no other before it, is read off the code: a contract speaks of the memory after a call.
use Rattle.std.specs.Prelude.{ℕ, ◌+◌, ◌*◌, ◌/◌, ◌%◌, ◌<◌, ◌≤◌, ◌≡◌, List, [], ◌∷◌, length, set}
use Rattle.semiring.specs.declared.Algebra.{Algebra}
use Rattle.semiring.specs.declared.Algebra.TheVariants.{Reach, Distance, Steepest}
use Rattle.closure.specs.Table.{entries, row_by_row, with_own}
use Rattle.table_layout.specs.LaidOut.{laid_out, ToLayOut}

-- Every m up to n² is taken.
abbrev pub EveryM : Type 0
EveryM =
    (n m : ℕ) (weights table : List ℕ) → n ≤ 128 → length weights ≡ n * n → length table ≡ n * n → m ≤ n * n → ToLayOut n m weights table

-- Before the first step nothing has changed.
abbrev pub NoStep : Type 0
NoStep = (a : Algebra) (n : ℕ) (weights old : List ℕ) → laid_out a n 0 weights old ≡ old

-- The step after m steps writes word m of the table with its diagonal set, and no other word.
abbrev pub OneStep : Type 0
OneStep =
    (a : Algebra) (n m : ℕ) (weights old : List ℕ) → length old ≡ n * n → m < n * n
    → laid_out a n (m + 1) weights old ≡ set (laid_out a n m weights old) m (with_own a (entries n weights) (m / n) (m % n))

-- After n² steps the whole table is there.
abbrev pub AllSteps : Type 0
AllSteps = (a : Algebra) (n : ℕ) (weights old : List ℕ) → length old ≡ n * n → laid_out a n (n * n) weights old ≡ row_by_row n (with_own a (entries n weights))

-- A table of two points over a memory of sevens, step after step, and whole in the other two algebras.
abbrev after : Algebra → ℕ → ℕ → ℕ → List ℕ
after a x y m = laid_out a 2 m (x ∷ y ∷ 0 ∷ x ∷ []) (7 ∷ 7 ∷ 7 ∷ 7 ∷ [])

abbrev pub StepsCard : Type 0
StepsCard =
    (after Distance 9 3 0 ≡ 7 ∷ 7 ∷ 7 ∷ 7 ∷ [])
    × (after Distance 9 3 1 ≡ 0 ∷ 7 ∷ 7 ∷ 7 ∷ [])
    × (after Distance 9 3 2 ≡ 0 ∷ 3 ∷ 7 ∷ 7 ∷ [])
    × (after Distance 9 3 3 ≡ 0 ∷ 3 ∷ 0 ∷ 7 ∷ [])
    × (after Distance 9 3 4 ≡ 0 ∷ 3 ∷ 0 ∷ 0 ∷ [])
    × (after Steepest 9 3 4 ≡ 0 ∷ 3 ∷ 0 ∷ 0 ∷ [])
    × (after Reach 0 1 4 ≡ 1 ∷ 1 ∷ 0 ∷ 1 ∷ [])
