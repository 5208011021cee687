-- Following the successors of levelled points gives a way without a repeated point whose word is the first point's.
use Prim.Native.Nat.{ℕ, zero, suc, ◌≤◌, ◌<◌}
use native.Mathlib.Omega.{arith}
use native.Mathlib.Decide.{ℕ_discrete}
use mathlib.Core.Path.{◌≡◌, sym, ap, ◌∙◌}
use mathlib.Core.List.{List, [], ◌∷◌}
use lib.ListN.{length}
use Rattle.semiring.specs.Algebra.{own_of, product_of}
use Rattle.semiring.specs.declared.Algebra.{Algebra}
use Rattle.closure.specs.Table.{Table}
use Rattle.closure.specs.Ways.{Way, stay, step, way_word, Visits, now, later, NoRepeat, end, more}
use Rattle.closure.proofs.Simple.{visits_none}
use Rattle.closure.proofs.Ways.{stay_word, step_word}
use Rattle.ways.specs.inner.Levels.{Step, Levels, Follows, stop, on}
use Rattle.ways.proofs.Short.{short}

pub way_inside : {n i j x : ℕ} {l : List ℕ} → Way n i j l → Visits x l → x < n
way_inside (stay h) now = h
way_inside (stay h) (later v) = absurd (visits_none v)
way_inside (step h w) now = h
way_inside (step h w) (later v) = way_inside w v

-- Without a repeated point it has at most n.
pub way_short : {n i j : ℕ} {l : List ℕ} → Way n i j l → NoRepeat l → length l ≤ n
way_short {n} w once = short n once (λ x v. way_inside w v)

-- What following from v gives.
pub record Followed (a : Algebra) (n : ℕ) (t : Table) (value level : ℕ → ℕ) (to v : ℕ) (l : List ℕ) : Type 0 where
  pub way : Way n v to l
  pub once : NoRepeat l
  pub word : value v ≡ way_word a t l
  pub size : length l ≡ level v
  pub lower : (x : ℕ) → Visits x l → level x ≤ level v

visits_front : {x v : ℕ} {l : List ℕ} (level : ℕ → ℕ) (m : ℕ) → level v ≤ m → ((y : ℕ) → Visits y l → level y ≤ m) → Visits x (v ∷ l) → level x ≤ m
visits_front level m h f now = h
visits_front {x} level m h f (later w) = f x w

module _ {a : Algebra} {n : ℕ} {t : Table} {value : ℕ → ℕ} {to : ℕ} {level next : ℕ → ℕ} (own : value to ≡ own_of a) (inside : to < n)
    (levels : Levels a n t value to level next) where
  pub follows_way : {v : ℕ} {l : List ℕ} → v < n → 1 ≤ level v → Follows next to v l → Followed a n t value level to v l
  follows_way h r stop = record {
    way = stay h;
    once = more visits_none end;
    word = own ∙ sym (stay_word a t to);
    size = sym levels.target;
    lower = λ x w. visits_front level (level to) (omega arith) (λ y u. absurd (visits_none u)) w;
  }
  follows_way h r (on {v} {l} f k) =
      let s : Step a n t value level v (next v) = levels.falls h r f in
      let rest : Followed a n t value level to (next v) l = follows_way s.inside s.levelled k in
      record {
        way = step h rest.way;
        once = more (λ w. let b : level v ≤ level (next v) = rest.lower v w in absurd (omega (arith, s.below))) rest.once;
        word = s.word ∙ ap (product_of a (t v (next v))) rest.word ∙ sym (step_word a t v rest.way);
        size = ap suc rest.size ∙ sym s.below;
        lower = λ x w. visits_front level (level v) (omega arith) (λ y u. let b : level y ≤ level (next v) = rest.lower y u in omega (arith, s.below)) w;
      }

  -- There is such a list.
  pub follows : (m : ℕ) {v : ℕ} → level v ≤ m → v < n → 1 ≤ level v → (l : List ℕ) × Follows next to v l
  follows zero b h r = absurd (omega arith)
  follows (suc m) {v} b h r =
      elim (ℕ_discrete v to) [
        | yes e ↦ (to ∷ [], rw e stop)
        | no f ↦
            let s : Step a n t value level v (next v) = levels.falls h r f in
            let (l, k) = follows m {v = next v} (omega (arith, s.below)) s.inside s.levelled in
            (v ∷ l, on f k)
      ]

  -- No level is above n.
  pub level_most : {v : ℕ} → v < n → 1 ≤ level v → level v ≤ n
  level_most {v} h r =
      let (l, k) = follows (level v) (omega arith) h r in
      let f : Followed a n t value level to v l = follows_way h r k in
      omega (arith, f.size, way_short f.way f.once)
