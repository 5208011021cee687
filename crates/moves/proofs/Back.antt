-- A walk from the end of a part to its front: each word takes one before it that still stands.
use Prim.Native.Nat.{ℕ, ◌+◌, ◌-◌, ◌<◌, ◌≤◌}
use native.Mathlib.Omega.{arith}
use native.Mathlib.Decide.{ℕ_discrete}
use mathlib.Core.Path.{◌≡◌, refl, ◌∙◌}
use mathlib.Core.List.{List}
use lib.ListN.{get_or, set, length-set}
use lib.Seq.{get_or-set_same, get_or-set_other}
use Rattle.moves.specs.Moved.{Movable, Moved}

-- Nothing is moved yet.
pub moved_none : (d p : ℕ) (old : List ℕ) → Moved d old p p old
moved_none d p old = record { size = refl; inside = λ j h k. absurd (omega arith); before = λ j h. refl; after = λ j h. refl }

-- Word q, the next before those that have moved, takes word j.
pub moved_back : {d at p end q : ℕ} (j : ℕ) {old l : List ℕ} → Moved d old p end l → at < p → p ≤ end → Movable d at end old → q + 1 ≡ p → j + d ≡ q
    → Moved d old (p - 1) end (set l q (get_or l j 0))
moved_back {d} {p = p} {end} {q} j {old} {l} s more h room here source = record {
  size = length-set l q v ∙ s.size;
  inside = λ i u w. one i u w (ℕ_discrete i q);
  before = λ i u. get_or-set_other l q i v 0 (λ z. omega arith) ∙ stands i (omega arith);
  after = λ i u. get_or-set_other l q i v 0 (λ z. omega arith) ∙ s.after i u;
}
  where
    v : ℕ
    v = get_or l j 0

    stands : (i : ℕ) → i < p → get_or l i 0 ≡ get_or old i 0
    stands i h = s.before i h

    from : q - d ≡ j
    from = omega arith

    one : (i : ℕ) → p - 1 ≤ i → i < end → Dec (i ≡ q) → get_or (set l q v) i 0 ≡ get_or old (i - d) 0
    one i u w (yes z) =
        rw (z, from) (get_or-set_same l q v 0 (omega (arith, room.within, s.size)) ∙ stands j (omega (arith, room.some)))
    one i u w (no z) = get_or-set_other l q i v 0 z ∙ s.inside i (omega arith) w
