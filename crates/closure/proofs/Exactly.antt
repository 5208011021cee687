-- Ways are the lists of points with the ends asked for, and the words of some that repeat points.
use Prim.Native.Nat.{ℕ, zero, suc, ◌-◌, ◌<◌, ◌≤◌}
use native.Mathlib.Omega.{arith}
use mathlib.Core.Path.{◌≡◌, refl, sym, ap, ◌∙◌}
use mathlib.Core.List.{List, [], ◌∷◌}
use lib.ListN.{length, get_or}
use Rattle.closure.specs.Ways.{Way, stay, step, way_word}
use Rattle.closure.specs.claims.Ways.{PointsFrom, WaysExactly, RepeatCards}

one-point : {n i : ℕ} → i < n → PointsFrom n i i (i ∷ [])
one-point {n} {i} h = record { some = omega arith; points = points; begins = refl; ends = refl }
  where
    points : (p : ℕ) → p < 1 → get_or (i ∷ []) p 0 < n
    points zero k = h
    points (suc p) k = absurd (omega arith)

-- A point in front does not change the last.
last_more : (i x : ℕ) (l : List ℕ) → get_or (i ∷ x ∷ l) (length (i ∷ x ∷ l) - 1) 0 ≡ get_or (x ∷ l) (length (x ∷ l) - 1) 0
last_more i x l =
    let e : length (i ∷ x ∷ l) - 1 ≡ suc (length l) = omega arith in
    let f : length l ≡ length (x ∷ l) - 1 = omega arith in
    ap (λ (p : ℕ). get_or (i ∷ x ∷ l) p 0) e ∙ ap (λ (p : ℕ). get_or (x ∷ l) p 0) f

point_more : {n i k j : ℕ} (l : List ℕ) → i < n → PointsFrom n k j l → PointsFrom n i j (i ∷ l)
point_more [] h r = absurd (omega (arith, r.some))
point_more {n} {i} (x ∷ l) h r = record { some = omega arith; points = points; begins = refl; ends = last_more i x l ∙ r.ends }
  where
    points : (p : ℕ) → p < suc (length (x ∷ l)) → get_or (i ∷ x ∷ l) p 0 < n
    points zero k = h
    points (suc p) k = r.points p (omega arith)

is_from : {n i j : ℕ} {l : List ℕ} → Way n i j l → PointsFrom n i j l
is_from (stay h) = one-point h
is_from (step {l} h way) = point_more l h (is_from way)

any_from : (n i j : ℕ) (l : List ℕ) → PointsFrom n i j l → Way n i j l
any_from n i j [] r = absurd (omega (arith, r.some))
any_from n i j (x ∷ []) r = rw (← r.begins, ← r.ends) (stay (r.points 0 (omega arith)))
any_from n i j (x ∷ y ∷ l) r =
    rw (← r.begins)
    (step (r.points 0 (omega arith))
    (any_from n y j (y ∷ l) (record { some = omega arith; points = λ p h. r.points (suc p) (omega arith); begins = refl; ends = sym (last_more x y l) ∙ r.ends })))

pub ways_exactly : WaysExactly
ways_exactly n i j l = record { is = is_from; any = any_from n i j l }

first : 0 < 2
first = omega arith

second : 1 < 2
second = omega arith

pub repeat_cards : RepeatCards
unfolding way_word
repeat_cards = record {
  way = step first (step second (step first (stay second)));
  length_added = refl;
  steepest = refl;
  reached = refl;
  still = refl;
}
