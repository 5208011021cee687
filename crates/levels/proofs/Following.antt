-- Following the successors: nothing yet, one point more, and the target.
use Prim.Native.Nat.{ℕ, suc, ◌+◌, ◌-◌, ◌≤◌, ◌<◌}
use native.Mathlib.Omega.{arith}
use native.Mathlib.Numerals.{add-one}
use mathlib.Core.Path.{◌≡◌, refl, sym, ap, ◌∙◌}
use mathlib.Core.List.{List, [], ◌∷◌, ◌++◌, append_assoc}
use lib.ListN.{length, get_or, set, take, drop, length-set, length-drop, length-append}
use lib.Seq.{get_or-set_other, get_or-drop, ext_get_or, take-suc-set, set_split, length-take-le}
use Rattle.closure.specs.Ways.{Visits, now, later}
use Rattle.ways.specs.inner.Levels.{Follows, stop, on}
use Rattle.levels.specs.declared.backwards.Mark.{Mark}
use Rattle.levels.specs.inner.Marks.{next_of}
use Rattle.levels.specs.inner.Follow.{Ahead, Written}

-- The first i points stand at the front, the points from v on are ahead.
pub record Following (to : ℕ) (marks : List Mark) (from : ℕ) (old list : List ℕ) (v i : ℕ) : Type 0 where
  pub ahead : Ahead to marks v list
  pub whole : Follows (next_of marks) to from (take i list ++ ahead.points)
  pub fits : i + length ahead.points ≤ length list
  pub size : length list ≡ length old
  pub rest : (p : ℕ) → i ≤ p → get_or list p 0 ≡ get_or old p 0
  pub point_inside : v < length marks
  pub slot_inside : i < length list
  pub few : length marks ≤ 65536
  pub small : length list ≤ 65536

follows_head : {f : ℕ → ℕ} {to v : ℕ} {l : List ℕ} → Follows f to v l → Visits v l × (1 ≤ length l)
follows_head stop = (now, omega arith)
follows_head (on f k) = (now, omega arith)

-- What follows a point that is not the target.
follows_rest : {f : ℕ → ℕ} {to v : ℕ} {l : List ℕ} → Follows f to v l → (v ≡ to → ⊥)
    → (l' : List ℕ) × (l ≡ v ∷ l') × Follows f to (f v) l'
follows_rest stop n = absurd (n refl)
follows_rest (on {l} f k) n = (l, refl, k)

follows_end : {f : ℕ → ℕ} {to v : ℕ} {l : List ℕ} → Follows f to v l → v ≡ to → l ≡ v ∷ []
follows_end stop e = refl
follows_end (on f k) e = absurd (f e)

rest_drop : (i : ℕ) (l old : List ℕ) → length l ≡ length old → ((p : ℕ) → i ≤ p → get_or l p 0 ≡ get_or old p 0) → drop i l ≡ drop i old
rest_drop i l old s h =
    ext_get_or 0 (drop i l) (drop i old) (simp length-drop (omega arith))
    (λ p b. get_or-drop i l p 0 ∙ h (i + p) (omega arith) ∙ sym (get_or-drop i old p 0))

module _ {to : ℕ} {marks : List Mark} {from : ℕ} {old : List ℕ} where
  pub begins : Ahead to marks from old → Following to marks from old old from 0
  begins h =
      let (first, some) = follows_head h.follows in
      record {
        ahead = h;
        whole = h.follows;
        fits = omega (arith, h.fits);
        size = refl;
        rest = λ p b. refl;
        point_inside = h.inside from first;
        slot_inside = omega (arith, some, h.fits);
        few = h.most;
        small = h.small;
      }

  module _ {list : List ℕ} {v i : ℕ} (k : Following to marks from old list v i) where
    -- the front with v behind it
    front : take (i + 1) (set list i v) ≡ take i list ++ (v ∷ [])
    front = rw add-one (take-suc-set list i v k.slot_inside)

    pub goes_on : (v ≡ to → ⊥) → Following to marks from old (set list i v) (next_of marks v) (i + 1)
    goes_on f =
        let (l, e, g) = follows_rest k.ahead.follows f in
        let whole : Follows (next_of marks) to from (take i list ++ (v ∷ l)) = rw e at k.whole in
        let fits : i + length (v ∷ l) ≤ length list = rw e at k.fits in
        let inside : (x : ℕ) → Visits x (v ∷ l) → x < length marks = rw e at k.ahead.inside in
        let same : length (set list i v) ≡ length list = length-set list i v in
        let (first, some) = follows_head g in
        record {
          ahead = record { points = l; follows = g; inside = λ x b. inside x (later b); most = k.ahead.most; fits = omega arith; small = omega (arith, k.ahead.small) };
          whole = rw (front, append_assoc) whole;
          fits = omega arith;
          size = same ∙ k.size;
          rest = λ p b. get_or-set_other list i p v 0 (λ q. omega arith) ∙ k.rest p (omega arith);
          point_inside = inside (next_of marks v) (later first);
          slot_inside = omega (arith, some, fits, same);
          few = k.few;
          small = omega (arith, k.small, same);
        }

    -- the room that is left falls
    pub less : length (set list i v) - (i + 1) < length list - i
    less = simp length-set (omega (arith, k.slot_inside))

    pub ends : v ≡ to → Written to marks from old (set list i v) (i + 1)
    ends q =
        let e = follows_end k.ahead.follows q in
        let whole : Follows (next_of marks) to from (take i list ++ (v ∷ [])) = rw e at k.whole in
        let before : length (take i list) ≡ i = length-take-le i list (omega (arith, k.slot_inside)) in
        let count : length (take i list ++ (v ∷ [])) ≡ suc i = simp length-append (omega arith) in
        record {
          points = take i list ++ (v ∷ []);
          follows = whole;
          carried = omega arith;
          memory = set_split list i v k.slot_inside
              ∙ ap (λ (z : List ℕ). take i list ++ (v ∷ z)) (rest_drop (suc i) list old k.size (λ p b. k.rest p (omega arith)))
              ∙ sym (rw (count, append_assoc));
        }
