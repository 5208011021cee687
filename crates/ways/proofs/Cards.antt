-- The cards of request K2, by computation.
use Prim.Native.Nat.{ℕ, ◌<◌}
use native.Mathlib.Omega.{arith}
use mathlib.Core.Path.{◌≡◌, refl}
use mathlib.Core.List.{List, [], ◌∷◌}
use Rattle.memory.specs.Lists.{list_of, any}
use Rattle.closure.specs.Elimination.{passes, closure, eliminated}
use Rattle.closure.specs.Ways.{Way, stay, step, way_word, Visits, now, later, NoRepeat, end, more}
use Rattle.ways.specs.claims.Cards.{WayCards}
use Rattle.closure.proofs.Simple.{visits_none}

other : {p q : ℕ} {l : List ℕ} → (p ≡ q → ⊥) → (Visits p l → ⊥) → Visits p (q ∷ l) → ⊥
other f g now = f refl
other f g (later v) = g v

-- three points
three : (x y z : ℕ) → x < 4 → y < 4 → z < 4 → Way 4 x z (x ∷ y ∷ z ∷ [])
three x y z h k l = step h (step k (stay l))

apart : (x y z : ℕ) → (x ≡ y → ⊥) → (x ≡ z → ⊥) → (y ≡ z → ⊥) → NoRepeat (x ∷ y ∷ z ∷ [])
apart x y z f g h = more (other f (other g visits_none)) (more (other h visits_none) (more visits_none end))

-- the point 1 twice
repeated : NoRepeat (0 ∷ 1 ∷ 1 ∷ 3 ∷ []) → ⊥
repeated (more f (more g once)) = g now

pub way_cards : WayCards
unfolding list_of any passes closure eliminated way_word
way_cards = record {
  closed = refl;
  accepted = refl;
  upper = record { way = three 0 1 3 (omega arith) (omega arith) (omega arith); once = apart 0 1 3 (λ e. omega arith) (λ e. omega arith) (λ e. omega arith); word = refl };
  lower = record { way = three 0 2 3 (omega arith) (omega arith) (omega arith); once = apart 0 2 3 (λ e. omega arith) (λ e. omega arith) (λ e. omega arith); word = refl };
  direct = λ given. let e : ◌≡◌ {A = ℕ} 65535 5 = given.word in omega arith;
  twice = λ given. repeated given.once;
  alone = (refl, record { way = stay {i = 2} (omega arith); once = more visits_none end; word = refl });
  none = refl;
  other = refl;
  outside = (refl, refl);
  short = refl;
  long = refl;
  unknown = refl;
}
