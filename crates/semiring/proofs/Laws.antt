-- The laws hold in all three algebras: each is linear arithmetic, with distance's product by its formula (Held).
use Prim.Native.Nat.{ℕ, ◌≤◌, min, max}
use native.Mathlib.Omega.{arith}
use native.Mathlib.Decide.{dec_le}
use mathlib.Core.Path.{◌≡◌, ◌∙◌}
use mathlib.Core.Logic.{◌⊎◌, inl, inr}
use Rattle.semiring.specs.claims.Laws.{Laws, Picks}
use Rattle.semiring.specs.declared.Algebra.TheVariants.{Reach, Distance, Steepest}
use Rattle.semiring.proofs.Held.{is_joined, joined_word, joined_comm, joined_own, joined-none, joined_below, joined_min, joined_assoc}

pub laws : Laws
laws Reach = search arith
laws Distance = record {
  none_word = omega arith;
  own_word = omega arith;
  sum_word = λ u v. omega arith;
  product_word = λ u v. rw (is_joined u v) (joined_word u v);
  sum_comm = λ u v. omega arith;
  sum_assoc = λ u v w. omega arith;
  sum_idem = λ u. omega arith;
  sum_own = λ u. omega arith;
  product_assoc = λ u v w.
      rw (is_joined u v, is_joined v w, is_joined (joined_word u v) w, is_joined u (joined_word v w)) (joined_assoc u v w);
  product_sum = λ {x} {y} {z} u v w.
      rw (is_joined u v, is_joined u w, is_joined {y = min y z} u (omega arith)) (joined_min x y z);
  sum_product = λ {x} {y} {z} u v w.
      rw (is_joined u w, is_joined v w, is_joined {x = min x y} (omega arith) w)
      (joined_comm (min x y) z ∙ joined_min z x y ∙ rw (joined_comm z x, joined_comm z y));
  sum_none = λ u. omega arith;
  product_none = λ u. is_joined u (omega arith) ∙ joined-none u;
  none_product = λ {x} u. is_joined (omega arith) u ∙ joined_comm 65535 x ∙ joined-none u;
  product_own = λ u. is_joined u (omega arith) ∙ joined_own u;
  own_product = λ {x} u. is_joined (omega arith) u ∙ joined_comm 0 x ∙ joined_own u;
  product_not_none = λ {x} {y} u v h k e. omega (arith, is_joined u v, joined_below {x = x} {y = y} (omega arith) (omega arith));
}
laws Steepest = search arith

min_picks : (x y : ℕ) → Dec (x ≤ y) → (min x y ≡ x) ⊎ (min x y ≡ y)
min_picks x y (yes h) = inl (omega arith)
min_picks x y (no h) = inr (omega arith)

max_picks : (x y : ℕ) → Dec (x ≤ y) → (max x y ≡ x) ⊎ (max x y ≡ y)
max_picks x y (yes h) = inr (omega arith)
max_picks x y (no h) = inl (omega arith)

pub picks : Picks
picks Reach x y = max_picks x y (dec_le x y)
picks Distance x y = min_picks x y (dec_le x y)
picks Steepest x y = min_picks x y (dec_le x y)
