-- Distance's product. Its definition goes by cases; over words it is one formula, the largest of the held sum and the two words
-- themselves: of these only none is above 65534. From the formula arithmetic finds the laws.
use Prim.Native.Nat.{ℕ, ◌+◌, ◌-◌, ◌≤◌, ◌<◌, min, max}
use native.Mathlib.Omega.{arith}
use native.Mathlib.Decide.{dec_le, dec_lt, ℕ_discrete}
use mathlib.Core.Path.{◌≡◌, refl, sym, ◌∙◌}
use mathlib.Core.Logic.{◌≢◌}
use borrow.Author.Tests.{ne_eqb}
use Rattle.semiring.specs.Algebra.{Word, none_word_of, far, product_of}
use Rattle.semiring.specs.declared.Algebra.TheVariants.{Distance}

-- The cases of the definition.
none_first : (y : ℕ) → product_of Distance 65535 y ≡ 65535
none_first y = refl

none_second : (x : ℕ) → product_of Distance x 65535 ≡ 65535
none_second x = go (ℕ_discrete x 65535)
  where
    go : Dec (x ≡ 65535) → product_of Distance x 65535 ≡ 65535
    go (yes e) = rw e
    go (no h) = rw (ne_eqb x 65535 h)

pub sum_held : {x y : ℕ} → x ≢ none_word_of Distance → y ≢ none_word_of Distance → product_of Distance x y ≡ min (x + y) far
sum_held {x} {y} h k = rw (ne_eqb x 65535 h, ne_eqb y 65535 k)

-- The formula. Arithmetic sees it only where it is unfolded: a law has more of it than there are cases that arithmetic tries.
unfoldable pub joined : ℕ → ℕ → ℕ
joined x y = max (min (x + y) far) (max x y)

pub joined_word : {x y : ℕ} → Word Distance x → Word Distance y → Word Distance (joined x y)
unfolding joined
joined_word v w = omega arith

pub joined_comm : (x y : ℕ) → joined x y ≡ joined y x
unfolding joined
joined_comm x y = omega arith

pub joined_own : {x : ℕ} → Word Distance x → joined x 0 ≡ x
unfolding joined
joined_own v = omega arith

pub joined-none : {x : ℕ} → Word Distance x → joined x 65535 ≡ 65535
unfolding joined
joined-none v = omega arith

none_joined : {x : ℕ} → Word Distance x → joined 65535 x ≡ 65535
none_joined {x} v = joined_comm 65535 x ∙ joined-none v

-- of two words that aren't none
both_below : {x y : ℕ} → x < 65535 → y < 65535 → joined x y ≡ min (x + y) far
unfolding joined
both_below h k = omega arith

pub joined_below : {x y : ℕ} → x < 65535 → y < 65535 → joined x y < 65535
joined_below h k = omega (arith, both_below h k)

joined-more : (x y z : ℕ) → y ≤ z → joined x y ≤ joined x z
unfolding joined
joined-more x y z h = omega arith

pub joined_min : (x y z : ℕ) → joined x (min y z) ≡ min (joined x y) (joined x z)
joined_min x y z = go (dec_le y z)
  where
    go : Dec (y ≤ z) → joined x (min y z) ≡ min (joined x y) (joined x z)
    go (yes h) =
        let e : min y z ≡ y = omega arith in
        let m = joined-more x y z h in
        rw e (omega arith)
    go (no h) =
        let e : min y z ≡ z = omega arith in
        let m = joined-more x z y (omega arith) in
        rw e (omega arith)

-- a word that is not below 65535 is none
none_of : {x : ℕ} → Word Distance x → (x < 65535 → ⊥) → x ≡ 65535
none_of v h = omega arith

pub is_joined : {x y : ℕ} → Word Distance x → Word Distance y → product_of Distance x y ≡ joined x y
is_joined {x} {y} v w = go (dec_lt x 65535) (dec_lt y 65535)
  where
    go : Dec (x < 65535) → Dec (y < 65535) → product_of Distance x y ≡ joined x y
    go (yes h) (yes k) =
        sum_held (λ (e : x ≡ 65535). omega arith) (λ (e : y ≡ 65535). omega arith) ∙ sym (both_below h k)
    go (yes h) (no k) = rw (none_of w k) (none_second x ∙ sym (joined-none v))
    go (no h) k = rw (none_of v h) (none_first y ∙ sym (none_joined w))

pub joined_assoc : {x y z : ℕ} → Word Distance x → Word Distance y → Word Distance z → joined (joined x y) z ≡ joined x (joined y z)
joined_assoc {x} {y} {z} u v w = go (dec_lt x 65535) (dec_lt y 65535) (dec_lt z 65535)
  where
    go : Dec (x < 65535) → Dec (y < 65535) → Dec (z < 65535) → joined (joined x y) z ≡ joined x (joined y z)
    go (yes h) (yes k) (yes l) =
        rw (both_below (joined_below h k) l, both_below h (joined_below k l), both_below h k, both_below k l) (omega arith)
    go (no h) k l = rw (none_of u h, none_joined v, none_joined w, none_joined (joined_word v w))
    go (yes h) (no k) l = rw (none_of v k, joined-none u, none_joined w, joined-none u)
    go (yes h) (yes k) (no l) = rw (none_of w l, joined-none v, joined-none (joined_word u v), joined-none u)

-- The code's form: one more than x is added to y, held at 65535, and the one taken away again. None gets no more.
below_more : {x y : ℕ} → x < 65535 → Word Distance y → joined x y ≡ max (min (x + 1 + y) 65535 - 1) y
unfolding joined
below_more h w = omega arith

one_more : {x y more : ℕ} → Word Distance x → Word Distance y → more ≡ min (x + 1) 65535
    → product_of Distance x y ≡ max (min (more + y) 65535 - (more - x)) y
one_more {x} {y} {more} v w e = is_joined v w ∙ go (dec_lt x 65535)
  where
    go : Dec (x < 65535) → joined x y ≡ max (min (more + y) 65535 - (more - x)) y
    go (yes h) =
        let m : more ≡ x + 1 = omega arith in
        let s : x + 1 - x ≡ 1 = omega arith in
        rw (m, s) (below_more h w)
    go (no h) =
        let m : more ≡ 65535 = omega arith in
        rw (none_of v h, m, none_joined w) (omega arith)

-- Of y and the sum that is held so, the larger is the product.
module _ (x y more long : ℕ) (e : more ≡ min (x + 1) 65535) (f : long ≡ min (more + y) 65535) where
  pub larger_word : long - (more - x) < y → Word Distance x → Word Distance y → y ≡ product_of Distance x y
  larger_word h v w = sym (one_more v w e ∙ rw (sym f) (omega arith))

  pub larger_sum : y ≤ long - (more - x) → Word Distance x → Word Distance y → long - (more - x) ≡ product_of Distance x y
  larger_sum h v w = sym (one_more v w e ∙ rw (sym f) (omega arith))
