-- A test over a list: what its answer says of each word, and a walk that makes it.
use Prim.Native.Nat.{ℕ, zero, suc, ◌+◌, ◌<◌, ◌≤◌, zero-le}
use native.Mathlib.Nat.{not-suc-le-zero}
use native.Mathlib.Numerals.{add-one}
use native.Mathlib.Omega.{arith}
use mathlib.Core.Path.{◌≡◌, refl, sym, ◌∙◌}
use mathlib.Core.List.{List, [], ◌∷◌}
use mathlib.Core.Bool.{Bool, true, false, true≢false, ◌||◌, ◌&&◌}
use lib.ListN.{length, get_or, drop, drop_of_length-le}
use lib.Seq.{drop-cons}
use Rattle.memory.specs.Lists.{any}

pub both_false : (b c : Bool) → (b || c) ≡ false → (b ≡ false) × (c ≡ false)
both_false true c e = absurd (true≢false e)
both_false false c e = (refl, e)

pub both_true : (b c : Bool) → (b && c) ≡ true → (b ≡ true) × (c ≡ true)
both_true true c e = (refl, e)
both_true false c e = absurd (true≢false (sym e))

or_assoc : (a b c : Bool) → (a || b || c) ≡ (a || (b || c))
or_assoc true b c = refl
or_assoc false b c = refl

or-false : (b : Bool) → (b || false) ≡ b
or-false true = refl
or-false false = refl

module _ (test : ℕ → Bool) where
  pub none_any : (l : List ℕ) → ((p : ℕ) → p < length l → test (get_or l p 0) ≡ false) → any test l ≡ false
  unfolding any
  none_any [] h = refl
  none_any (x ∷ l) h = rw (h 0 (omega arith), none_any l (λ p k. h (suc p) (omega arith)))

  pub any_none : (l : List ℕ) → any test l ≡ false → (p : ℕ) → p < length l → test (get_or l p 0) ≡ false
  unfolding any
  any_none [] e p h = absurd (not-suc-le-zero h)
  any_none (x ∷ l) e zero h = (both_false (test x) (any test l) e).0
  any_none (x ∷ l) e (suc p) h = any_none l (both_false (test x) (any test l) e).1 p (omega arith)

  -- A walk that has found what it passed and has the rest before it: one word more, and the end.
  any-more : (l : List ℕ) (p : ℕ) (found : Bool) → p < length l
      → (found || test (get_or l p 0) || any test (drop (p + 1) l)) ≡ (found || any test (drop p l))
  unfolding any
  any-more l p found h =
      or_assoc found (test (get_or l p 0)) (any test (drop (p + 1) l)) ∙ rw (drop-cons l p 0 h, add-one p)

  any_end : (l : List ℕ) (p : ℕ) (found : Bool) → length l ≤ p → (found || any test (drop p l)) ≡ found
  unfolding any
  any_end l p found h = rw (drop_of_length-le l h) (or-false found)

-- The loop that looks through a list, where it has come to word p: `found` tells of the words passed.
pub record Looking (test : ℕ → Bool) (l : List ℕ) (p : ℕ) (found : Bool) : Type 0 where
  pub count : p ≤ length l
  pub seen : (found || any test (drop p l)) ≡ any test l

module _ {test : ℕ → Bool} {l : List ℕ} where
  pub look_begins : Looking test l 0 false
  look_begins = record { count = zero-le; seen = refl }

  module _ {p : ℕ} {found : Bool} (c : Looking test l p found) where
    pub look_goes_on : {found' : Bool} → p < length l → found' ≡ (found || test (get_or l p 0)) → Looking test l (p + 1) found'
    look_goes_on h e = record { count = omega arith; seen = rw e (any-more test l p found h ∙ c.seen) }

    pub look_ends : length l ≤ p → found ≡ any test l
    look_ends h = sym (any_end test l p found h) ∙ c.seen
