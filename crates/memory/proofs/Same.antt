-- Two lists, compared from the front; and a walk that compares them to their end.
use Prim.Native.Nat.{ℕ, ◌+◌, ◌<◌, ◌≤◌, zero-le}
use native.Mathlib.Numerals.{add-one}
use native.Mathlib.Omega.{arith}
use mathlib.Core.Path.{◌≡◌, refl, sym, ap, ◌∙◌}
use mathlib.Core.List.{List, [], ◌∷◌}
use mathlib.Core.Bool.{Bool, true, false, true≢false, ◌&&◌}
use lib.ListN.{length, get_or, drop, drop_of_length-le}
use lib.Seq.{drop-cons}
use lib.Dec.{eqb}
use borrow.Author.Tests.{eq-eqb, eqb-true}
use Rattle.memory.specs.Lists.{same}
use Rattle.memory.proofs.Any.{both_true}

pub same_end : (p q : List ℕ) (i : ℕ) → length p ≤ i → length q ≤ i → same (drop i p) (drop i q) ≡ true
same_end p q i h k = rw (drop_of_length-le p h, drop_of_length-le q k)

pub same_refl : (l : List ℕ) → same l l ≡ true
same_refl [] = refl
same_refl (x ∷ l) = rw (eq-eqb x x refl, same_refl l)

pub same_equal : (p q : List ℕ) → same p q ≡ true → p ≡ q
same_equal [] [] e = refl
same_equal [] (c ∷ q) e = absurd (true≢false (sym e))
same_equal (b ∷ p) [] e = absurd (true≢false (sym e))
same_equal (b ∷ p) (c ∷ q) e =
    let (h, t) = both_true (eqb b c) (same p q) e in
    let head : b ≡ c = eqb-true b c h in
    let tail : p ≡ q = same_equal p q t in
    cc

and_assoc : (a b c : Bool) → ((a && b) && c) ≡ (a && (b && c))
and_assoc true b c = refl
and_assoc false b c = refl

and-true : (b : Bool) → (b && true) ≡ b
and-true true = refl
and-true false = refl

-- The loop that compares two lists, where it has come to word p: `alike` tells of the words passed.
pub record Comparing (x y : List ℕ) (p : ℕ) (alike : Bool) : Type 0 where
  pub count : p ≤ length x
  pub long : length x ≡ length y
  pub seen : (alike && same (drop p x) (drop p y)) ≡ same x y

module _ {x y : List ℕ} where
  pub compare_begins : length x ≡ length y → Comparing x y 0 true
  compare_begins e = record { count = zero-le; long = e; seen = refl }

  module _ {p : ℕ} {alike : Bool} (c : Comparing x y p alike) where
    pub compare_goes_on : {alike' : Bool} → p < length x → alike' ≡ (alike && eqb (get_or x p 0) (get_or y p 0)) → Comparing x y (p + 1) alike'
    compare_goes_on h e =
        let k : p < length y = omega (arith, c.long) in
        let words : same (drop p x) (drop p y) ≡ (eqb (get_or x p 0) (get_or y p 0) && same (drop (p + 1) x) (drop (p + 1) y)) =
        rw (drop-cons x p 0 h, drop-cons y p 0 k, add-one p) in
        record {
          count = omega arith;
          long = c.long;
          seen = rw e (and_assoc alike (eqb (get_or x p 0) (get_or y p 0)) (same (drop (p + 1) x) (drop (p + 1) y))
              ∙ ap (λ (b : Bool). alike && b) (sym words) ∙ c.seen);
        }

    pub compare_ends : length x ≤ p → alike ≡ same x y
    compare_ends h = sym (ap (λ (b : Bool). alike && b) (same_end x y p h (omega (arith, c.long))) ∙ and-true alike) ∙ c.seen
