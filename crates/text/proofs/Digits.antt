-- Numerals that are read: digits, the number that they stand for, and the two loops over them.
use Prim.Native.Nat.{ℕ, zero, suc, ◌+◌, ◌*◌, ◌-◌, ◌<◌, ◌≤◌}
use native.Mathlib.Nat.{le_trans, le_refl, lt_of_lt_of_le}
use native.Mathlib.Numerals.{add-one}
use native.Mathlib.Omega.{arith}
use mathlib.Core.Path.{◌≡◌, refl, sym, ap, ◌∙◌}
use mathlib.Core.Logic.{inl, inr}
use mathlib.Core.List.{List, [], ◌∷◌}
use mathlib.Core.Bool.{Bool, true, false, true≢false, cond, not, ◌||◌, and-false}
use lib.ListN.{length, get_or, drop, drop_of_length-le}
use lib.Seq.{drop-cons}
use lib.Dec.{ltb}
use borrow.Author.Tests.{lt-ltb, le-ltb, ltb-false}
use Rattle.std.proofs.Common.{Some, None}
use Rattle.std.specs.Bool.{MatchBool}
use Rattle.std.specs.Int.{IsInRange, IsOutOfRange}
use Rattle.std.specs.List.{AllWithin, HoldsAt}
use Rattle.text.specs.Numeral.{digits, decimal, numeral_of}

-- digits alone, and a byte that is none
pub digits_all : (p : List ℕ) → ((i : ℕ) → i < length p → IsInRange 48 57 (get_or p i 0)) → digits p ≡ true
unfolding digits
digits_all [] h = refl
digits_all (b ∷ p) h = rw (le-ltb b 48 (h 0 (omega arith)).0, le-ltb 57 b (h 0 (omega arith)).1) (digits_all p (λ i k. h (suc i) (omega arith)))

other_byte : (b : ℕ) → IsOutOfRange 48 57 b → (ltb b 48 || ltb 57 b) ≡ true
other_byte b (inl low) = rw (lt-ltb b 48 low)
other_byte b (inr high) = rw (le-ltb b 48 (omega arith), lt-ltb 57 b high)

pub digits_not : (p : List ℕ) (i : ℕ) → i < length p → IsOutOfRange 48 57 (get_or p i 0) → digits p ≡ false
unfolding digits
digits_not [] i h o = absurd (omega arith)
digits_not (b ∷ p) zero h o = rw (other_byte b o)
digits_not (b ∷ p) (suc i) h o = rw (digits_not p i (omega arith) o) (and-false (not (ltb b 48 || ltb 57 b)))

-- `all_digits`: what its walk found
pub digits_told : (p : List ℕ) (r : Bool) → MatchBool r (AllWithin (IsInRange 48 57) p 0 (length p)) ((k : ℕ) × (k < length p) × HoldsAt (IsOutOfRange 48 57) p k)
    → r ≡ digits p
digits_told p true all = sym (digits_all p (λ i h. all i 0 (omega arith) h))
digits_told p false (k, h, other) = sym (digits_not p k h (other 0))

decimal_least : (v : ℕ) (p : List ℕ) → v ≤ decimal v p
unfolding decimal
decimal_least v [] = le_refl v
decimal_least v (b ∷ p) = le_trans (omega arith) (decimal_least (10 * v + (b - 48)) p)

decimal_step : (v : ℕ) (p : List ℕ) (i : ℕ) → i < length p → decimal v (drop i p) ≡ decimal (10 * v + (get_or p i 0 - 48)) (drop (i + 1) p)
unfolding decimal
decimal_step v p i h = rw (drop-cons p i 0 h, add-one i)

pub numeral_over : (long most : ℕ) (p : List ℕ) → most < decimal 0 p → None ≡ numeral_of long most p
numeral_over long most p h = rw (lt-ltb most (decimal 0 p) h) (over (ltb long (length p)))
  where
    over : (b : Bool) → None ≡ cond (b || true) None (Some (decimal 0 p))
    over true = refl
    over false = refl

-- `read_numeral`: the number so far, not above `most`
pub record Valued (long most : ℕ) (p : List ℕ) (value at : ℕ) : Type 0 where
  pub within : at ≤ length p
  pub fits : length p ≤ long
  pub below : value ≤ most
  pub rest : decimal 0 p ≡ decimal value (drop at p)

module _ {long most : ℕ} {p : List ℕ} where
  pub valued_none : length p ≤ long → Valued long most p 0 0
  valued_none h = record { within = omega arith; fits = h; below = omega arith; rest = refl }

  more : {value at d : ℕ} → Valued long most p value at → at < length p → d ≡ get_or p at 0 - 48
      → decimal 0 p ≡ decimal (10 * value + d) (drop (at + 1) p)
  more {value} {at} {d} v h e = v.rest ∙ decimal_step value p at h ∙ ap (λ (m : ℕ). decimal (10 * value + m) (drop (at + 1) p)) (sym e)

  pub valued_one : {value at d : ℕ} → Valued long most p value at → at < length p → d ≡ get_or p at 0 - 48 → 10 * value + d ≤ most
      → Valued long most p (10 * value + d) (at + 1)
  valued_one v h e k = record { within = omega arith; fits = v.fits; below = k; rest = more v h e }

  pub numeral_above : {value at d : ℕ} → Valued long most p value at → at < length p → d ≡ get_or p at 0 - 48 → most < 10 * value + d
      → None ≡ numeral_of long most p
  numeral_above {value} {at} {d} v h e k =
      numeral_over long most p (rw (more v h e) (lt_of_lt_of_le k (decimal_least (10 * value + d) (drop (at + 1) p))))

  pub numeral_whole : {value at : ℕ} → Valued long most p value at → length p ≤ at → Some value ≡ numeral_of long most p
  unfolding decimal
  numeral_whole {value} {at} v h =
      let e : decimal 0 p ≡ value = v.rest ∙ rw (drop_of_length-le p h) in
      rw (le-ltb long (length p) v.fits, e, le-ltb most value v.below)

pub numeral_long : (long most : ℕ) (p : List ℕ) → long < length p → None ≡ numeral_of long most p
numeral_long long most p h = rw (lt-ltb long (length p) h)

second : (x y : Bool) → (x || y) ≡ false → y ≡ false
second true y f = absurd (true≢false f)
second false y f = f

pub numeral_most : (long most : ℕ) (p : List ℕ) (n : ℕ) → numeral_of long most p ≡ Some n → n ≤ most
numeral_most long most p n e = at (ltb long (length p) || ltb most (decimal 0 p)) refl e
  where
    at : (b : Bool) → (ltb long (length p) || ltb most (decimal 0 p)) ≡ b → cond b None (Some (decimal 0 p)) ≡ Some n → n ≤ most
    at true f g = let z : ◌≡◌ {A = ℕ} 0 1 = cc in absurd (omega arith)
    at false f g =
        let h : decimal 0 p ≡ n = cc in
        omega (arith, ltb-false most (decimal 0 p) (second (ltb long (length p)) (ltb most (decimal 0 p)) f))
