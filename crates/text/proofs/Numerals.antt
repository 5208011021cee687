-- Decimal numerals: how one is built, its digits and value, and its length.
use Prim.Native.Nat.{ℕ, zero, suc, ◌+◌, ◌-◌, ◌*◌, ◌/◌, ◌%◌, ◌<◌, ◌≤◌}
use native.Mathlib.Nat.{mod-lt, div-add-mod}
use native.Mathlib.Omega.{arith}
use native.Mathlib.Decide.{dec_lt}
use mathlib.Core.Path.{◌≡◌, refl, sym, ◌∙◌}
use mathlib.Core.List.{List, [], ◌∷◌, ◌++◌}
use lib.ListN.{length, get_or, length-append, get_or-append}
use lib.Seq.{get_or-append-add}
use borrow.Author.Tests.{lt-ltb, le-ltb}
use Rattle.text.specs.Numeral.{decimal, numeral, shown}
use Rattle.text.specs.declared.page.Page.{Page}
use Rattle.text.specs.inner.Printed.{Printed}
use Rattle.text.specs.claims.Numerals.{NumeralOf, Numerals}
use Rattle.text.proofs.Printed.{printed_none, ◌then◌, printed_as}

numeral_none : (m n : ℕ) → m ≡ 0 → numeral m n ≡ []
unfolding numeral
numeral_none m n e = rw e

numeral_small : (m n : ℕ) → 1 ≤ m → n < 10 → numeral m n ≡ (48 + n) ∷ []
unfolding numeral
numeral_small zero n h k = absurd (omega arith)
numeral_small (suc m) n h k = rw (lt-ltb n 10 k)

numeral_more : (m n : ℕ) → 1 ≤ m → 10 ≤ n → numeral m n ≡ numeral (m - 1) (n / 10) ++ ((48 + n % 10) ∷ [])
unfolding numeral
numeral_more zero n h k = absurd (omega arith)
numeral_more (suc m) n h k = let e : suc m - 1 ≡ m = omega arith in rw (le-ltb n 10 k, e)

-- `Page::digits`: no digit, one, and one more after those of n / 10
pub digits_none : (p : Page) (m n : ℕ) → m < 1 → Printed p (numeral m n) p
digits_none p m n e = printed_as (printed_none p) (sym (numeral_none m n (omega arith)))

pub digits_one : {p q : Page} {m n d : ℕ} → 1 ≤ m → n < 10 → d ≡ 48 + n → Printed p (d ∷ []) q → Printed p (numeral m n) q
digits_one {p} {q} {m} {n} some small last put = printed_as put (rw (last, numeral_small m n some small))

pub shown_one : {p q : Page} {n d : ℕ} → n < 10 → d ≡ 48 + n → Printed p (d ∷ []) q → Printed p (shown n) q
shown_one small last put = digits_one (omega arith) small last put

pub digits_more : {p q r : Page} {m n d : ℕ} → 1 ≤ m → 10 ≤ n → Printed p (numeral (m - 1) (n / 10)) q → d ≡ 48 + n % 10
    → Printed q (d ∷ []) r → Printed p (numeral m n) r
digits_more {p} {q} {r} {m} {n} some more front last put = printed_as (front then put) (rw (last, numeral_more m n some more))

-- ten to the power of m
abbrev tens : ℕ → ℕ
tens zero = 1
tens (suc m) = 10 * tens m

decimal_append : (v : ℕ) (xs : List ℕ) (b : ℕ) → decimal v (xs ++ (b ∷ [])) ≡ 10 * decimal v xs + (b - 48)
unfolding decimal
decimal_append v [] b = refl
decimal_append v (x ∷ xs) b = decimal_append (10 * v + (x - 48)) xs b

-- one digit, and a digit after a numeral of a number that isn't 0
one_digit : (n : ℕ) → n < 10 → NumeralOf n ((48 + n) ∷ [])
unfolding decimal
one_digit n h = record { some = omega arith; digits = at; value = omega arith; no_leading_zero = λ k. absurd (omega arith) }
  where
    at : (p : ℕ) → p < 1 → (48 ≤ get_or ((48 + n) ∷ []) p 0) × (get_or ((48 + n) ∷ []) p 0 ≤ 57)
    at zero k = (omega arith, omega arith)
    at (suc p) k = absurd (omega arith)

-- a numeral whose first digit isn't 0
record Leading (n : ℕ) (bytes : List ℕ) : Type 0 where
  pub numeral : NumeralOf n bytes
  pub first : 1 ≤ n → 49 ≤ get_or bytes 0 0

digit_more : (n : ℕ) (xs : List ℕ) → 10 ≤ n → Leading (n / 10) xs → Leading n (xs ++ ((48 + n % 10) ∷ []))
digit_more n xs h l =
    let small : n % 10 < 10 = mod-lt n (omega arith) in
    let whole : 10 * (n / 10) + n % 10 ≡ n = div-add-mod n 10 in
    let long : length (xs ++ ((48 + n % 10) ∷ [])) ≡ length xs + 1 = length-append xs ((48 + n % 10) ∷ []) in
    let some : 1 ≤ length xs = l.numeral.some in
    let front : get_or (xs ++ ((48 + n % 10) ∷ [])) 0 0 ≡ get_or xs 0 0 = get_or-append xs ((48 + n % 10) ∷ []) 0 0 some in
    let first : 49 ≤ get_or xs 0 0 = l.first (omega arith) in
    record {
      numeral = record {
        some = omega arith;
        digits = λ p k. at p (dec_lt p (length xs)) (omega arith);
        value = decimal_append 0 xs (48 + n % 10) ∙ omega (arith, l.numeral.value);
        no_leading_zero = λ k. omega arith;
      };
      first = λ k. omega arith;
    }
  where
    at : (p : ℕ) → Dec (p < length xs) → p < length xs + 1
        → (48 ≤ get_or (xs ++ ((48 + n % 10) ∷ [])) p 0) × (get_or (xs ++ ((48 + n % 10) ∷ [])) p 0 ≤ 57)
    at p (yes k) g = rw (get_or-append xs ((48 + n % 10) ∷ []) 0 p k) (l.numeral.digits p k)
    at p (no k) g =
        let small : n % 10 < 10 = mod-lt n (omega arith) in
        let e : length xs + 0 ≡ p = omega arith in
        rw (← e, get_or-append-add xs ((48 + n % 10) ∷ []) 0 0) (omega arith, omega arith)

-- a number of two digits at least has more than one
more_digits : (m n : ℕ) → 10 ≤ n → n < tens (suc m) → 1 ≤ m
more_digits zero n h k = absurd (omega arith)
more_digits (suc m) n h k = omega arith

numeral_leads : (m n : ℕ) → 1 ≤ m → n < tens m → Leading n (numeral m n)
numeral_leads zero n h k = absurd (omega arith)
numeral_leads (suc m) n h k = go (dec_lt n 10) (λ a b. numeral_leads m (n / 10) a b)
  where
    go : Dec (n < 10) → (1 ≤ m → n / 10 < tens m → Leading (n / 10) (numeral m (n / 10))) → Leading n (numeral (suc m) n)
    go (yes s) less =
        rw (numeral_small (suc m) n (omega arith) s) (record { numeral = one_digit n s; first = λ g. omega arith })
    go (no s) less =
        let e : suc m - 1 ≡ m = omega arith in
        rw (numeral_more (suc m) n (omega arith) (omega arith), e)
        (digit_more n (numeral m (n / 10)) (omega arith) (less (more_digits m n (omega arith) k) (omega arith)))

pub numerals : Numerals
numerals n h = (numeral_leads 5 n (omega arith) (omega arith)).numeral

-- no longer than the number has digits
pub numeral_length : (m d n : ℕ) → 1 ≤ d → n < tens d → length (numeral m n) ≤ d
numeral_length zero d n h k = rw (numeral_none 0 n refl) (omega arith)
numeral_length (suc m) zero n h k = absurd (omega arith)
numeral_length (suc m) (suc d) n h k = go (dec_lt n 10) (λ a b. numeral_length m d (n / 10) a b)
  where
    go : Dec (n < 10) → (1 ≤ d → n / 10 < tens d → length (numeral m (n / 10)) ≤ d) → length (numeral (suc m) n) ≤ suc d
    go (yes s) less = rw (numeral_small (suc m) n (omega arith) s) (omega arith)
    go (no s) less =
        let e : suc m - 1 ≡ m = omega arith in
        let f : length (numeral m (n / 10)) ≤ d = less (more_digits d n (omega arith) k) (omega arith) in
        rw (numeral_more (suc m) n (omega arith) (omega arith), e)
        (omega (arith, length-append (numeral m (n / 10)) ((48 + n % 10) ∷ [])))

pub numeral_most : (m n : ℕ) → length (numeral m n) ≤ m
numeral_most zero n = rw (numeral_none 0 n refl) (omega arith)
numeral_most (suc m) n = go (dec_lt n 10) (numeral_most m (n / 10))
  where
    go : Dec (n < 10) → length (numeral m (n / 10)) ≤ m → length (numeral (suc m) n) ≤ suc m
    go (yes s) f = rw (numeral_small (suc m) n (omega arith) s) (omega arith)
    go (no s) f =
        let e : suc m - 1 ≡ m = omega arith in
        rw (numeral_more (suc m) n (omega arith) (omega arith), e)
        (omega (arith, length-append (numeral m (n / 10)) ((48 + n % 10) ∷ [])))
