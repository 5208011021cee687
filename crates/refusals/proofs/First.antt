-- A table of tests: which test is the first that applies, and each kind of test from the fact that the code's branch tells.
use Prim.Native.Nat.{ℕ, zero, suc, ◌≤◌, ◌<◌, zero-le}
use native.Mathlib.Omega.{arith}
use mathlib.Core.Path.{◌≡◌, refl, sym, ◌∙◌}
use mathlib.Core.List.{List, [], ◌∷◌, ◌++◌}
use mathlib.Core.Bool.{Bool, true, false, cond, not, ◌&&◌, true≢false}
use lib.Dec.{eqb, leb, ltb, eqb-suc-zero}
use borrow.Author.Tests.{lt-ltb, le-ltb, eq-eqb, ne_eqb, eqb-true, ltb-false, leb-true, not-false}
use Rattle.memory.proofs.Any.{both_false, both_true}
use Rattle.refusals.specs.Tests.{first, one_of, outside}

module _ {A : Type 0} where
  -- the answer of the table, test by test
  pub data First (none : A) : List (Bool × A) → A → Type 0 where
    hit : {b : Bool} {answer : A} {ts : List (Bool × A)} → b ≡ true → First none ((b, answer) ∷ ts) answer
    skip : {b : Bool} {other answer : A} {ts : List (Bool × A)} → b ≡ false → First none ts answer → First none ((b, other) ∷ ts) answer
    clear : First none [] none

  pub answers : {none answer : A} {ts : List (Bool × A)} → First none ts answer → first none ts ≡ answer
  answers (hit e) = rw e
  answers (skip e f) = rw e (answers f)
  answers clear = refl

  -- Tests that failed, from the top: those that are left.
  pub data Left (all : List (Bool × A)) : List (Bool × A) → Type 0 where
    top : Left all all
    past : {b : Bool} {other : A} {ts : List (Bool × A)} → Left all ((b, other) ∷ ts) → b ≡ false → Left all ts

  from : {none answer : A} {all ts : List (Bool × A)} → Left all ts → First none ts answer → First none all answer
  from top f = f
  from (past l e) f = from l (skip e f)

  -- the next test applied; none did
  pub taken : {none answer : A} {b : Bool} {all ts : List (Bool × A)} → Left all ((b, answer) ∷ ts) → b ≡ true → First none all answer
  taken l e = from l (hit e)

  -- every test failed
  abbrev pub Clear : List (Bool × A) → Type 0
  Clear [] = Unit
  Clear (t ∷ ts) = (t.0 ≡ false) × Clear ts

  clear_from : {all ts : List (Bool × A)} → Left all ts → Clear ts → Clear all
  clear_from top c = c
  clear_from (past l e) c = clear_from l (e, c)

  pub all_clear : {all : List (Bool × A)} → Left all [] → Clear all
  all_clear l = clear_from l tt

  -- A table with further tests at its end: what the table found stands, and where none of it applied the further tests decide.
  pub found_before : {none answer : A} {ts : List (Bool × A)} (us : List (Bool × A)) → (answer ≡ none → ⊥) → First none ts answer
      → First none (ts ++ us) answer
  found_before us some (hit e) = hit e
  found_before us some (skip e f) = skip e (found_before us some f)
  found_before us some clear = absurd (some refl)

  pub found_after : {none answer : A} (ts : List (Bool × A)) {us : List (Bool × A)} → Clear ts → First none us answer → First none (ts ++ us) answer
  found_after [] c f = f
  found_after (t ∷ ts) (e, c) f = skip e (found_after ts c f)

  pub clear_before : (ts us : List (Bool × A)) → Clear (ts ++ us) → Clear ts
  clear_before [] us c = tt
  clear_before (t ∷ ts) us (e, c) = (e, clear_before ts us c)

  pub clear_after : (ts us : List (Bool × A)) → Clear (ts ++ us) → Clear us
  clear_after [] us c = c
  clear_after (t ∷ ts) us (e, c) = clear_after ts us c

  pub passed : {none : A} {all : List (Bool × A)} → Left all [] → First none all none
  passed l = from l clear

-- No test of the table has the number 0.
abbrev pub numbered : List (Bool × ℕ) → Bool
numbered [] = true
numbered (t ∷ ts) = cond (eqb t.1 0) false (numbered ts)

-- Where such a table answers 0, every test of it failed.
pub none_applied : (ts : List (Bool × ℕ)) → numbered ts ≡ true → first 0 ts ≡ 0 → Clear ts
none_applied [] n e = tt
none_applied ((b, zero) ∷ ts) n e = absurd (true≢false (sym n))
none_applied ((true, suc k) ∷ ts) n e = absurd (omega arith)
none_applied ((false, suc k) ∷ ts) n e = (refl, none_applied ts (rw (eqb-suc-zero k) at n) e)

-- What a table found stands with further tests at its end.
pub first_before : (ts us : List (Bool × ℕ)) → (first 0 ts ≡ 0 → ⊥) → first 0 (ts ++ us) ≡ first 0 ts
first_before [] us some = absurd (some refl)
first_before ((true, k) ∷ ts) us some = refl
first_before ((false, k) ∷ ts) us some = first_before ts us some

-- A table that found nothing leaves the answer to the further tests at its end.
pub first_after : (ts us : List (Bool × ℕ)) → Clear ts → first 0 (ts ++ us) ≡ first 0 us
first_after [] us c = refl
first_after (t ∷ ts) us (e, c) = rw e (first_after ts us c)

-- Each number of the table is at most so much, and so is its answer.
abbrev pub bounded : ℕ → List (Bool × ℕ) → Bool
bounded most [] = true
bounded most (t ∷ ts) = leb t.1 most && bounded most ts

pub first_most : (most : ℕ) (ts : List (Bool × ℕ)) → bounded most ts ≡ true → first 0 ts ≤ most
first_most most [] e = zero-le
first_most most ((true, k) ∷ ts) e = leb-true k most (both_true (leb k most) (bounded most ts) e).0
first_most most ((false, k) ∷ ts) e = first_most most ts (both_true (leb k most) (bounded most ts) e).1

-- None of several tests applies.
abbrev pub Failed : List Bool → Type 0
Failed [] = Unit
Failed (test ∷ tests) = (test ≡ false) × Failed tests

pub none_of : (tests : List Bool) → one_of tests ≡ false → Failed tests
none_of [] e = tt
none_of (test ∷ tests) e = let (f, g) = both_false test (one_of tests) e in (f, none_of tests g)

pub inside : {least most n : ℕ} → outside least most n ≡ false → (least ≤ n) × (n ≤ most)
inside {least} {most} {n} e =
    let (f, g) = both_false (ltb n least) (ltb most n) e in
    (ltb-false n least f, ltb-false most n g)

pub same : (x y : ℕ) → x ≡ y → not (eqb x y) ≡ false
same x y e = rw (eq-eqb x y e)

pub equal : (x y : ℕ) → not (eqb x y) ≡ false → x ≡ y
equal x y e = eqb-true x y (not-false (eqb x y) e)

pub differ : (x y : ℕ) → (x ≡ y → ⊥) → not (eqb x y) ≡ true
differ x y h = rw (ne_eqb x y h)

pub below : (least most n : ℕ) → n < least → outside least most n ≡ true
below least most n h = rw (lt-ltb n least h)

pub above : (least most n : ℕ) → least ≤ n → most < n → outside least most n ≡ true
above least most n h g = rw (le-ltb n least h, lt-ltb most n g)

pub within : (least most n : ℕ) → least ≤ n → n ≤ most → outside least most n ≡ false
within least most n h g = rw (le-ltb n least h, le-ltb most n g)

-- a test that a function made: what it answered, and what it ensures of that
pub told : (test : Bool) (answer known : Bool) → answer ≡ test → answer ≡ known → test ≡ known
told test answer known e f = sym e ∙ f

-- the same, where the code asks for its contrary
pub told_not : (test answer known : Bool) → answer ≡ test → not answer ≡ known → not test ≡ known
told_not test answer known e f = rw (← e) f

-- a length held to a number that a function made
pub same_as : (x y made : ℕ) → x ≡ made → made ≡ y → not (eqb x y) ≡ false
same_as x y made e f = same x y (e ∙ f)

pub differs_from : (x y made : ℕ) → (x ≡ made → ⊥) → made ≡ y → not (eqb x y) ≡ true
differs_from x y made h f = differ x y (λ e. h (e ∙ sym f))

-- the same, where equality is what is tested
pub equal_as : (x y made : ℕ) → x ≡ made → made ≡ y → eqb x y ≡ true
equal_as x y made e f = eq-eqb x y (e ∙ f)

pub other_than : (x y made : ℕ) → (x ≡ made → ⊥) → made ≡ y → eqb x y ≡ false
other_than x y made h f = ne_eqb x y (λ e. h (e ∙ sym f))

pub ruleset tests = (hit, skip, clear, same, differ, below, above, within, told, same_as, differs_from)
