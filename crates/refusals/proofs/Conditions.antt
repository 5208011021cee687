-- A table of Boolean tests answers as the conditions say that its tests decide.
use Prim.Native.Nat.{ℕ, suc, ◌<◌, ◌≤◌}
use native.Mathlib.Omega.{arith}
use mathlib.Core.Path.{◌≡◌, refl, sym, ◌∙◌}
use mathlib.Core.Logic.{◌⊎◌, inl, inr}
use mathlib.Core.List.{List, [], ◌∷◌}
use mathlib.Core.Bool.{Bool, true, false, cond, not, ◌&&◌, ◌||◌, true≢false}
use lib.Dec.{eqb, leb, ltb}
use lib.ListN.{get_or}
use Rattle.memory.specs.Lists.{any}
use borrow.Author.Tests.{ltb-false, ltb-true, leb-true, leb-false, eqb-true, eqb-false, not-true, not-false}
use Rattle.memory.proofs.Any.{both_false, both_true, any_none}
use Rattle.refusals.specs.Tests.{outside}
use Rattle.refusals.specs.Conditions.{Conditions, otherwise, test, Returns, Exactly, Outside, Some}

-- The test b decides P.
pub record Decides (b : Bool) (P : Type 0) : Type 0 where
  pub yes : b ≡ true → P
  pub no : b ≡ false → P → ⊥

-- One row: it applies, or it does not and the rest answers.
module _ {P : Type 0} {k : ℕ} {cs : Conditions} where
  pub applies : P → Exactly (test P k cs) k
  applies p = record { returned = inl (p, refl); only = λ n r. only n r }
    where
      only : (n : ℕ) → Returns (test P k cs) n → k ≡ n
      only n (inl (q, f)) = sym f
      only n (inr (q, r)) = absurd (q p)

  pub passes : {rest : ℕ} → (P → ⊥) → Exactly cs rest → Exactly (test P k cs) rest
  passes {rest} p x = record { returned = inr (p, x.returned); only = λ n r. only n r }
    where
      only : (n : ℕ) → Returns (test P k cs) n → rest ≡ n
      only n (inl (q, f)) = absurd (p q)
      only n (inr (q, r)) = x.only n r

pub row : {b : Bool} {P : Type 0} {k rest : ℕ} {cs : Conditions} → Decides b P → Exactly cs rest → Exactly (test P k cs) (cond b k rest)
row {b} {P} {k} {rest} {cs} d x = go b refl
  where
    go : (c : Bool) → b ≡ c → Exactly (test P k cs) (cond b k rest)
    go true e = rw e (applies (d.yes e))
    go false e = rw e (passes (d.no e) x)

-- The answer, told by another name.
pub answered : {cs : Conditions} {number answer : ℕ} → number ≡ answer → Exactly cs answer → Exactly cs number
answered e x = rw e x

pub none : Exactly otherwise 0
none = record { returned = refl; only = λ n e. sym e }

-- A condition said otherwise.
pub decides_as : {b : Bool} {P Q : Type 0} → (P → Q) → (Q → P) → Decides b P → Decides b Q
decides_as to from d = record { yes = λ e. to (d.yes e); no = λ e q. d.no e (from q) }

-- Two tests that decide the same answer alike.
pub same_decision : {b c : Bool} {P : Type 0} → Decides b P → Decides c P → b ≡ c
same_decision {b} {c} d f = go b c refl refl
  where
    go : (x y : Bool) → b ≡ x → c ≡ y → b ≡ c
    go true true e g = e ∙ sym g
    go true false e g = absurd (f.no g (d.yes e))
    go false true e g = absurd (d.no e (f.yes g))
    go false false e g = e ∙ sym g

-- What each kind of test decides.
pub decides_differ : (x y : ℕ) → Decides (not (eqb x y)) (x ≡ y → ⊥)
decides_differ x y = record { yes = λ e f. eqb-false x y (not-true (eqb x y) e) f; no = λ e d. d (eqb-true x y (not-false (eqb x y) e)) }

pub decides_equal : (x y : ℕ) → Decides (eqb x y) (x ≡ y)
decides_equal x y = record { yes = eqb-true x y; no = eqb-false x y }

pub decides_least : (x y : ℕ) → Decides (leb x y) (x ≤ y)
decides_least x y = record { yes = leb-true x y; no = λ e h. let l = leb-false x y e in omega arith }

pub decides_above : (x y : ℕ) → Decides (ltb x y) (x < y)
decides_above x y = record { yes = ltb-true x y; no = λ e h. let l = ltb-false x y e in omega arith }

-- A test that is two, and two tests of one row.
pub both : {b c : Bool} {P Q : Type 0} → Decides b P → Decides c Q → Decides (b && c) (P × Q)
both {b} {c} {P} {Q} d f = record { yes = λ e. (d.yes (both_true b c e).0, f.yes (both_true b c e).1); no = λ e (p, q). no b refl e p q }
  where
    no : (x : Bool) → b ≡ x → (x && c) ≡ false → P → Q → ⊥
    no true g e p q = f.no e q
    no false g e p q = d.no g p

pub either : {b c : Bool} {P Q : Type 0} → Decides b P → Decides c Q → Decides (b || c) (P ⊎ Q)
either {b} {c} {P} {Q} d f = record { yes = λ e. yes b refl e; no = λ e o. no e o }
  where
    yes : (x : Bool) → b ≡ x → (x || c) ≡ true → P ⊎ Q
    yes true g e = inl (d.yes g)
    yes false g e = inr (f.yes e)

    no : (b || c) ≡ false → P ⊎ Q → ⊥
    no e (inl p) = d.no (both_false b c e).0 p
    no e (inr q) = f.no (both_false b c e).1 q

pub decides_never : Decides false ⊥
decides_never = record { yes = λ e. true≢false (sym e); no = λ e n. n }

pub decides_outside : (least most n : ℕ) → Decides (outside least most n) (Outside least most n)
decides_outside least most n = either (decides_above n least) (decides_above most n)

module _ (test : ℕ → Bool) (P : ℕ → Type 0) (decides : (x : ℕ) → Decides (test x) (P x)) where
  -- a word that meets the test stands somewhere in the list
  found : (l : List ℕ) → any test l ≡ true → Some P l
  unfolding any
  found [] e = absurd (true≢false (sym e))
  found (x ∷ l) e = go (test x) refl (found l)
    where
      go : (b : Bool) → test x ≡ b → (any test l ≡ true → Some P l) → Some P (x ∷ l)
      go true f rest = (0, omega arith, (decides x).yes f)
      go false f rest =
          let later : any test l ≡ true = rw f at e in
          let (p, h, m) = rest later in
          (suc p, omega arith, m)

  pub decides_any : (l : List ℕ) → Decides (any test l) (Some P l)
  decides_any l = record { yes = found l; no = λ e s. (decides (get_or l s.0 0)).no (any_none test l e s.0 s.1) s.2 }
