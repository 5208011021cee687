-- A list of points below n without a repeated one has at most n.
use Prim.Native.Nat.{ℕ, zero, suc, ◌≤◌, ◌<◌}
use native.Mathlib.Omega.{arith}
use native.Mathlib.Decide.{ℕ_discrete}
use mathlib.Core.Path.{◌≡◌}
use mathlib.Core.List.{List, [], ◌∷◌}
use lib.ListN.{length}
use Rattle.closure.specs.Ways.{Visits, now, later, NoRepeat, end, more}
use Rattle.closure.proofs.Simple.{visits_none}

other : {x p q : ℕ} {l l' : List ℕ} → (p ≡ q → ⊥) → ((y : ℕ) → Visits y l' → Visits y l × (y ≡ q → ⊥))
    → Visits x (p ∷ l') → Visits x (p ∷ l) × (x ≡ q → ⊥)
other f s now = (now, f)
other {x} f s (later v) = (later (s x v).0, (s x v).1)

-- The list without the point q, which it has at most once.
cut : (q : ℕ) {l : List ℕ} → NoRepeat l
    → (l' : List ℕ) × NoRepeat l' × (length l ≤ suc (length l')) × ((x : ℕ) → Visits x l' → Visits x l × (x ≡ q → ⊥))
cut q end = ([], end, omega arith, λ x v. absurd (visits_none v))
cut q (more {p} {l} f r) =
    elim (ℕ_discrete p q) [
      | yes e ↦ (l, r, omega arith, λ x v. (later v, λ d. f (rw (e, ← d) v)))
      | no g ↦
          let (l', r', h, s) = cut q r in
          (p ∷ l', more (λ v. f (s p v).0) r', omega arith, λ x v. other g s v)
    ]

nothing : {l : List ℕ} → NoRepeat l → ((x : ℕ) → Visits x l → x < 0) → length l ≤ 0
nothing end h = omega arith
nothing (more {p} f r) h = let b : p < 0 = h p now in absurd (omega arith)

pub short : (n : ℕ) {l : List ℕ} → NoRepeat l → ((x : ℕ) → Visits x l → x < n) → length l ≤ n
short zero r h = nothing r h
short (suc n) r h =
    let (l', r', b, s) = cut n r in
    let k : length l' ≤ n = short n r' (λ x v. let m : x < suc n = h x (s x v).0 in omega (arith, (s x v).1)) in
    omega arith
