-- A homomorphism joins two eliminations because it joins the tables they start from, and what each pass makes of them: sums and products.
use Prim.Native.Nat.{ℕ, zero, suc, ◌≤◌, ◌<◌}
use native.Mathlib.Nat.{le_refl, le_of_lt}
use native.Mathlib.Decide.{ℕ_discrete}
use mathlib.Core.Path.{◌≡◌, sym}
use borrow.Author.Tests.{eq-eqb, ne_eqb}
use Rattle.semiring.specs.declared.Algebra.{Algebra}
use Rattle.semiring.proofs.Laws.{laws}
use Rattle.closure.specs.Table.{Table, entries, with_own}
use Rattle.closure.specs.Elimination.{passes, closure}
use Rattle.closure.proofs.Equations.{passes_none, passes-next, closure_passes}
use Rattle.closure.proofs.Links.{Links, words_links}
use Rattle.closure.proofs.Passes.{passes_word}
use Rattle.homomorphism.specs.Homomorphism.{Homomorphism}
use Rattle.homomorphism.specs.claims.Maps.{Commutes}

module _ {a b : Algebra} {f : ℕ → ℕ} (kept : Homomorphism a b f) {t s : Table} {n : ℕ} (links : Links a t)
    (joined : (i j : ℕ) → i < n → j < n → s i j ≡ f (t i j)) where
  passes_joined : (m i j : ℕ) → m ≤ n → i < n → j < n → passes b s m i j ≡ f (passes a t m i j)
  passes_joined zero i j h hi hj = rw (passes_none a t, passes_none b s) (joined i j hi hj)
  passes_joined (suc m) i j h hi hj =
      let word = passes_word links m in
      let u = le_of_lt h in
      rw (
        passes-next a t m,
        passes-next b s m,
        passes_joined m i j u hi hj,
        passes_joined m i m u hi h,
        passes_joined m m j u h hj,
        kept.sum (word i j) ((laws a).product_word (word i m) (word m j)),
        kept.product (word i m) (word m j),
      )

pub commutes : Commutes
commutes a b f kept n w v words joined i j hi hj =
    rw (closure_passes a n w, closure_passes b n v)
    (passes_joined kept (words_links a n w words) (λ i j hi hj. begun i j hi hj (ℕ_discrete i j)) n i j (le_refl n) hi hj)
  where
    begun : (i j : ℕ) → i < n → j < n → Dec (i ≡ j) → with_own b (entries n v) i j ≡ f (with_own a (entries n w) i j)
    begun i j hi hj (yes e) = rw (eq-eqb i j e) (sym kept.own)
    begun i j hi hj (no d) = rw (ne_eqb i j d) (joined i j hi hj d)
