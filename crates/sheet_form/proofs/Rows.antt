-- Which lines a row and a tick have: an entry's on the tick on which it leaves, and no other.
use Prim.Native.Nat.{ℕ, ◌+◌, ◌-◌, ◌*◌, ◌<◌, ◌≤◌}
use native.Mathlib.Omega.{arith}
use native.Mathlib.Decide.{dec_lt}
use mathlib.Core.Path.{◌≡◌, sym, ◌∙◌}
use mathlib.Core.List.{[]}
use mathlib.Core.Bool.{and-false}
use lib.Dec.{ltb}
use borrow.Author.Tests.{lt-ltb, le-ltb, eq-eqb, ne_eqb}
use Rattle.job_list.specs.Jobs.{Jobs, count, size, algebra, Entry}
use Rattle.systolic.specs.Tick.{leaves}
use Rattle.memory.proofs.Geometry.{same_digits}
use Rattle.job_list.specs.Fits.{ListFits}
use Rattle.text.specs.Joined.{joined}
use Rattle.text.proofs.Joined.{joined_empty, joined_one}
use Rattle.sheet_form.specs.Lines.{Words, out_line, entry_line, row_lines}

-- An entry's tick tells its job and the sum of its row and column.
pub leaves_digits : {J : Jobs} → ListFits J → {q d q' i k : ℕ} → d < 4 * J.order → Entry J q' i k
    → 4 * J.order * q + 4 * J.order - 1 + d ≡ leaves J q' i k → (q ≡ q') × (d ≡ i + k)
leaves_digits {J} fits {q} {d} {q'} {i} {k} h at e =
    let few : size J q' ≤ J.order = (fits.sizes_fit q' at.job).1 in
    same_digits {n = 4 * J.order} {x = q} {y = d} {x' = q'} {y' = i + k} h (omega (arith, at.row, at.column))
    (omega (arith, fits.ranged.least))

module _ (J : Jobs) (word : Words) (t i : ℕ) where
  entry_empty : (q k : ℕ) → (i < size J q → t ≡ leaves J q i k → ⊥) → entry_line J word t i q k ≡ []
  entry_empty q k none = by (dec_lt i (size J q))
    where
      by : Dec (i < size J q) → entry_line J word t i q k ≡ []
      by (yes h) = rw (ne_eqb t (leaves J q i k) (none h), and-false (ltb i (size J q)))
      by (no h) = rw (le-ltb i (size J q) (omega arith))

  pub row_empty : ((q k : ℕ) → Entry J q i k → t ≡ leaves J q i k → ⊥) → row_lines J word t i ≡ []
  row_empty none =
      joined_empty (count J) (λ q. joined (size J q) (entry_line J word t i q))
      (λ q hq.
      joined_empty (size J q) (entry_line J word t i q)
      (λ k hk. entry_empty q k (λ hi. none q k (record { job = hq; row = hi; column = hk }))))

  pub row_line : ListFits J → {q k : ℕ} → Entry J q i k → t ≡ leaves J q i k
      → row_lines J word t i ≡ out_line (algebra J q) q i k (size J q) t (word q i k)
  row_line fits {q} {k} at e =
      joined_one (count J) (λ q'. joined (size J q') (entry_line J word t i q')) q at.job
      (λ q' hq d.
      joined_empty (size J q') (entry_line J word t i q')
      (λ k' hk. entry_empty q' k' (λ hi f. d (sym (once q' k' (record { job = hq; row = hi; column = hk }) f).0))))
      ∙ joined_one (size J q) (entry_line J word t i q) k at.column
      (λ k' hk d.
      entry_empty q k'
      (λ hi f. let same = (once q k' (record { job = at.job; row = hi; column = hk }) f).1 in d (omega arith)))
      ∙ rw (lt-ltb i (size J q) at.row, eq-eqb t (leaves J q i k) e)
    where
      once : (q' k' : ℕ) → Entry J q' i k' → t ≡ leaves J q' i k' → (q ≡ q') × (i + k ≡ i + k')
      once q' k' at' f =
          let few : size J q ≤ J.order = (fits.sizes_fit q at.job).1 in
          leaves_digits fits {q = q} {d = i + k} (omega (arith, at.row, at.column, fits.ranged.least)) at' (omega arith)
