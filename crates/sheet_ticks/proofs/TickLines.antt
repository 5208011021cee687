-- The lines of a tick are those of the job whose entries leave on it.
use Prim.Native.Nat.{ℕ, ◌+◌, ◌-◌, ◌*◌, ◌<◌, ◌≤◌}
use native.Mathlib.Omega.{arith}
use native.Mathlib.Decide.{dec_lt}
use mathlib.Core.Path.{◌≡◌, sym, ◌∙◌}
use mathlib.Core.List.{List, []}
use lib.ListN.{get_or}
use borrow.Author.Tests.{lt-ltb, le-ltb, le-leb, lt-leb}
use Rattle.job_list.specs.Jobs.{Jobs, count, size, algebra, Entry}
use Rattle.systolic.specs.Tick.{leaves}
use Rattle.job_list.specs.Fits.{ListFits}
use Rattle.text.specs.Joined.{joined}
use Rattle.text.proofs.Joined.{joined_same, joined_less, joined_empty}
use Rattle.sheet_form.specs.Lines.{Words, row_lines}
use Rattle.sheet_ticks.specs.inner.Leaving.{leaving_line}
use Rattle.sheet_form.proofs.Rows.{leaves_digits, row_empty, row_line}

module _ (J : Jobs) (word : Words) (fits : ListFits J) (t : ℕ) where
  pub lines_early : t + 1 < 4 * J.order → joined J.order (row_lines J word t) ≡ []
  lines_early h = joined_empty J.order (row_lines J word t) (λ i hi. row_empty J word t i (λ q k at e. omega arith))

  module _ (q d : ℕ) (h : d < 4 * J.order) (e : t ≡ 4 * J.order * q + 4 * J.order - 1 + d) where
    pub lines_late : count J ≤ q → joined J.order (row_lines J word t) ≡ []
    lines_late late =
        joined_empty J.order (row_lines J word t)
        (λ i hi.
        row_empty J word t i
        (λ q' k at f. let same = (leaves_digits fits {q = q} h at (sym e ∙ f)).0 in omega (arith, at.job)))

    -- the lines of the job whose entries leave
    pub lines_now : q < count J → (part : List ℕ)
        → ((i k : ℕ) → i < size J q → k < size J q → get_or part (i * size J q + k) 0 ≡ word q i k)
        → joined J.order (row_lines J word t)
        ≡ joined (size J q) (leaving_line (algebra J q) (record { job = q; size = size J q; sum = d; tick = t }) part)
    unfolding leaving_line
    lines_now job part same =
        joined_less J.order (size J q) (row_lines J word t) (fits.sizes_fit q job).1
        (λ i above below. row_empty J word t i (λ q' k at f. outside i q' k above at f))
        ∙ joined_same (size J q) (row_lines J word t) line (λ i hi. row i hi (dec_lt d i) (dec_lt (d - i) (size J q)))
      where
        line : ℕ → List ℕ
        line = leaving_line (algebra J q) (record { job = q; size = size J q; sum = d; tick = t }) part

        outside : (i q' k : ℕ) → size J q ≤ i → Entry J q' i k → t ≡ leaves J q' i k → ⊥
        outside i q' k above at f =
            let same : q ≡ q' = (leaves_digits fits {q = q} h at (sym e ∙ f)).0 in
            let row : i < size J q = rw same at.row in
            omega arith

        nothing : (i : ℕ) → (i ≤ d → d - i < size J q → ⊥) → row_lines J word t i ≡ []
        nothing i none =
            row_empty J word t i
            (λ q' k at f.
            let (same, sum) = leaves_digits fits {q = q} h at (sym e ∙ f) in
            let column : k < size J q = rw same at.column in
            none (omega arith) (omega arith))

        row : (i : ℕ) → i < size J q → Dec (d < i) → Dec (d - i < size J q) → row_lines J word t i ≡ line i
        row i hi (yes a) b = nothing i (λ x y. omega arith) ∙ rw (lt-leb i d a)
        row i hi (no a) (no b) =
            nothing i (λ x y. omega arith)
            ∙ rw (le-leb i d (omega arith), le-ltb (d - i) (size J q) (omega arith))
        row i hi (no a) (yes b) =
            row_line J word t i fits (record { job = job; row = hi; column = b }) (omega arith)
            ∙ rw (le-leb i d (omega arith), lt-ltb (d - i) (size J q) b, same i (d - i) hi b)
