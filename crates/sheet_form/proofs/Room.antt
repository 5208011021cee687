-- A bound on the length of every sheet.
use Prim.Native.Nat.{ℕ, ◌*◌, ◌<◌, ◌≤◌, min}
use native.Mathlib.Nat.{le_trans}
use native.Mathlib.Omega.{arith}
use native.Mathlib.Decide.{ℕ_discrete}
use mathlib.Core.Path.{◌≡◌, refl, ◌∙◌}
use mathlib.Core.List.{List, [], ◌++◌}
use mathlib.Core.Bool.{Bool, true, false, cond, ◌&&◌, and-false}
use lib.ListN.{length, drop, length-append}
use lib.Seq.{take_all}
use lib.Dec.{eqb, ltb}
use borrow.Author.Tests.{eq-eqb, ne_eqb}
use Rattle.semiring.specs.Algebra.{none_word_of}
use Rattle.semiring.specs.declared.Algebra.{Algebra}
use Rattle.semiring.specs.declared.Algebra.TheVariants.{Reach, Distance, Steepest}
use Rattle.job_list.specs.Jobs.{Jobs, count, size, algebra, jobs_of}
use Rattle.systolic.specs.Tick.{leaves}
use Rattle.systolic.proofs.Totals.{total_most}
use Rattle.job_reading.specs.Reading.{Reading, refused, accepted, reading_of}
use Rattle.job_list.specs.Fits.{ListFits, ListAccepted}
use Rattle.job_reading.proofs.Whole.{whole}
use Rattle.text.specs.Joined.{joined}
use Rattle.text.specs.Page.{overwritten}
use Rattle.text.specs.Numeral.{shown}
use Rattle.text.proofs.Numerals.{numeral_length, numeral_most}
use Rattle.text.proofs.Words.{unless_length}
use Rattle.text.proofs.Lengths.{sum, joined_length, sum_below, joined_sums, sum_once}
use Rattle.sheet_form.specs.Lines.{Words, refused_line, jobs_line, shown_word, out_line, entry_line, row_lines, sheet}
use Rattle.sheet_form.specs.Sheet.{whole_run, result_words, printed, sheet_of}
use Rattle.sheet_form.specs.claims.Demand.{page_bytes, Room}
use Rattle.sheet_form.proofs.WholeRun.{whole_made}

two_digits : (n : ℕ) → n < 100 → length (shown n) ≤ 2
two_digits n h = numeral_length 5 2 n (omega arith) h

four_digits : (n : ℕ) → n < 10000 → length (shown n) ≤ 4
four_digits n h = numeral_length 5 4 n (omega arith) h

refused_length : (number line : ℕ) → length (refused_line number line) ≤ 22
refused_length number line = simp length-append (omega (arith, numeral_most 5 number, numeral_most 5 line))

jobs_length : (jobs ticks : ℕ) → jobs < 100 → ticks < 10000 → length (jobs_line jobs ticks) ≤ 21
jobs_length jobs ticks h g = simp length-append (omega (arith, two_digits jobs h, four_digits ticks g))

word_length : (a : Algebra) (w : ℕ) → length (shown_word a w) ≤ 5
word_length Reach w = numeral_most 5 w
word_length Distance w = unless_length w (none_word_of Distance)
word_length Steepest w = unless_length w (none_word_of Steepest)

-- no line is longer than `(out 15 31 30 32 2108 65534)` with its LF
abbrev line_most : ℕ
line_most = 29

out_length : (a : Algebra) (q i k n t w : ℕ) → q < 100 → i < 100 → k < 100 → n < 100 → t < 10000
    → length (out_line a q i k n t w) ≤ line_most
out_length a q i k n t w hq hi hk hn ht =
    simp length-append
    (omega (arith, two_digits q hq, two_digits i hi, two_digits k hk, two_digits n hn, four_digits t ht, word_length a w))

-- The lines of jobs that fit an array of order at most 32.
module _ (J : Jobs) (word : Words) (list : ListFits J) (ticks : ℕ) (short : ticks ≤ 2110) where
  order_most : J.order ≤ 32
  order_most = list.ranged.most

  size_most : (q : ℕ) → q < count J → size J q ≤ 32
  size_most q h = let (least, most) = list.sizes_fit q h in omega (arith, order_most)

  entry_length : (t i q k : ℕ) → t < ticks → i < J.order → q < count J → k < size J q
      → length (entry_line J word t i q k) ≤ cond (eqb t (leaves J q i k)) line_most 0
  entry_length t i q k ht hi hq hk = by (ℕ_discrete t (leaves J q i k)) (ltb i (size J q))
    where
      by : Dec (t ≡ leaves J q i k) → (b : Bool)
          → length (cond (b && eqb t (leaves J q i k)) (out_line (algebra J q) q i k (size J q) t (word q i k)) [])
          ≤ cond (eqb t (leaves J q i k)) line_most 0
      by (yes e) true =
          rw (eq-eqb t (leaves J q i k) e)
          (out_length (algebra J q) q i k (size J q) t (word q i k)
          (omega (arith, list.ranged.few)) (omega (arith, order_most)) (omega (arith, size_most q hq)) (omega (arith, size_most q hq))
          (omega arith))
      by (yes e) false = rw (eq-eqb t (leaves J q i k) e) (omega arith)
      by (no e) b = rw (ne_eqb t (leaves J q i k) e, and-false b) (omega arith)

  -- over all ticks: an entry, the entries of row i of job q, the rows i of all jobs, all rows
  entry_sum : (i q k : ℕ) → i < J.order → q < count J → k < size J q → sum ticks (λ t. length (entry_line J word t i q k)) ≤ line_most
  entry_sum i q k hi hq hk =
      le_trans
      (sum_below ticks (λ t. length (entry_line J word t i q k)) (λ t. cond (eqb t (leaves J q i k)) line_most 0)
      (λ t ht. entry_length t i q k ht hi hq hk))
      (sum_once ticks (leaves J q i k) line_most)

  job_sum : (i q : ℕ) → i < J.order → q < count J → sum ticks (λ t. length (joined (size J q) (entry_line J word t i q))) ≤ 32 * line_most
  job_sum i q hi hq =
      le_trans (joined_sums ticks (size J q) (λ t. entry_line J word t i q) line_most (λ k hk. entry_sum i q k hi hq hk))
      (omega (arith, size_most q hq))

  row_sum : (i : ℕ) → i < J.order → sum ticks (λ t. length (row_lines J word t i)) ≤ 16 * (32 * line_most)
  row_sum i hi =
      le_trans
      (joined_sums ticks (count J) (λ t q. joined (size J q) (entry_line J word t i q)) (32 * line_most) (λ q hq. job_sum i q hi hq))
      (omega (arith, list.ranged.few))

  lines_length : length (joined ticks (λ t. joined J.order (row_lines J word t))) ≤ 32 * (16 * (32 * line_most))
  lines_length =
      rw (joined_length ticks (λ t. joined J.order (row_lines J word t)))
      (le_trans (joined_sums ticks J.order (λ t. row_lines J word t) (16 * (32 * line_most)) (λ i hi. row_sum i hi))
      (omega (arith, order_most)))

  sheet_length : length (sheet J word ticks) ≤ page_bytes
  unfolding sheet
  sheet_length =
      let lines : List ℕ = joined ticks (λ t. joined J.order (row_lines J word t)) in
      omega (
        arith,
        length-append (jobs_line (count J) ticks) lines,
        jobs_length (count J) ticks (omega (arith, list.ranged.few)) (omega arith),
        lines_length,
      )

room_by : (text : List ℕ) (r : Reading) → reading_of 16 16 16384 text ≡ r → length (printed r) ≤ page_bytes
room_by text (refused r) e = omega (arith, refused_length r.number r.line)
room_by text (accepted order algebras sizes weights) e =
    let list : ListAccepted (jobs_of algebras order sizes weights) = whole 16 16 16384 text order algebras sizes weights e in
    let J : Jobs = jobs_of algebras order sizes weights in
    let after = whole_run algebras order sizes weights in
    sheet_length J (result_words J after) list.fits after.made
    (omega (arith, whole_made list, total_most list.fits.ranged.most list.fits.ranged.few))

pub room : Room
room text = room_by text (reading_of 16 16 16384 text) refl

-- What is printed on a page with that room: the whole sheet.
module _ (text page : List ℕ) (long : length page ≡ page_bytes) {n : ℕ} (outcome : n ≡ min (length page) (length (sheet_of text))) where
  pub whole_length : n ≡ length (sheet_of text)
  whole_length = omega (arith, room text)

  pub whole_page : {page' : List ℕ} → page' ≡ overwritten (sheet_of text) page → page' ≡ sheet_of text ++ drop n page
  whole_page memory =
      let fits : length (sheet_of text) ≤ length page = omega (arith, room text) in
      memory ∙ rw (whole_length, take_all (length page) (sheet_of text) fits)
