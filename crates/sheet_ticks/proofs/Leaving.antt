-- What a row and a tick print, in the words of the code.
use Prim.Native.Nat.{ℕ, ◌+◌, ◌-◌, ◌*◌, ◌/◌, ◌%◌, ◌<◌, ◌≤◌}
use native.Mathlib.Nat.{div-add-mod, mod-lt, mul-le-mul}
use native.Mathlib.Omega.{arith}
use mathlib.Core.Path.{◌≡◌, sym, ap, ◌∙◌}
use mathlib.Core.List.{List, []}
use lib.ListN.{length, get_or, take, drop}
use lib.Arith.{digits_lt}
use mir.Syntax.{w64}
use mir.Val.{Fits}
use borrow.Author.Tests.{lt-ltb, le-ltb, le-leb, lt-leb}
use Rattle.semiring.specs.declared.Algebra.{Algebra}
use Rattle.memory.proofs.Part.{part_length, part_word}
use Rattle.job_list.specs.Fits.{ListFits, Small}
use Rattle.job_list.specs.Jobs.{offset, algebra_of, place, jobs_of}
use Rattle.job_list.proofs.Places.{part_within}
use Rattle.job_list.proofs.Fits.{area_fits, fits_small}
use Rattle.text.specs.Joined.{joined}
use Rattle.text.specs.declared.page.Page.{Page}
use Rattle.text.specs.inner.Printed.{Printed}
use Rattle.text.proofs.Printed.{printed_none, printed_as}
use Rattle.sheet_ticks.specs.declared.tick_lines.Leaving.{Leaving}
use Rattle.sheet_form.specs.Lines.{Words, out_line}
use Rattle.sheet_ticks.specs.inner.Leaving.{leaving_line, LeavingFits, Printable, tick_lines}
use Rattle.sheet_ticks.proofs.TickLines.{lines_early, lines_late, lines_now}

-- A row of a job: where it prints nothing, and its line.
module _ (a : Algebra) (l : Leaving) (part : List ℕ) (i : ℕ) (page : Page) where
  pub row_above : l.sum < i → Printed page (leaving_line a l part i) page
  unfolding leaving_line
  row_above h = printed_as (printed_none page) (rw (lt-leb i l.sum h))

  pub row-past : i ≤ l.sum → l.size ≤ l.sum - i → Printed page (leaving_line a l part i) page
  unfolding leaving_line
  row-past h g = printed_as (printed_none page) (rw (le-leb i l.sum h, le-ltb (l.sum - i) l.size g))

  pub row_printed : (page' : Page) → i ≤ l.sum → l.sum - i < l.size
      → Printed page (out_line a l.job i (l.sum - i) l.size l.tick (get_or part (i * l.size + (l.sum - i)) 0)) page'
      → Printed page (leaving_line a l part i) page'
  unfolding leaving_line
  row_printed page' h g p = printed_as p (rw (le-leb i l.sum h, lt-ltb (l.sum - i) l.size g))

module _ {l : Leaving} {part : List ℕ} {i : ℕ} (asked : LeavingFits l part × (i < l.size)) where
  pub row_room : Fits w64 (i * l.size)
  row_room = omega (arith, mul-le-mul asked.1 asked.0.size, asked.0.size)

  module _ {k : ℕ} (h : k < l.size) where
    pub place-within : i * l.size + k < length part
    place-within = omega (arith, asked.0.part_fits, digits_lt asked.1 h)

    pub place_room : Fits w64 (i * l.size + k)
    place_room = omega (arith, place-within, asked.0.part_fits, area_fits asked.0.size)

    -- a word has two bytes
    pub bytes-room : Fits w64 ((i * l.size + k) * 2)
    bytes-room = omega (arith, place-within, asked.0.part_fits, area_fits asked.0.size)

-- The lines of tick t, by the job and the sum that the code divides out of it.
module _ {algebras : List ℕ} {order : ℕ} {sizes results : List ℕ} {t : ℕ} (asked : Printable algebras order sizes results × (t < 65535)) where
  list : ListFits (jobs_of algebras order sizes [])
  list = asked.0.list

  -- the words of the jobs
  abbrev word : Words
  word q i k = get_or results (place (jobs_of algebras order sizes []) q i k) 0

  pub tick_early : (page : Page) → t + 1 < 4 * order → Printed page (tick_lines algebras order sizes results t) page
  unfolding tick_lines
  tick_early page h = printed_as (printed_none page) (sym (lines_early (jobs_of algebras order sizes []) word list t h))

  -- of a job that the list has
  module _ {job : ℕ} (now : job < length sizes) where
    size_most : get_or sizes job 0 ≤ 32
    size_most = let (least, most) = list.sizes_fit job now in omega (arith, list.ranged.most)

    pub algebra_there : job < length algebras
    algebra_there = omega (arith, list.algebras_fit)

    pub sizes_ready : (job ≤ length sizes) × Small sizes
    sizes_ready = (omega arith, fits_small list)

    pub size_room : Fits w64 (get_or sizes job 0)
    size_room = omega (arith, size_most)

    pub square_room : Fits w64 (get_or sizes job 0 * get_or sizes job 0)
    square_room = omega (arith, area_fits size_most)

    pub end_room : {start : ℕ} → start ≤ 16384 → Fits w64 (start + get_or sizes job 0 * get_or sizes job 0)
    end_room h = omega (arith, area_fits size_most)

    pub end_within : {start : ℕ} → start ≡ offset sizes job → start + get_or sizes job 0 * get_or sizes job 0 ≤ length results
    end_within is_start = rw (is_start, asked.0.results_fit) (part_within sizes job now)

  module _ (h : 4 * order ≤ t + 1) where
    abbrev since : ℕ
    since = t + 1 - 4 * order

    abbrev job : ℕ
    job = since / (4 * order)

    abbrev sum : ℕ
    sum = since % (4 * order)

    sum_below : sum < 4 * order
    sum_below = mod-lt since (omega (arith, list.ranged.least))

    tick_is : t ≡ 4 * order * job + 4 * order - 1 + sum
    tick_is = omega (arith, list.ranged.least, div-add-mod since (4 * order))

    pub tick_late : (page : Page) → length sizes ≤ job → Printed page (tick_lines algebras order sizes results t) page
    unfolding tick_lines
    tick_late page late =
        printed_as (printed_none page) (sym (lines_late (jobs_of algebras order sizes []) word list t job sum sum_below tick_is late))

    abbrev size : ℕ
    size = get_or sizes job 0

    abbrev leaving : Leaving
    leaving = record { job = job; size = size; sum = sum; tick = t }

    module _ (now : job < length sizes) {start : ℕ} (is_start : start ≡ offset sizes job) where
      abbrev part : List ℕ
      part = take (start + size * size - start) (drop start results)

      width : start + size * size - start ≡ size * size
      width = omega arith

      pub part_fits : LeavingFits leaving part
      part_fits = record {
        job = omega (arith, list.ranged.few);
        size = size_most now;
        tick = omega (arith, asked.1);
        part_fits = rw width (part_length start (size * size) results (end_within now is_start));
      }

      part_is : (i k : ℕ) → i < size → k < size → get_or part (i * size + k) 0 ≡ word job i k
      part_is i k hi hk =
          rw width
          (part_word start (size * size) results (end_within now is_start) (i * size + k) (digits_lt hi hk)
          ∙ ap (λ (at : ℕ). get_or results (at + (i * size + k)) 0) is_start)

      pub tick_printed : {a : Algebra} → a ≡ algebra_of algebras job → (page page' : Page)
          → Printed page (joined size (leaving_line a leaving part)) page' → Printed page (tick_lines algebras order sizes results t) page'
      unfolding tick_lines
      tick_printed is_algebra page page' p =
          printed_as p
          (ap (λ (b : Algebra). joined size (leaving_line b leaving part)) is_algebra
          ∙ sym (lines_now (jobs_of algebras order sizes []) word list t job sum sum_below tick_is now part part_is))
