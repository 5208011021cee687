-- The answer and the buffer of a whole file.
use Prim.Native.Nat.{ℕ}
use mathlib.Core.Path.{◌≡◌, sym, ap, ap₂, subst, ◌∙◌}
use mathlib.Core.Logic.{◌≢◌}
use mathlib.Core.List.{List}
use mathlib.Core.Bool.{true, false}
use lib.ListN.{length}
use borrow.Author.Tests.{eq-eqb, ne_eqb}
use Rattle.std.proofs.Common.{Result, Ok, Err, is_err}
use Rattle.memory.specs.Lists.{list_of}
use Rattle.refusals.specs.declared.Reason.{Reason}
use Rattle.refusals.specs.declared.Reason.TheVariants.{RoadForm}
use Rattle.text.specs.Pieces.{lines}
use Rattle.road_table.specs.inner.Held.{Cleared}
use Rattle.road_table.proofs.Words.{all_held, all_zero}
use Rattle.road_text.specs.Steps.{start}
use Rattle.road_text.specs.Reading.{RoadReading, refused, accepted, follow, road_reading_of, arcs_in, word_in, RoadRead}
use Rattle.road_text.specs.inner.Kept.{Filled, Followed, Owed}

-- `read_cleared`
module _ {file : List ℕ} {l : List ℕ} where
  pub owed_points : (answer : Result ℕ Reason) → is_err answer ≡ false → Followed file answer l → Owed file answer l
  owed_points (Err reason) e f = cc
  owed_points (Ok n) e f = record {
    outcome = f.outcome;
    memory = subst (λ (x : RoadReading). l ≡ list_of 16384 (word_in x (arcs_in (lines file)))) f.outcome (all_held f.size held);
  }
    where
      held : Filled (accepted n) (arcs_in (lines file)) l
      held = subst (λ (x : RoadReading). Filled x (arcs_in (lines file)) l) (sym f.outcome) f.memory

  pub owed_refusal : {new : List ℕ} (answer : Result ℕ Reason) → is_err answer ≡ true → Followed file answer l → Cleared (length l) new → Owed file answer new
  owed_refusal (Ok n) e f c = cc
  owed_refusal {new} (Err reason) e f c = record {
    outcome = f.outcome;
    memory = subst (λ (x : RoadReading). new ≡ list_of 16384 (word_in x (arcs_in (lines file)))) f.outcome
        (all_zero c ∙ ap (λ (m : ℕ). list_of m (λ q. 0)) f.size);
  }

-- `read_road`, with a buffer of m words
unfit : (m : ℕ) (file : List ℕ) → m ≢ 16384 → refused 21 ≡ road_reading_of m file
unfolding road_reading_of
unfit m file h = rw (ne_eqb m 16384 h)

fit : (m : ℕ) (file : List ℕ) → m ≡ 16384 → follow (lines file) start ≡ road_reading_of m file
unfolding road_reading_of
fit m file h = rw (eq-eqb m 16384 h)

module _ {m : ℕ} {zeros : List ℕ} (c : Cleared m zeros) where
  pub wrong_buffer : {file : List ℕ} → length zeros ≢ 16384 → RoadRead m file (Err RoadForm) zeros
  wrong_buffer {file} h =
      let is : refused 21 ≡ road_reading_of m file = unfit m file (λ e. h (c.size ∙ e)) in
      record { outcome = is; memory = subst (λ (x : RoadReading). zeros ≡ list_of m (word_in x (arcs_in (lines file)))) is (all_zero c) }

  pub right_zeros : length zeros ≡ 16384 → Cleared 16384 zeros
  right_zeros e = record { size = e; zeros = c.zeros }

  pub right_buffer : {file : List ℕ} {r : Result ℕ Reason} {l : List ℕ} → length zeros ≡ 16384 → Owed file r l → RoadRead m file r l
  right_buffer {file} {r} {l} e o =
      let size : m ≡ 16384 = sym c.size ∙ e in
      let is : follow (lines file) start ≡ road_reading_of m file = fit m file size in
      record {
        outcome = o.outcome ∙ is;
        memory = o.memory ∙ ap₂ (λ (n : ℕ) (x : RoadReading). list_of n (word_in x (arcs_in (lines file)))) (sym size) is;
      }
