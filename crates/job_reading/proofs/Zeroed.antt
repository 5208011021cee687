-- A refusal leaves no word: buffers that begin with nothing are zeros.
use Prim.Native.Nat.{ℕ}
use native.Mathlib.Omega.{arith}
use mathlib.Core.Path.{◌≡◌, sym, ap, ◌∙◌}
use mathlib.Core.List.{List}
use Rattle.job_form.specs.Buffer.{padded}
use Rattle.job_form.proofs.Padded.{zeros}
use Rattle.job_reading.specs.Reading.{Refusal, Reading, refused, accepted, reading_of, algebras_in, sizes_in, weights_in, algebras_after, sizes_after, weights_after, turned, answer_of, told}
use Rattle.job_reading.specs.claims.Zeroed.{AllZero, Zeroed}

none_left : (l m n : ℕ) (reading : Reading) (why : Refusal) → reading ≡ refused why
    → AllZero l m n (padded l (algebras_in reading)) (padded m (sizes_in reading)) (padded n (weights_in reading))
none_left l m n reading why e = rw e (record { algebras_zero = sym (zeros l); sizes_zero = sym (zeros m); weights_zero = sym (zeros n) })

all_zero : (l m n : ℕ) (text : List ℕ) (why : Refusal) → reading_of l m n text ≡ refused why
    → AllZero l m n (algebras_after l m n text) (sizes_after l m n text) (weights_after l m n text)
all_zero l m n text why e = none_left l m n (reading_of l m n text) why e

-- An answer that is a refusal is that of the reading.
is_refused : (reading : Reading) (why : Refusal) → turned why ≡ answer_of reading → reading ≡ refused why
is_refused (refused r) why e = let same : why ≡ r = cc in ap refused (sym same)
is_refused (accepted order algebras sizes weights) why e = let z : ◌≡◌ {A = ℕ} 0 1 = cc in absurd (omega arith)

pub zeroed : Zeroed
zeroed = record {
  defined = all_zero;
  left = λ l m n text why algebras sizes weights h.
      let zero = all_zero l m n text (told why) (is_refused (reading_of l m n text) (told why) h.outcome) in
      record {
        algebras_zero = h.algebras_left ∙ zero.algebras_zero;
        sizes_zero = h.sizes_left ∙ zero.sizes_zero;
        weights_zero = h.weights_left ∙ zero.weights_zero;
      };
}
