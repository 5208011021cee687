-- A line's seventh part is its word with the line's end, and the word is `-` where its job's algebra is not reach and it is none.
use Prim.Native.Nat.{ℕ, ◌≤◌}
use native.Mathlib.Nat.{le_trans}
use native.Mathlib.Omega.{arith}
use mathlib.Core.Path.{◌≡◌, refl, ap, ap₂, ◌∙◌}
use mathlib.Core.List.{List, [], ◌∷◌, ◌++◌, append_assoc}
use mathlib.Core.Bool.{Bool, true, false, cond}
use lib.Dec.{eqb}
use lib.ListN.{length, length-append}
use borrow.Author.Tests.{eq-eqb, ne_eqb}
use Rattle.semiring.specs.Algebra.{none_word_of}
use Rattle.semiring.specs.declared.Algebra.{Algebra}
use Rattle.semiring.specs.declared.Algebra.TheVariants.{Reach, Distance, Steepest}
use Rattle.closure.proofs.Equations.{closure_word}
use Rattle.text.specs.Ascii.{ascii}
use Rattle.text.specs.Numeral.{shown}
use Rattle.text.specs.Pieces.{parts}
use Rattle.text.proofs.Numerals.{numerals}
use Rattle.text.proofs.Runs.{parts_space}
use Rattle.job_list.specs.Jobs.{Jobs, size, algebra, job_weights, Entry}
use Rattle.job_list.specs.Fits.{ListAccepted}
use Rattle.systolic.specs.Tick.{leaves}
use Rattle.systolic.proofs.Totals.{total_most, tick_within}
use Rattle.sheet_form.specs.Lines.{shown_word}
use Rattle.sheet_form.specs.claims.Demand.{closure_words}
use Rattle.sheet_form.specs.claims.Sizes.{printed_entry}
use Rattle.sheet_form.specs.claims.None.{seventh_part, NoneRead}
use Rattle.sheet_form.proofs.Numbers.{top_most}
use Rattle.sheet_form.proofs.Rows.{row_line}
use Rattle.sheet_form.proofs.Sizes.{line_parts}
use Rattle.sheet_form.proofs.Solid.{Solid, one_part, solid_append, numeral_solid, numeral_part}

-- A line's end and a dash have no space.
end_solid : Solid (ascii ")\n")
unfolding Solid
end_solid = (λ e. omega arith, (λ e. omega arith, tt))

dash_solid : Solid (ascii "-")
unfolding Solid
dash_solid = (λ e. omega arith, tt)

module _ (w : ℕ) (small : w ≤ 99999) where
  number_solid : Solid (shown w)
  number_solid = numeral_solid (shown w) (numerals w small)

  either_solid : (b : Bool) → Solid (cond b (ascii "-") (shown w))
  either_solid true = dash_solid
  either_solid false = number_solid

  word_solid : (a : Algebra) → Solid (shown_word a w)
  word_solid Reach = number_solid
  word_solid Distance = either_solid (eqb w (none_word_of Distance))
  word_solid Steepest = either_solid (eqb w (none_word_of Steepest))

-- the parts of a line from its tick on
tail_parts : (a : Algebra) (t w : ℕ) → t ≤ 99999 → w ≤ 99999
    → parts (shown t ++ ascii " " ++ shown_word a w ++ ascii ")\n") ≡ shown t ∷ (shown_word a w ++ ascii ")\n") ∷ []
tail_parts a t w ht hw =
    let word : List ℕ = shown_word a w in
    let some : 1 ≤ length (word ++ ascii ")\n") = simp length-append (omega arith) in
    ap (λ (l : List ℕ). parts (l ++ ascii ")\n")) (append_assoc (shown t) (ascii " ") word)
    ∙ ap parts (append_assoc (shown t) (ascii " " ++ word) (ascii ")\n"))
    ∙ parts_space (shown t) (word ++ ascii ")\n")
    ∙ ap₂ (λ (p r : List (List ℕ)). p ++ r) (numeral_part (shown t) (numerals t ht))
    (one_part (word ++ ascii ")\n") some (solid_append word (ascii ")\n") (word_solid w hw a) end_solid))

-- What a word is shown as.
shown_none : (a : Algebra) (w : ℕ) → (a ≡ Reach → ⊥) → w ≡ none_word_of a → shown_word a w ≡ ascii "-"
shown_none Reach w other e = absurd (other refl)
shown_none Distance w other e = rw (eq-eqb w (none_word_of Distance) e)
shown_none Steepest w other e = rw (eq-eqb w (none_word_of Steepest) e)

shown_other : (a : Algebra) (w : ℕ) → (w ≡ none_word_of a → ⊥) → shown_word a w ≡ shown w
shown_other Reach w d = refl
shown_other Distance w d = rw (ne_eqb w (none_word_of Distance) d)
shown_other Steepest w d = rw (ne_eqb w (none_word_of Steepest) d)

module _ {J : Jobs} (list : ListAccepted J) {q i k : ℕ} (at : Entry J q i k) where
  word_read : seventh_part (printed_entry J q i k) ≡ shown_word (algebra J q) (closure_words J q i k) ++ ascii ")\n"
  word_read =
      let a : Algebra = algebra J q in
      let t : ℕ = leaves J q i k in
      let w : ℕ = closure_words J q i k in
      let range = list.fits.ranged in
      let most : size J q ≤ J.order = (list.fits.sizes_fit q at.job).1 in
      let word = le_trans (closure_word a (size J q) (job_weights J q) (list.words q) i k) (top_most a) in
      let tick : t ≤ 99999 = omega (arith, tick_within list.fits at, total_most range.most range.few) in
      ap seventh_part (row_line J (closure_words J) t i list.fits at refl)
      ∙ rw (
        line_parts a q i k (size J q) t w (omega (arith, at.job, range.few)) (omega (arith, at.row, range.most))
            (omega (arith, at.column, range.most)) (omega (arith, range.most)),
        tail_parts a t w tick (omega arith),
      )

pub none_read : NoneRead
none_read J list q i k at =
    let w : ℕ = closure_words J q i k in
    let read = word_read list at in
    record {
      in_reach = λ e. read ∙ ap (λ (a : Algebra). shown_word a w ++ ascii ")\n") e;
      none = λ other e. read ∙ ap (λ (l : List ℕ). l ++ ascii ")\n") (shown_none (algebra J q) w other e);
      other = λ d. read ∙ ap (λ (l : List ℕ). l ++ ascii ")\n") (shown_other (algebra J q) w d);
    }
