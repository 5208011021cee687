-- A line tells its job's size: cut at its spaces, it has the size's numeral as its fifth part.
use Prim.Native.Nat.{ℕ, ◌≤◌}
use Prim.Native.Char.{code}
use native.Mathlib.Omega.{arith}
use mathlib.Core.Path.{◌≡◌, refl, sym, ap, ◌∙◌}
use mathlib.Core.List.{List, [], ◌∷◌, ◌++◌, append_assoc}
use Rattle.semiring.specs.declared.Algebra.{Algebra}
use Rattle.job_list.specs.Jobs.{size, algebra}
use Rattle.systolic.specs.Tick.{leaves}
use Rattle.text.specs.Ascii.{ascii}
use Rattle.text.specs.Pieces.{cut, placed, parts}
use Rattle.text.specs.Numeral.{shown}
use Rattle.text.proofs.Numerals.{numerals}
use Rattle.text.proofs.Runs.{parts_space}
use Rattle.sheet_form.specs.Lines.{shown_word, spaced, out_line}
use Rattle.sheet_form.specs.claims.Demand.{closure_words}
use Rattle.sheet_form.specs.claims.Sizes.{fifth_number, SizeRead, ToldApart}
use Rattle.sheet_form.proofs.Rows.{row_line}
use Rattle.sheet_form.proofs.Solid.{numeral_part}

-- one more number, and a space with all that follows it
number_more : (x : List ℕ) (n : ℕ) → n ≤ 99999 → parts (x ++ spaced n) ≡ parts x ++ (shown n ∷ [])
number_more x n h = parts_space x (shown n) ∙ ap (λ (ps : List (List ℕ)). parts x ++ ps) (numeral_part (shown n) (numerals n h))

rest_more : (x s u v w : List ℕ) → parts (x ++ (code " " ∷ s) ++ u ++ v ++ w) ≡ parts x ++ parts (s ++ u ++ v ++ w)
rest_more x s u v w =
    let a : List ℕ = code " " ∷ s in
    ap (λ (l : List ℕ). parts (l ++ v ++ w)) (append_assoc x a u)
    ∙ ap (λ (l : List ℕ). parts (l ++ w)) (append_assoc x (a ++ u) v)
    ∙ ap parts (append_assoc x (a ++ u ++ v) w)
    ∙ parts_space x (s ++ u ++ v ++ w)

first_part : parts (ascii "(out") ≡ ascii "(out" ∷ []
unfolding parts placed cut
first_part = refl

module _ (a : Algebra) (q i k n t w : ℕ) (hq : q ≤ 99999) (hi : i ≤ 99999) (hk : k ≤ 99999) (hn : n ≤ 99999) where
  pub line_parts : parts (out_line a q i k n t w)
      ≡ ascii "(out" ∷ shown q ∷ shown i ∷ shown k ∷ shown n ∷ parts (shown t ++ ascii " " ++ shown_word a w ++ ascii ")\n")
  line_parts =
      rw (
        rest_more (ascii "(out" ++ spaced q ++ spaced i ++ spaced k ++ spaced n) (shown t) (ascii " ") (shown_word a w) (ascii ")\n"),
        number_more (ascii "(out" ++ spaced q ++ spaced i ++ spaced k) n hn,
        number_more (ascii "(out" ++ spaced q ++ spaced i) k hk,
        number_more (ascii "(out" ++ spaced q) i hi,
        number_more (ascii "(out") q hq,
        first_part,
      )

  line_size : fifth_number (out_line a q i k n t w) ≡ n
  line_size = rw line_parts (numerals n hn).value

pub size_read : SizeRead
size_read J fits q i k at =
    let most : size J q ≤ J.order = (fits.sizes_fit q at.job).1 in
    let range = fits.ranged in
    ap fifth_number (row_line J (closure_words J) (leaves J q i k) i fits at refl)
    ∙ line_size (algebra J q) q i k (size J q) (leaves J q i k) (closure_words J q i k)
    (omega (arith, at.job, range.few)) (omega (arith, at.row, range.most)) (omega (arith, at.column, range.most))
    (omega (arith, range.most))

pub told_apart : ToldApart
told_apart J J' fits fits' q i k q' i' k' at at' same =
    sym (size_read J fits q i k at) ∙ ap fifth_number same ∙ size_read J' fits' q' i' k' at'
