-- The form of a line by its first two bytes and its last.
use Prim.Native.Nat.{ℕ, suc, ◌-◌, ◌<◌, ◌≤◌}
use Prim.Native.Char.{code}
use native.Mathlib.Omega.{arith}
use native.Mathlib.Decide.{dec_lt, ℕ_discrete}
use mathlib.Core.Path.{◌≡◌, refl, sym, ap, ◌∙◌}
use mathlib.Core.List.{List, [], ◌∷◌}
use mathlib.Core.Bool.{Bool, true, false, cond, ◌&&◌, and-false}
use lib.ListN.{length, get_or, take, drop, drop_of_length-le}
use lib.Dec.{eqb}
use lib.Pointwise.{pointwise}
use lib.Seq.{drop-cons}
use Rattle.std.specs.Cmp.Lexicographic.{same_text, other_text}
use borrow.Author.Tests.{eq-eqb, ne_eqb}
use Rattle.text.specs.Pieces.{parts}
use Rattle.text.specs.inner.Scan.{parts_from, Unspaced, Until}
use Rattle.text.proofs.Cuts.{found_here, parts_some}
use Rattle.text.proofs.Runs.{first, later, parts_none, parts_alone, parts_two}
use Rattle.text.proofs.Walks.{spaces_none, spaces_found, passed_none, passed_one, passed_found}
use Rattle.road_form.specs.declared.forms.Line.{Line}
use Rattle.road_form.specs.declared.forms.Line.TheVariants.{Comment, Unknown}
use Rattle.road_form.specs.Forms.{problem_form, arc_form, form_of_parts, begins_with, ends_with, form_of}
use Rattle.road_form.specs.inner.Says.{Says, LineRead, Plain}

begins : (b : ℕ) (line : List ℕ) → 1 ≤ length line → begins_with b line ≡ eqb (get_or line 0 0) b
begins b line h = rw (ne_eqb (length line) 0 (λ e. omega arith))

ends : (b : ℕ) (line : List ℕ) → 1 ≤ length line → ends_with b line ≡ eqb (get_or line (length line - 1) 0) b
ends b line h = rw (ne_eqb (length line) 0 (λ e. omega arith))

always : (x : Bool) → cond x Unknown Unknown ≡ Unknown
always true = refl
always false = refl

pub no_byte : (line : List ℕ) → length line < 1 → LineRead line Unknown
unfolding form_of
no_byte [] h = record { is = rw parts_none }
no_byte (b ∷ line) h = absurd (omega arith)

module _ (line : List ℕ) (some : 1 ≤ length line) where
  pub comment : get_or line 0 0 ≡ code "c" → LineRead line Comment
  unfolding form_of
  comment e = record { is = rw (begins (code "c") line some, eq-eqb (get_or line 0 0) (code "c") e) }

  module _ (other : get_or line 0 0 ≡ code "c" → ⊥) where
    -- unknown wherever its parts say so
    unknown : ((get_or line 0 0 ≡ code " " → ⊥) → form_of_parts (parts line) ≡ Unknown) → LineRead line Unknown
    unfolding form_of
    unknown h = record { is = by (ℕ_discrete (get_or line 0 0) (code " ")) }
      where
        by : Dec (get_or line 0 0 ≡ code " ") → Unknown ≡ form_of line
        by (yes e) = rw (begins (code "c") line some, ne_eqb (get_or line 0 0) (code "c") other, begins (code " ") line some, eq-eqb (get_or line 0 0) (code " ") e)
        by (no e) =
            rw (begins (code "c") line some, ne_eqb (get_or line 0 0) (code "c") other, begins (code " ") line some, ne_eqb (get_or line 0 0) (code " ") e, h e)
            (sym (always (ends_with (code " ") line)))

    pub space_at_end : get_or line (length line - 1) 0 ≡ code " " → LineRead line Unknown
    unfolding form_of
    space_at_end e =
        record {
          is = rw (begins (code "c") line some, ne_eqb (get_or line 0 0) (code "c") other, ends (code " ") line some, eq-eqb (get_or line (length line - 1) 0) (code " ") e)
              (sym (always (begins_with (code " ") line)));
        }

pub one_byte : (line : List ℕ) → 1 ≤ length line → (get_or line 0 0 ≡ code "c" → ⊥) → length line < 2 → LineRead line Unknown
one_byte [] h other k = absurd (omega arith)
one_byte (b ∷ c ∷ line) h other k = absurd (omega arith)
one_byte (b ∷ []) h other k =
    unknown (b ∷ []) h other
    (λ e. ap form_of_parts (parts_alone b (ne_eqb b (code " ") e)) ∙ rw (always (eqb b (code "a") && true)) (always (eqb b (code "p") && true)))

pub long_head : (line : List ℕ) → 1 ≤ length line → (get_or line 0 0 ≡ code "c" → ⊥) → 2 ≤ length line → (get_or line 1 0 ≡ code " " → ⊥) → LineRead line Unknown
long_head [] h other k e = absurd (omega arith)
long_head (b ∷ []) h other k e = absurd (omega arith)
long_head (b ∷ c ∷ line) h other k e =
    unknown (b ∷ c ∷ line) h other
    (λ q.
    let named : form_of_parts (parts (b ∷ c ∷ line)) ≡ form_of_parts ((b ∷ c ∷ first line) ∷ later line)
    = ap form_of_parts (parts_two b c line (ne_eqb b (code " ") q) (ne_eqb c (code " ") e)) in
    let no_arc : cond (eqb b (code "a") && false) (arc_form (later line)) Unknown ≡ Unknown
    = ap (λ (x : Bool). cond x (arc_form (later line)) Unknown) (and-false (eqb b (code "a"))) in
    named ∙ rw (and-false (eqb b (code "p"))) no_arc)

-- A line whose first part is one byte.
module _ (line : List ℕ) (two : 2 ≤ length line) (spaced : get_or line 1 0 ≡ code " ") where
  headed : (get_or line 0 0 ≡ code " " → ⊥) → parts line ≡ (get_or line 0 0 ∷ []) ∷ parts_from 1 line
  unfolding parts
  headed h =
      let u : Unspaced 0 line 0 = spaces_found spaces_none h in
      let t : Until (code " ") 0 line 1 = passed_found (passed_one passed_none (omega arith) h) spaced in
      parts_some (found_here u t) (omega arith) ∙ ap (λ (p : List ℕ). p ∷ parts_from 1 line) (one line two)
    where
      one : (l : List ℕ) → 2 ≤ length l → take 1 l ≡ get_or l 0 0 ∷ []
      one [] k = absurd (omega arith)
      one (b ∷ l) k = refl

  module _ (other : get_or line 0 0 ≡ code "c" → ⊥) where
    pub other_head : Plain line → (get_or line 0 0 ≡ code "p" → ⊥) → LineRead line Unknown
    other_head plain p =
        let a : get_or line 0 0 ≡ code "a" → ⊥ = λ e. plain.no_arc (record { two = two; name = e; spaced = spaced }) in
        unknown line (omega arith) other
        (λ h. ap form_of_parts (headed h) ∙ rw (ne_eqb (get_or line 0 0) (code "p") p, ne_eqb (get_or line 0 0) (code "a") a))

    module _ (closed : get_or line (length line - 1) 0 ≡ code " " → ⊥) (h : get_or line 0 0 ≡ code " " → ⊥) where
      by_parts : form_of line ≡ form_of_parts ((get_or line 0 0 ∷ []) ∷ parts_from 1 line)
      unfolding form_of
      by_parts =
          rw (
            begins (code "c") line (omega arith),
            ne_eqb (get_or line 0 0) (code "c") other,
            begins (code " ") line (omega arith),
            ne_eqb (get_or line 0 0) (code " ") h,
            ends (code " ") line (omega arith),
            ne_eqb (get_or line (length line - 1) 0) (code " ") closed,
            headed h,
          )

    module _ {r : Line} (closed : get_or line (length line - 1) 0 ≡ code " " → ⊥) where
      pub arc : get_or line 0 0 ≡ code "a" → Says arc_form (parts_from 1 line) r → LineRead line r
      arc e says = record { is = says.is ∙ sym (by_parts closed (λ q. omega arith) ∙ rw e) }

      pub problem : get_or line 0 0 ≡ code "p" → Says problem_form (parts_from 1 line) r → LineRead line r
      problem e says = record { is = says.is ∙ sym (by_parts closed (λ q. omega arith) ∙ rw e) }

last_byte : (line : List ℕ) → 1 ≤ length line → drop (length line - 1) line ≡ get_or line (length line - 1) 0 ∷ []
last_byte line some =
    let past : length line ≤ suc (length line - 1) = omega arith in
    drop-cons line (length line - 1) 0 (omega arith) ∙ ap (λ (l : List ℕ). get_or line (length line - 1) 0 ∷ l) (drop_of_length-le line past)

-- `plain_line`: what the tests of the line's first bytes and its last tell
module _ {r : Bool} where
  pub comment_line : (line : List ℕ) → r ≡ pointwise eqb (99 ∷ []) (take 1 line) → r ≡ true → LineRead line Comment
  comment_line [] told e = cc
  comment_line (b ∷ line) told e =
      let z : 99 ∷ [] ≡ b ∷ [] = same_text (99 ∷ []) (b ∷ []) (sym e ∙ told) in
      comment (b ∷ line) (omega arith) cc

  pub no_comment : (line : List ℕ) → r ≡ pointwise eqb (99 ∷ []) (take 1 line) → r ≡ false → get_or line 0 0 ≡ code "c" → ⊥
  no_comment [] told e z = omega arith
  no_comment (b ∷ line) told e z = other_text (99 ∷ []) (b ∷ []) (sym e ∙ told) (rw z refl)

  pub no_problem : (line : List ℕ) → r ≡ pointwise eqb (112 ∷ 32 ∷ []) (take 2 line) → r ≡ false → 2 ≤ length line → get_or line 1 0 ≡ code " "
      → get_or line 0 0 ≡ code "p" → ⊥
  no_problem [] told e two spaced name = omega arith
  no_problem (b ∷ []) told e two spaced name = omega arith
  no_problem (b ∷ c ∷ line) told e two spaced name = other_text (112 ∷ 32 ∷ []) (b ∷ c ∷ []) (sym e ∙ told) (rw (name, spaced) refl)

  pub problem_head : (line : List ℕ) → r ≡ pointwise eqb (112 ∷ 32 ∷ []) (take 2 line) → r ≡ true
      → (2 ≤ length line) × (get_or line 1 0 ≡ code " ") × (get_or line 0 0 ≡ code "p")
  problem_head [] told e = cc
  problem_head (b ∷ []) told e = let z : 112 ∷ 32 ∷ [] ≡ b ∷ [] = same_text (112 ∷ 32 ∷ []) (b ∷ []) (sym e ∙ told) in cc
  problem_head (b ∷ c ∷ line) told e =
      let z : 112 ∷ 32 ∷ [] ≡ b ∷ c ∷ [] = same_text (112 ∷ 32 ∷ []) (b ∷ c ∷ []) (sym e ∙ told) in
      (omega arith, cc, cc)

  module _ (line : List ℕ) (some : 1 ≤ length line) (told : r ≡ pointwise eqb (32 ∷ []) (drop (length line - 1) line)) where
    pub spaced_end : r ≡ true → get_or line (length line - 1) 0 ≡ code " "
    spaced_end e =
        let z : 32 ∷ [] ≡ get_or line (length line - 1) 0 ∷ [] = same_text (32 ∷ []) _ (sym e ∙ told) ∙ last_byte line some in
        cc

    pub closed_end : r ≡ false → get_or line (length line - 1) 0 ≡ code " " → ⊥
    closed_end e z = other_text (32 ∷ []) _ (sym e ∙ told) (sym (last_byte line some ∙ ap (λ (b : ℕ). b ∷ []) z))

-- a line that begins neither with `c` nor with `p` and a space
pub other_line : (line : List ℕ) → (get_or line 0 0 ≡ code "c" → ⊥) → Plain line
    → (2 ≤ length line → get_or line 1 0 ≡ code " " → get_or line 0 0 ≡ code "p" → ⊥) → LineRead line Unknown
other_line line other plain no_p = by (dec_lt (length line) 1) (dec_lt (length line) 2) (ℕ_discrete (get_or line 1 0) (code " "))
  where
    by : Dec (length line < 1) → Dec (length line < 2) → Dec (get_or line 1 0 ≡ code " ") → LineRead line Unknown
    by (yes h) two spaced = no_byte line h
    by (no h) (yes k) spaced = one_byte line (omega arith) other k
    by (no h) (no k) (no far) = long_head line (omega arith) other (omega arith) far
    by (no h) (no k) (yes spaced) = other_head line (omega arith) spaced other plain (no_p (omega arith) spaced)
