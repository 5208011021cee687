-- A line that no test of its parts refuses, both ways: the form that the reader finds, and what is written.
use Prim.Native.Nat.{ℕ}
use mathlib.Core.Path.{◌≡◌, refl, sym, subst}
use mathlib.Core.Logic.{inl, inr}
use mathlib.Core.List.{List, [], ◌∷◌, map}
use Rattle.semiring.specs.declared.Algebra.{Algebra}
use Rattle.text.specs.Pieces.{parts}
use Rattle.text.proofs.Spelling.{parts_parted, parted_parts}
use Rattle.job_form.specs.declared.tokens.Token.{Token}
use Rattle.job_form.specs.declared.tokens.Token.TheVariants.{Number, Name}
use Rattle.job_form.specs.Words.{word_of}
use Rattle.job_form.specs.Forms.{list, job, row, close, skipped, words, opening, head_of, form_of}
use Rattle.job_form.specs.claims.Written.{Words, Written, list_line, job_line, row_line, empty-row, lone_bracket, blank, comment}
use Rattle.job_form.specs.claims.Written.{list as list_of, job as Job-of, row as row_of, close as Close-of, skipped as skipped-of}
use Rattle.job_form.specs.claims.Exactly.{RowPasses, LineExactly}
use Rattle.job_form.proofs.Spelled.{Spelled, token_spelled, numeral_token_lem, name_token}
use Rattle.job_form.proofs.RowWords.{no_tokens, row_words, words_row}
use Rattle.job_form.proofs.FormParts.{Reads, line_reads}

pub written_list : (l : List ℕ) {n : ℕ} → form_of (parts l) ≡ list (Number n) → Written l (list_of n)
written_list l e =
    let (p, are, is) = line_reads l e in
    list_line (parts_parted l are) (subst (λ (t : Token). Spelled p t) is (token_spelled p))

pub written_job : (l : List ℕ) {n : ℕ} {a : Algebra} → form_of (parts l) ≡ job (Number n) (Name a) → Written l (Job-of n a)
written_job l e =
    let (p, q, are, is, named) = line_reads l e in
    job_line (parts_parted l are) (subst (λ (t : Token). Spelled p t) is (token_spelled p)) (subst (λ (t : Token). Spelled q t) named (token_spelled q))

pub written_row : (l : List ℕ) {a : Algebra} (ts : List Token) → form_of (parts l) ≡ row ts → RowPasses a ts (map (word_of a) ts)
    → Written l (row_of a (map (word_of a) ts))
written_row l [] e h = empty-row (parts_parted l (line_reads l e))
written_row l {a} (t ∷ ts) e h =
    let (p, ps, are, is) = line_reads l e in
    row_line (parts_parted l are)
    (subst (λ (us : List Token). Words a (p ∷ ps) (map (word_of a) us)) is
    (row_words p ps (subst (λ (us : List Token). RowPasses a us (map (word_of a) us)) (sym is) h)))

pub written_close : (l : List ℕ) → form_of (parts l) ≡ close → Written l Close-of
written_close l e = lone_bracket (parts_parted l (line_reads l e))

pub written_skipped : (l : List ℕ) → form_of (parts l) ≡ skipped → Written l skipped-of
written_skipped l e = by (line_reads l e)
  where
    by : Reads (parts l) skipped → Written l skipped-of
    by (inl none) = blank (parts_parted l none)
    by (inr (p, ps, are)) = comment (parts_parted l are)

pub list_written : {l : List ℕ} {n : ℕ} → Written l (list_of n) → form_of (parts l) ≡ list (Number n)
unfolding form_of head_of opening
list_written (list_line s h) = rw (parted_parts s, numeral_token_lem h)

pub job_written : {l : List ℕ} {n : ℕ} {a : Algebra} → Written l (Job-of n a) → form_of (parts l) ≡ job (Number n) (Name a)
unfolding form_of head_of opening
job_written (job_line s h k) = rw (parted_parts s, numeral_token_lem h, name_token k)

pub row_written : {l : List ℕ} {a : Algebra} {ws : List ℕ} → Written l (row_of a ws) → (ts : List Token) × (form_of (parts l) ≡ row ts) × RowPasses a ts ws
unfolding form_of head_of opening words
row_written (row_line {ps = []} s h) = absurd (no_words h)
  where
    no_words : {a : Algebra} {ws : List ℕ} → Words a [] ws → ⊥
    no_words = elim [ ]
row_written (row_line {ps = p ∷ ps} s h) = (words (p ∷ ps), rw (parted_parts s), words_row h)
row_written (empty-row s) = ([], rw (parted_parts s), no_tokens)

pub close_written : {l : List ℕ} → Written l Close-of → form_of (parts l) ≡ close
unfolding form_of head_of opening
close_written (lone_bracket s) = rw (parted_parts s)

pub skipped_written : {l : List ℕ} → Written l skipped-of → form_of (parts l) ≡ skipped
unfolding form_of head_of
skipped_written (blank s) = rw (parted_parts s)
skipped_written (comment s) = rw (parted_parts s)

row_exactly : (l : List ℕ) {a : Algebra} {ws : List ℕ} → (ts : List Token) × (form_of (parts l) ≡ row ts) × RowPasses a ts ws → Written l (row_of a ws)
row_exactly l {a} (ts, e, h) =
    subst (λ (x : List ℕ). Written l (row_of a x)) h.are
    (written_row l ts e (record { each_word = h.each_word; none_over = h.none_over; none_above = h.none_above; are = refl }))

pub line_exactly : (l : List ℕ) → LineExactly l
line_exactly l = record {
  says_list = λ n. (λ e. written_list l e, λ w. list_written w);
  says_job = λ n a. (λ e. written_job l e, λ w. job_written w);
  says_row = λ a ws. (λ h. row_exactly l h, λ w. row_written w);
  says_close = (λ e. written_close l e, λ w. close_written w);
  says_skipped = (λ e. written_skipped l e, λ w. skipped_written w);
}
