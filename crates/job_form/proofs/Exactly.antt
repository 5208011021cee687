-- Lines that may still be refused, both ways, and the claim as a whole.
use Prim.Native.Nat.{ℕ}
use mathlib.Core.Path.{◌≡◌, ap, subst}
use mathlib.Core.List.{List, [], ◌∷◌}
use Rattle.text.specs.Pieces.{parts}
use Rattle.text.specs.claims.Spelling.{Parted}
use Rattle.text.proofs.Spelling.{parts_parted, parted_parts}
use Rattle.job_form.specs.declared.tokens.Token.{Token}
use Rattle.job_form.specs.Tokens.{token_of}
use Rattle.job_form.specs.Forms.{list, job, row, words, opening, head_of, form_of}
use Rattle.job_form.specs.claims.Written.{list_part, job_part}
use Rattle.job_form.specs.claims.Exactly.{RowTokens, RowSaid, no_tokens, tokens, FormExactly, LinesExactly}
use Rattle.job_form.proofs.Spelled.{tokens_exactly}
use Rattle.job_form.proofs.RowWords.{row_tokens, tokens_words}
use Rattle.job_form.proofs.FormParts.{line_reads}
use Rattle.job_form.proofs.Written.{line_exactly}

row_said : (l : List ℕ) (ts : List Token) → form_of (parts l) ≡ row ts → RowSaid l ts
row_said l [] e = no_tokens (parts_parted l (line_reads l e))
row_said l (t ∷ ts) e =
    let (p, ps, are, is) = line_reads l e in
    tokens (parts_parted l are) (subst (λ (us : List Token). RowTokens (p ∷ ps) us) is (row_tokens p ps))

said_row : {l : List ℕ} {ts : List Token} → RowSaid l ts → form_of (parts l) ≡ row ts
unfolding form_of head_of opening words
said_row (no_tokens s) = rw (parted_parts s)
said_row (tokens {ps = []} s h) = absurd (none h)
  where
    none : {ts : List Token} → RowTokens [] ts → ⊥
    none = elim [ ]
said_row (tokens {ps = p ∷ ps} s h) = rw (parted_parts s) (ap row (tokens_words h))

list_said : (l : List ℕ) (t : Token) → form_of (parts l) ≡ list t → (p : List ℕ) × Parted l (list_part ∷ p ∷ []) × (token_of p ≡ t)
list_said l t e = let (p, are, is) = line_reads l e in (p, parts_parted l are, is)

said_list : (l : List ℕ) (t : Token) → (p : List ℕ) × Parted l (list_part ∷ p ∷ []) × (token_of p ≡ t) → form_of (parts l) ≡ list t
unfolding form_of head_of opening
said_list l t (p, s, is) = rw (parted_parts s, is)

job_said : (l : List ℕ) (t u : Token) → form_of (parts l) ≡ job t u
    → (p : List ℕ) × (q : List ℕ) × Parted l (job_part ∷ p ∷ q ∷ []) × (token_of p ≡ t) × (token_of q ≡ u)
job_said l t u e = let (p, q, are, is, named) = line_reads l e in (p, q, parts_parted l are, is, named)

said_job : (l : List ℕ) (t u : Token) → (p : List ℕ) × (q : List ℕ) × Parted l (job_part ∷ p ∷ q ∷ []) × (token_of p ≡ t) × (token_of q ≡ u)
    → form_of (parts l) ≡ job t u
unfolding form_of head_of opening
said_job l t u (p, q, s, is, named) = rw (parted_parts s, is, named)

forms_exactly : (l : List ℕ) → FormExactly l
forms_exactly l = record {
  any_list = λ t. (list_said l t, said_list l t);
  any_job = λ t u. (job_said l t u, said_job l t u);
  any_row = λ ts. (row_said l ts, λ s. said_row s);
}

pub lines_exactly : LinesExactly
lines_exactly = record { tokens = tokens_exactly; forms = forms_exactly; lines = line_exactly }
