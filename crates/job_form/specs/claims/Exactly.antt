-- What the reader takes a line's parts and the line for, and what their bytes say: each exactly where the other.
use Rattle.std.specs.Prelude.{ℕ, ◌≡◌, ◌≢◌, ◌↔◌, List, [], ◌∷◌, ◌++◌, map, false}
use Prim.Native.Char.{code}
use Rattle.semiring.specs.declared.Algebra.{Algebra}
use Rattle.semiring.specs.Algebra.{top_of}
use Rattle.semiring.specs.Words.{any_above}
use Rattle.memory.specs.Lists.{any}
use Rattle.text.specs.Pieces.{parts}
use Rattle.text.specs.claims.Spelling.{Parted}
use Rattle.job_form.specs.declared.tokens.Token.{Token}
use Rattle.job_form.specs.declared.tokens.Token.TheVariants.{Number, Over, Dash, Name, Other}
use Rattle.job_form.specs.Tokens.{token_of}
use Rattle.job_form.specs.Words.{word_of, over_in, no_word}
use Rattle.job_form.specs.Forms as read
use Rattle.job_form.specs.claims.Written.{NumberOf, OverNumeral, Named, list, job, row, close, skipped, list_part, job_part, row_part, empty_row, Written}

-- A part.
pub record TokenExactly (p : List ℕ) : Type 0 where
  pub number : (n : ℕ) → (token_of p ≡ Number n) ↔ NumberOf p n
  pub over : (token_of p ≡ Over) ↔ OverNumeral p
  pub dash : (token_of p ≡ Dash) ↔ (p ≡ code "-" ∷ [])
  pub named : (a : Algebra) → (token_of p ≡ Name a) ↔ Named p a

-- What the parts after `(row` stand for, words or not; of the last what stands before its bracket.
pub data RowTokens : List (List ℕ) → List Token → Type 0 where
  closed : (p : List ℕ) → RowTokens ((p ++ (code ")" ∷ [])) ∷ []) (token_of p ∷ [])
  unclosed : {p : List ℕ} → ((q : List ℕ) → p ≢ q ++ (code ")" ∷ [])) → RowTokens (p ∷ []) (Other ∷ [])
  token : {p : List ℕ} {ps : List (List ℕ)} {ts : List Token} → RowTokens ps ts → RowTokens (p ∷ ps) (token_of p ∷ ts)

pub data RowSaid (l : List ℕ) : List Token → Type 0 where
  no_tokens : Parted l (empty_row ∷ []) → RowSaid l []
  tokens : {ps : List (List ℕ)} {ts : List Token} → Parted l (row_part ∷ ps) → RowTokens ps ts → RowSaid l ts

-- A list's, a job's or a row's line that may still be refused: so 14, that it is none of them, rests on its bytes too.
pub record FormExactly (l : List ℕ) : Type 0 where
  pub any_list : (t : Token) → (read.form_of (parts l) ≡ read.list t) ↔ ((p : List ℕ) × Parted l (list_part ∷ p ∷ []) × (token_of p ≡ t))
  pub any_job :
      (t u : Token)
      → (read.form_of (parts l) ≡ read.job t u)
      ↔ ((p : List ℕ) × (q : List ℕ) × Parted l (job_part ∷ p ∷ q ∷ []) × (token_of p ≡ t) × (token_of q ≡ u))
  pub any_row : (ts : List Token) → (read.form_of (parts l) ≡ read.row ts) ↔ RowSaid l ts

-- Tokens of a row that pass its tests 14, 15 and 5, and their words.
pub record RowPasses (a : Algebra) (ts : List Token) (ws : List ℕ) : Type 0 where
  pub each_word : any no_word ts ≡ false
  pub none_over : any (over_in a) ts ≡ false
  pub none_above : any_above (top_of a) (map (word_of a) ts) ≡ false
  pub are : map (word_of a) ts ≡ ws

-- A line that no test of its parts refuses.
pub record LineExactly (l : List ℕ) : Type 0 where
  pub says_list : (n : ℕ) → (read.form_of (parts l) ≡ read.list (Number n)) ↔ Written l (list n)
  pub says_job : (n : ℕ) (a : Algebra) → (read.form_of (parts l) ≡ read.job (Number n) (Name a)) ↔ Written l (job n a)
  pub says_row :
      (a : Algebra) (ws : List ℕ)
      → ((ts : List Token) × (read.form_of (parts l) ≡ read.row ts) × RowPasses a ts ws) ↔ Written l (row a ws)
  pub says_close : (read.form_of (parts l) ≡ read.close) ↔ Written l close
  pub says_skipped : (read.form_of (parts l) ≡ read.skipped) ↔ Written l skipped

pub record LinesExactly : Type 0 where
  pub tokens : (p : List ℕ) → TokenExactly p
  pub forms : (l : List ℕ) → FormExactly l
  pub lines : (l : List ℕ) → LineExactly l
