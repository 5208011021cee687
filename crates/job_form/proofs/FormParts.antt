-- What the form that the reader finds says of the line's parts.
use Prim.Native.Nat.{ℕ}
use Prim.Native.Char.{code}
use native.Mathlib.Omega.{arith}
use mathlib.Core.Path.{◌≡◌, refl, ap, subst}
use mathlib.Core.Logic.{◌⊎◌, inl, inr}
use mathlib.Core.List.{List, [], ◌∷◌}
use mathlib.Core.Bool.{Bool, true, false, cond}
use lib.ListN.{get_or}
use lib.Dec.{eqb}
use borrow.Author.Tests.{eqb-true}
use Rattle.memory.specs.Lists.{same}
use Rattle.memory.proofs.Same.{same_equal}
use Rattle.text.specs.Ascii.{ascii}
use Rattle.text.specs.Pieces.{parts}
use Rattle.job_form.specs.declared.forms.Head.{Head}
use Rattle.job_form.specs.declared.forms.Head.TheVariants as head
use Rattle.job_form.specs.Tokens.{token_of}
use Rattle.job_form.specs.Forms.{Form, list, job, row, close, skipped, unknown, words, opening, head_of, form_for, form_of}
use Rattle.job_form.specs.claims.Written.{list_part, job_part, row_part, empty_row}

-- What the first part announces.
abbrev Announced : List ℕ → Head → Type 0
Announced p head.Comment = get_or p 0 0 ≡ code ";"
Announced p head.List = p ≡ list_part
Announced p head.Job = p ≡ job_part
Announced p head.Row = p ≡ row_part
Announced p head.EmptyRow = p ≡ empty_row
Announced p head.Close = p ≡ code ")" ∷ []
Announced p head.Unknown = Unit {0}

announced_by : (p : List ℕ) (b : Bool) (x y : Head) → (b ≡ true → Announced p x) → Announced p y → Announced p (cond b x y)
announced_by p true x y f g = f refl
announced_by p false x y f g = g

announced : (p : List ℕ) → Announced p (head_of p)
unfolding head_of opening
announced p =
    announced_by p (eqb (get_or p 0 0) (code ";")) head.Comment _ (λ e. eqb-true (get_or p 0 0) (code ";") e)
    (announced_by p (same p (ascii "(list")) head.List _ (λ e. same_equal p (ascii "(list") e)
    (announced_by p (same p (ascii "(job")) head.Job _ (λ e. same_equal p (ascii "(job") e)
    (announced_by p (same p (ascii "(row")) head.Row _ (λ e. same_equal p (ascii "(row") e)
    (announced_by p (same p (ascii "(row)")) head.EmptyRow _ (λ e. same_equal p (ascii "(row)") e)
    (announced_by p (same p (ascii ")")) head.Close head.Unknown (λ e. same_equal p (ascii ")") e) tt)))))

-- What a form says of the parts.
abbrev pub Reads : List (List ℕ) → Form → Type 0
Reads ps (list t) = (p : List ℕ) × (ps ≡ list_part ∷ p ∷ []) × (token_of p ≡ t)
Reads ps (job t u) = (p : List ℕ) × (q : List ℕ) × (ps ≡ job_part ∷ p ∷ q ∷ []) × (token_of p ≡ t) × (token_of q ≡ u)
Reads ps (row []) = ps ≡ empty_row ∷ []
Reads ps (row (t ∷ ts)) = (p : List ℕ) × (qs : List (List ℕ)) × (ps ≡ row_part ∷ p ∷ qs) × (words (p ∷ qs) ≡ t ∷ ts)
Reads ps close = ps ≡ (code ")" ∷ []) ∷ []
Reads ps skipped = (ps ≡ []) ⊎ ((p : List ℕ) × (qs : List (List ℕ)) × (ps ≡ (code ";" ∷ p) ∷ qs))
Reads ps unknown = Unit {0}

comment_part : (p : List ℕ) (ps : List (List ℕ)) → get_or p 0 0 ≡ code ";" → (q : List ℕ) × (qs : List (List ℕ)) × (p ∷ ps ≡ (code ";" ∷ q) ∷ qs)
comment_part [] ps e = absurd (omega (arith, e))
comment_part (b ∷ p) ps e = (p, ps, ap (λ (x : ℕ). (x ∷ p) ∷ ps) e)

reads_by : (p : List ℕ) (ps : List (List ℕ)) (h : Head) → Announced p h → Reads (p ∷ ps) (form_for h ps)
unfolding words
reads_by p ps head.Comment e = inr (comment_part p ps e)
reads_by p [] head.List e = tt
reads_by p (q ∷ []) head.List e = (q, ap (λ (x : List ℕ). x ∷ q ∷ []) e, refl)
reads_by p (q ∷ r ∷ ps) head.List e = tt
reads_by p [] head.Job e = tt
reads_by p (q ∷ []) head.Job e = tt
reads_by p (q ∷ r ∷ []) head.Job e = (q, r, ap (λ (x : List ℕ). x ∷ q ∷ r ∷ []) e, refl, refl)
reads_by p (q ∷ r ∷ s ∷ ps) head.Job e = tt
reads_by p [] head.Row e = tt
reads_by p (q ∷ ps) head.Row e = (q, ps, ap (λ (x : List ℕ). x ∷ q ∷ ps) e, refl)
reads_by p [] head.EmptyRow e = ap (λ (x : List ℕ). x ∷ []) e
reads_by p (q ∷ ps) head.EmptyRow e = tt
reads_by p [] head.Close e = ap (λ (x : List ℕ). x ∷ []) e
reads_by p (q ∷ ps) head.Close e = tt
reads_by p ps head.Unknown e = tt

reads : (ps : List (List ℕ)) → Reads ps (form_of ps)
unfolding form_of
reads [] = inl refl
reads (p ∷ ps) = reads_by p ps (head_of p) (announced p)

pub line_reads : (l : List ℕ) {f : Form} → form_of (parts l) ≡ f → Reads (parts l) f
line_reads l e = subst (λ (f : Form). Reads (parts l) f) e (reads (parts l))
