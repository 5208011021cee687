-- A text that is written as the grammar says is accepted.
use Prim.Native.Nat.{ℕ, suc, ◌+◌, ◌-◌, ◌<◌, ◌≤◌}
use native.Mathlib.Omega.{arith}
use mathlib.Core.Path.{◌≡◌, refl, sym, ap, ap₂, ◌∙◌}
use mathlib.Core.List.{List, [], ◌∷◌, ◌++◌, append-nil, append_assoc}
use mathlib.Core.Bool.{Bool, false, cond}
use lib.ListN.{length, length-append, length-map}
use lib.Dec.{eqb, leb}
use borrow.Author.Tests.{ne_eqb, eq-eqb, lt-leb}
use Rattle.semiring.specs.declared.Algebra.{Algebra}
use Rattle.semiring.specs.declared.Algebra.TheVariants.{Reach}
use Rattle.semiring.specs.Named.{number_of}
use Rattle.refusals.specs.Tests.{outside}
use Rattle.refusals.proofs.First.{within}
use Rattle.text.specs.Pieces.{parts}
use Rattle.job_form.specs.Words.{word_of}
use Rattle.job_form.specs.Forms.{form_of}
use Rattle.job_reading.specs.declared.state.Due.{Due}
use Rattle.job_reading.specs.declared.state.Due.TheVariants as due
use Rattle.job_reading.specs.Steps.{Progress, progress, start, Step, go, stop, step}
use Rattle.job_reading.specs.Reading.{Reading, refused, accepted, refusal, ended, follow}
use Rattle.job_reading.proofs.Insensitive.{follow_stop}
use Rattle.job_form.specs.claims.Written.{Written}
use Rattle.job_form.specs.claims.Written.{list as list_of, job as Job-of, row as row_of, close as Close-of}
use Rattle.job_grammar.specs.Texts.{InRange, Unskipped, none, skip, keep, RowsWritten, no_row, a_row, JobsWritten, no_job, a_job, ListWritten, listed}
use Rattle.job_form.proofs.Written.{list_written, job_written, row_written, close_written, skipped_written}

-- Skipped lines put in change no acceptance.
module _ (o : ℕ) (bs ns ws : List ℕ) where
  stopped : (i k : ℕ) (ls : List (List ℕ)) {X : Type 0} → follow i ls (stop k) ≡ accepted o bs ns ws → X
  stopped i k ls e =
      let f : refused (refusal k i) ≡ accepted o bs ns ws = sym (follow_stop i k ls) ∙ e in
      let z : ◌≡◌ {A = ℕ} 0 1 = cc in absurd (omega arith)

  ended_too : (d : Due) (i j : ℕ) (p : Progress) → ended d j p ≡ accepted o bs ns ws → ended d i p ≡ accepted o bs ns ws
  ended_too due.List i j p e = let z : ◌≡◌ {A = ℕ} 0 1 = cc in absurd (omega arith)
  ended_too due.Job i j p e = let z : ◌≡◌ {A = ℕ} 0 1 = cc in absurd (omega arith)
  ended_too due.Row i j p e = let z : ◌≡◌ {A = ℕ} 0 1 = cc in absurd (omega arith)
  ended_too due.Close i j p e = let z : ◌≡◌ {A = ℕ} 0 1 = cc in absurd (omega arith)
  ended_too due.Nothing i j p e = e

  pub with_skipped : {ls fs : List (List ℕ)} → Unskipped ls fs → (i j : ℕ) (t : Step) → follow j fs t ≡ accepted o bs ns ws
      → follow i ls t ≡ accepted o bs ns ws
  unfolding follow step
  with_skipped none i j (go p) e = ended_too p.due i j p e
  with_skipped none i j (stop k) e = stopped j k [] e
  with_skipped (skip w r) i j (go p) e = rw (skipped_written w) (with_skipped r (suc i) j (go p) e)
  with_skipped (skip {ks = ks} w r) i j (stop k) e = stopped j k ks e
  with_skipped (keep {l} r) i j (go p) e = with_skipped r (suc i) (suc j) (step p (form_of (parts l))) e
  with_skipped (keep {l} {ks = ks} r) i j (stop k) e = stopped j k (l ∷ ks) e

-- A line leads to what its form does.
follow_by : (i : ℕ) (l : List ℕ) (ls : List (List ℕ)) (p : Progress) {t : Step} → step p (form_of (parts l)) ≡ t
    → follow i (l ∷ ls) (go p) ≡ follow (suc i) ls t
unfolding follow
follow_by i l ls p e = ap (λ (t : Step). follow (suc i) ls t) e

-- Forms in order lead to what follows them.
module _ (order : ℕ) (x : Reading) where
  abbrev at : Due → Algebra → ℕ → ℕ → List ℕ → List ℕ → List ℕ → Step
  at d a size left gs ss vs = go (progress d order a size left gs ss vs)

  row_step : {a : Algebra} {l : List ℕ} {us : List ℕ} (size left : ℕ) (gs ss vs : List ℕ) → Written l (row_of a us) → length us ≡ size
      → step (progress due.Row order a size left gs ss vs) (form_of (parts l)) ≡ at (cond (leb left 1) due.Close due.Row) a size (left - 1) gs ss (vs ++ us)
  unfolding step
  row_step {a} {l} {us} size left gs ss vs w long =
      let (ts, is, h) = row_written w in
      let counted : length ts ≡ size = sym (length-map ts (word_of a)) ∙ ap length h.are ∙ long in
      rw (is, h.each_word, h.none_over, h.none_above, h.are, eq-eqb (length ts) size counted)

  rows_lead : {a : Algebra} {size m : ℕ} {rs : List (List ℕ)} {us : List ℕ} → RowsWritten a size m rs us → 1 ≤ m
      → (i : ℕ) (gs ss vs : List ℕ) (rest : List (List ℕ)) → ((j left : ℕ) → follow j rest (at due.Close a size left gs ss (vs ++ us)) ≡ x)
      → follow i (rs ++ rest) (at due.Row a size m gs ss vs) ≡ x
  rows_lead no_row some i gs ss vs rest then = absurd (omega arith)
  rows_lead {size = size} (a_row {l} {ws = us} w long no_row) some i gs ss vs rest then =
      follow_by i l rest _ (row_step size 1 gs ss vs w long) ∙ (rw (append-nil us) at (then (suc i) 0))
  rows_lead {a} {size} (a_row {l} {ls} {ws = us} {vs = us'} w long (a_row {m = m} v k more)) some i gs ss vs rest then =
      let less : suc (suc m) - 1 ≡ suc m = omega arith in
      let two : leb (suc (suc m)) 1 ≡ false = lt-leb (suc (suc m)) 1 (omega arith) in
      follow_by i l (ls ++ rest) _
      (row_step size (suc (suc m)) gs ss vs w long
      ∙ ap₂ (λ (b : Bool) (n : ℕ). at (cond b due.Close due.Row) a size n gs ss (vs ++ us)) two less)
      ∙ rows_lead (a_row v k more) (omega arith) (suc i) gs ss (vs ++ us) rest
      (λ j left. rw (append_assoc vs us us') (then j left))

  job_step : (a : Algebra) {b : Algebra} {l : List ℕ} {n : ℕ} (size left : ℕ) (gs ss vs : List ℕ) → Written l (Job-of n b) → InRange order n → length ss < 16
      → step (progress due.Job order a size left gs ss vs) (form_of (parts l)) ≡ at due.Row b n n (gs ++ (number_of b ∷ [])) (ss ++ (n ∷ [])) vs
  unfolding step
  job_step a {n = n} size left gs ss vs w range few =
      let fits : outside 1 order n ≡ false = within 1 order n range.0 range.1 in
      rw (job_written w, fits, lt-leb 16 (length ss) few)

  close_step : {l : List ℕ} (a : Algebra) (size left : ℕ) (gs ss vs : List ℕ) → Written l Close-of
      → step (progress due.Close order a size left gs ss vs) (form_of (parts l)) ≡ at due.Job a size left gs ss vs
  unfolding step
  close_step a size left gs ss vs w = rw (close_written w)

  jobs_lead : {js : List (List ℕ)} {cs ms us : List ℕ} → JobsWritten order js cs ms us
      → (i : ℕ) (a : Algebra) (size left : ℕ) (gs ss vs : List ℕ) (rest : List (List ℕ)) → length ss + length ms ≤ 16
      → ((j : ℕ) (b : Algebra) (n k : ℕ) → follow j rest (at due.Job b n k (gs ++ cs) (ss ++ ms) (vs ++ us)) ≡ x)
      → follow i (js ++ rest) (at due.Job a size left gs ss vs) ≡ x
  jobs_lead no_job i a size left gs ss vs rest few then =
      rw (append-nil gs, append-nil ss, append-nil vs) at (then i a size left)
  jobs_lead (a_job {l} {r} {rs} {ls} {n} {a = b} {ws = us} {bs = cs} {ns = ms} {vs = us'} w range rows end jobs) i a size left gs ss vs rest few then =
      let long : length (ss ++ (n ∷ [])) ≡ length ss + 1 = length-append ss (n ∷ []) in
      follow_by i l ((rs ++ r ∷ ls) ++ rest) _ (job_step a size left gs ss vs w range (omega arith))
      ∙ ap (λ (ks : List (List ℕ)). follow (suc i) ks (at due.Row b n n (gs ++ (number_of b ∷ [])) (ss ++ (n ∷ [])) vs)) (append_assoc rs (r ∷ ls) rest)
      ∙ rows_lead rows range.0 (suc i) (gs ++ (number_of b ∷ [])) (ss ++ (n ∷ [])) vs (r ∷ (ls ++ rest))
      (λ j left'. follow_by j r (ls ++ rest) _ (close_step b n left' (gs ++ (number_of b ∷ [])) (ss ++ (n ∷ [])) (vs ++ us) end)
      ∙ jobs_lead jobs (suc j) b n left' (gs ++ (number_of b ∷ [])) (ss ++ (n ∷ [])) (vs ++ us) rest (omega arith)
      (λ j' b' n' k'.
      rw (append_assoc gs (number_of b ∷ []) cs, append_assoc ss (n ∷ []) ms, append_assoc vs us us') (then j' b' n' k')))

list_step : {l : List ℕ} {n : ℕ} → Written l (list_of n) → InRange 32 n → step start (form_of (parts l)) ≡ go (progress due.Job n Reach 0 0 [] [] [])
unfolding step
list_step {l} {n} w range =
    let fits : outside 1 32 n ≡ false = within 1 32 n range.0 range.1 in
    rw (list_written w, fits)

list_end_step : {l : List ℕ} (order : ℕ) (a : Algebra) (size left : ℕ) (gs ss vs : List ℕ) → Written l Close-of → 1 ≤ length ss
    → step (progress due.Job order a size left gs ss vs) (form_of (parts l)) ≡ go (progress due.Nothing order a size left gs ss vs)
unfolding step
list_end_step order a size left gs ss vs w some =
    let differ : eqb (length ss) 0 ≡ false = ne_eqb (length ss) 0 (λ e. omega arith) in
    rw (close_written w, differ)

follow_end : (i : ℕ) (p : Progress) → follow i [] (go p) ≡ ended p.due i p
unfolding follow
follow_end i p = refl

pub listed_accepted : {fs : List (List ℕ)} {o : ℕ} {bs ns ws : List ℕ} → ListWritten fs o bs ns ws → follow 0 fs (go start) ≡ accepted o bs ns ws
listed_accepted (listed {l} {r} {ls} {order = o} {bs} {ns} {ws} w range jobs count end) =
    follow_by 0 l (ls ++ (r ∷ [])) start (list_step w range)
    ∙ jobs_lead o (accepted o bs ns ws) jobs 1 Reach 0 0 [] [] [] (r ∷ []) (omega (arith, count.1))
    (λ j b n k. follow_by j r [] _ (list_end_step o b n k bs ns ws end count.0) ∙ follow_end (suc j) (progress due.Nothing o b n k bs ns ws))
