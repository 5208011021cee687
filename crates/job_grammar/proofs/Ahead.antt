-- What lies ahead in an accepted text is written as the grammar says, line after line.
use Prim.Native.Nat.{ℕ, zero, suc, ◌-◌, ◌≤◌}
use native.Mathlib.Omega.{arith}
use mathlib.Core.Path.{◌≡◌, refl, sym, ap, subst, ◌∙◌}
use mathlib.Core.List.{List, [], ◌∷◌, ◌++◌, map, append-nil, append_assoc}
use mathlib.Core.Bool.{Bool, true, false, cond}
use lib.ListN.{length, length-map}
use lib.Dec.{leb}
use borrow.Author.Tests.{eqb-false, leb-true, leb-false}
use Rattle.semiring.specs.declared.Algebra.{Algebra}
use Rattle.semiring.specs.Named.{number_of}
use Rattle.refusals.specs.Tests.{first}
use Rattle.refusals.proofs.First.{none_applied, inside, equal}
use Rattle.text.specs.Pieces.{parts}
use Rattle.job_form.specs.declared.tokens.Token.TheVariants.{Number, Over, Dash, Name, Other}
use Rattle.job_form.specs.Words.{word_of}
use Rattle.job_form.specs.Forms.{Form, list, job, row, close, skipped, unknown, form_of}
use Rattle.job_reading.specs.declared.state.Due.{Due}
use Rattle.job_reading.specs.declared.state.Due.TheVariants as due
use Rattle.job_reading.specs.Steps.{Progress, progress, start, tests, after, row_tests, job_tests, list_tests, list_end_tests, Step, go, proceed, step}
use Rattle.job_reading.specs.Reading.{refused, accepted, refusal, ended, follow}
use Rattle.job_reading.proofs.Insensitive.{follow_stop}
use Rattle.job_form.specs.claims.Written.{Written}
use Rattle.job_form.specs.claims.Written.{list as list_of, job as Job-of, row as row_of, close as Close-of, skipped as skipped-of}
use Rattle.job_grammar.specs.Texts.{InRange, Unskipped, none, skip, keep, RowsWritten, no_row, a_row, JobsWritten, no_job, a_job}
use Rattle.job_form.proofs.Written.{written_list, written_job, written_row, written_close, written_skipped}

module _ (o : ℕ) (bs ns ws : List ℕ) where
  abbrev Accepts : ℕ → List (List ℕ) → Step → Type 0
  Accepts i ls t = follow i ls t ≡ accepted o bs ns ws

  -- The forms that are due where a job or the list's end is, after jobs with those algebras, sizes and words.
  pub record Tail (fs : List (List ℕ)) (order : ℕ) (gs ss vs : List ℕ) : Type 0 where
    pub forms : List (List ℕ)
    pub end : List ℕ
    pub cs : List ℕ
    pub ms : List ℕ
    pub us : List ℕ
    pub shape : fs ≡ forms ++ (end ∷ [])
    pub jobs : JobsWritten order forms cs ms us
    pub closed : Written end Close-of
    pub order_is : order ≡ o
    pub algebras_are : gs ++ cs ≡ bs
    pub sizes_are : ss ++ ms ≡ ns
    pub words_are : vs ++ us ≡ ws
    pub some : 1 ≤ length ns

  pub record ListAhead (ls : List (List ℕ)) (gs ss vs : List ℕ) : Type 0 where
    pub line : List ℕ
    pub fs : List (List ℕ)
    pub kept : Unskipped ls (line ∷ fs)
    pub written : Written line (list_of o)
    pub range : InRange 32 o
    pub tail : Tail fs o gs ss vs

  record JobAhead (ls : List (List ℕ)) (order : ℕ) (gs ss vs : List ℕ) : Type 0 where
    fs : List (List ℕ)
    kept : Unskipped ls fs
    tail : Tail fs order gs ss vs

  record CloseAhead (ls : List (List ℕ)) (order : ℕ) (gs ss vs : List ℕ) : Type 0 where
    line : List ℕ
    fs : List (List ℕ)
    kept : Unskipped ls (line ∷ fs)
    written : Written line Close-of
    tail : Tail fs order gs ss vs

  record RowAhead (ls : List (List ℕ)) (order : ℕ) (a : Algebra) (size left : ℕ) (gs ss vs : List ℕ) : Type 0 where
    rs : List (List ℕ)
    line : List ℕ
    fs : List (List ℕ)
    us : List ℕ
    kept : Unskipped ls (rs ++ line ∷ fs)
    rows : RowsWritten a size left rs us
    written : Written line Close-of
    tail : Tail fs order gs ss (vs ++ us)

  record NoneAhead (ls : List (List ℕ)) (order : ℕ) (gs ss vs : List ℕ) : Type 0 where
    kept : Unskipped ls []
    order_is : order ≡ o
    algebras_are : gs ≡ bs
    sizes_are : ss ≡ ns
    words_are : vs ≡ ws

  abbrev Ahead : Due → List (List ℕ) → ℕ → Algebra → ℕ → ℕ → List ℕ → List ℕ → List ℕ → Type 0
  Ahead due.List ls order a size left gs ss vs = ListAhead ls gs ss vs
  Ahead due.Job ls order a size left gs ss vs = JobAhead ls order gs ss vs
  Ahead due.Row ls order a size left gs ss vs = RowAhead ls order a size left gs ss vs
  Ahead due.Close ls order a size left gs ss vs = CloseAhead ls order gs ss vs
  Ahead due.Nothing ls order a size left gs ss vs = NoneAhead ls order gs ss vs

  -- A row is due only where one is left.
  abbrev LeftIn : Due → ℕ → Type 0
  LeftIn due.List left = Unit {0}
  LeftIn due.Job left = Unit {0}
  LeftIn due.Row left = 1 ≤ left
  LeftIn due.Close left = Unit {0}
  LeftIn due.Nothing left = Unit {0}

  go_on : (i : ℕ) (ls : List (List ℕ)) (k : ℕ) (q : Progress) → Accepts i ls (proceed k q) → (k ≡ 0) × Accepts i ls (go q)
  go_on i ls zero q e = (refl, e)
  go_on i ls (suc k) q e = let f : refused (refusal (suc k) i) ≡ accepted o bs ns ws = sym (follow_stop i (suc k) ls) ∙ e in
      let z : ◌≡◌ {A = ℕ} 0 1 = cc in absurd (omega arith)

  module _ (l : List ℕ) (ls : List (List ℕ)) (order : ℕ) (a : Algebra) (size left : ℕ) (gs ss vs : List ℕ) where
    abbrev at : Due → Progress
    at d = progress d order a size left gs ss vs

    skipped_ahead : (d : Due) → Written l skipped-of → Ahead d ls order a size left gs ss vs → Ahead d (l ∷ ls) order a size left gs ss vs
    skipped_ahead due.List w h = record { line = h.line; fs = h.fs; kept = skip w h.kept; written = h.written; range = h.range; tail = h.tail }
    skipped_ahead due.Job w h = record { fs = h.fs; kept = skip w h.kept; tail = h.tail }
    skipped_ahead due.Row w h =
        record { rs = h.rs; line = h.line; fs = h.fs; us = h.us; kept = skip w h.kept; rows = h.rows; written = h.written; tail = h.tail }
    skipped_ahead due.Close w h = record { line = h.line; fs = h.fs; kept = skip w h.kept; written = h.written; tail = h.tail }
    skipped_ahead due.Nothing w h = record {
      kept = skip w h.kept;
      order_is = h.order_is;
      algebras_are = h.algebras_are;
      sizes_are = h.sizes_are;
      words_are = h.words_are;
    }

    list_ahead : (n : ℕ) → Written l (list_of n) → first 0 (list_tests (Number n)) ≡ 0 → JobAhead ls n gs ss vs → ListAhead (l ∷ ls) gs ss vs
    list_ahead n w e h =
        let (numeral, (over, (range, more))) = none_applied (list_tests (Number n)) refl e in
        let is : n ≡ o = h.tail.order_is in
        record {
          line = l;
          fs = h.fs;
          kept = keep h.kept;
          written = subst (λ (x : ℕ). Written l (list_of x)) is w;
          range = subst (λ (x : ℕ). InRange 32 x) is (inside range);
          tail = subst (λ (x : ℕ). Tail h.fs x gs ss vs) is h.tail;
        }

    job_ahead : (n : ℕ) (b : Algebra) → Written l (Job-of n b) → InRange order n
        → RowAhead ls order b n n (gs ++ (number_of b ∷ [])) (ss ++ (n ∷ [])) vs → JobAhead (l ∷ ls) order gs ss vs
    job_ahead n b w range h =
        let t = h.tail in
        record {
          fs = l ∷ (h.rs ++ h.line ∷ h.fs);
          kept = keep h.kept;
          tail = record {
            forms = l ∷ (h.rs ++ h.line ∷ t.forms);
            end = t.end;
            cs = number_of b ∷ t.cs;
            ms = n ∷ t.ms;
            us = h.us ++ t.us;
            shape = ap (λ (x : List (List ℕ)). l ∷ (h.rs ++ h.line ∷ x)) t.shape
                ∙ ap (λ (x : List (List ℕ)). l ∷ x) (sym (append_assoc h.rs (h.line ∷ t.forms) (t.end ∷ [])));
            jobs = a_job w range h.rows h.written t.jobs;
            closed = t.closed;
            order_is = t.order_is;
            algebras_are = sym (append_assoc gs (number_of b ∷ []) t.cs) ∙ t.algebras_are;
            sizes_are = sym (append_assoc ss (n ∷ []) t.ms) ∙ t.sizes_are;
            words_are = sym (append_assoc vs h.us t.us) ∙ t.words_are;
            some = t.some;
          };
        }

    list_end_ahead : Written l Close-of → first 0 (list_end_tests (length ss)) ≡ 0 → NoneAhead ls order gs ss vs → JobAhead (l ∷ ls) order gs ss vs
    list_end_ahead w e h =
        let (some, more) = none_applied (list_end_tests (length ss)) refl e in
        let differ : length ss ≡ 0 → ⊥ = eqb-false (length ss) 0 some in
        let long : length ss ≡ length ns = ap length h.sizes_are in
        record {
          fs = l ∷ [];
          kept = keep h.kept;
          tail = record {
            forms = [];
            end = l;
            cs = [];
            ms = [];
            us = [];
            shape = refl;
            jobs = no_job;
            closed = w;
            order_is = h.order_is;
            algebras_are = append-nil gs ∙ h.algebras_are;
            sizes_are = append-nil ss ∙ h.sizes_are;
            words_are = append-nil vs ∙ h.words_are;
            some = rw (← long) (positive (length ss) differ);
          };
        }
      where
        positive : (n : ℕ) → (n ≡ 0 → ⊥) → 1 ≤ n
        positive n h = omega arith

    close_ahead : Written l Close-of → JobAhead ls order gs ss vs → CloseAhead (l ∷ ls) order gs ss vs
    close_ahead w h = record { line = l; fs = h.fs; kept = keep h.kept; written = w; tail = h.tail }

    row_ahead : (us : List ℕ) → Written l (row_of a us) → length us ≡ size → 1 ≤ left → (b : Bool) → leb left 1 ≡ b
        → Ahead (cond b due.Close due.Row) ls order a size (left - 1) gs ss (vs ++ us)
        → RowAhead (l ∷ ls) order a size left gs ss vs
    row_ahead us w long some true e h =
        let one : suc 0 ≡ left = omega (arith, leb-true left 1 e) in
        record {
          rs = l ∷ [];
          line = h.line;
          fs = h.fs;
          us = us ++ [];
          kept = keep h.kept;
          rows = subst (λ (m : ℕ). RowsWritten a size m (l ∷ []) (us ++ [])) one (a_row w long no_row);
          written = h.written;
          tail = subst (λ (x : List ℕ). Tail h.fs order gs ss (vs ++ x)) (sym (append-nil us)) h.tail;
        }
    row_ahead us w long some false e h =
        let more : suc (left - 1) ≡ left = omega arith in
        record {
          rs = l ∷ h.rs;
          line = h.line;
          fs = h.fs;
          us = us ++ h.us;
          kept = keep h.kept;
          rows = subst (λ (m : ℕ). RowsWritten a size m (l ∷ h.rs) (us ++ h.us)) more (a_row w long h.rows);
          written = h.written;
          tail = subst (λ (x : List ℕ). Tail h.fs order gs ss x) (append_assoc vs us h.us) h.tail;
        }

    left_after : (b : Bool) → leb left 1 ≡ b → 1 ≤ left → LeftIn (cond b due.Close due.Row) (left - 1)
    left_after true e h = tt
    left_after false e h = omega (arith, leb-false left 1 e)

    module _ (i : ℕ) (later : (q : Progress) → LeftIn q.due q.left → Accepts i ls (go q)
        → Ahead q.due ls q.order q.algebra q.size q.left q.algebras q.sizes q.weights) where
      line_ahead : (d : Due) (f : Form) → form_of (parts l) ≡ f → LeftIn d left → tests (at d) f ≡ 0 → Accepts i ls (go (after (at d) f))
          → Ahead d (l ∷ ls) order a size left gs ss vs
      line_ahead d skipped e h k r = skipped_ahead d (written_skipped l e) (later (at d) h r)
      line_ahead due.List (list (Number n)) e h k r = list_ahead n (written_list l e) k (later (after (at due.List) (list (Number n))) tt r)
      line_ahead due.List (list Over) e h k r = absurd (omega arith)
      line_ahead due.List (list Dash) e h k r = absurd (omega arith)
      line_ahead due.List (list (Name b)) e h k r = absurd (omega arith)
      line_ahead due.List (list Other) e h k r = absurd (omega arith)
      line_ahead due.Job (job (Number n) (Name b)) e h k r =
          let (numeral, (named, (over, (range, more)))) = none_applied (job_tests order (length ss) (Number n) (Name b)) refl k in
          job_ahead n b (written_job l e) (inside range) (later (after (at due.Job) (job (Number n) (Name b))) (inside range).0 r)
      line_ahead due.Job (job (Number n) (Number m)) e h k r = absurd (omega arith)
      line_ahead due.Job (job (Number n) Over) e h k r = absurd (omega arith)
      line_ahead due.Job (job (Number n) Dash) e h k r = absurd (omega arith)
      line_ahead due.Job (job (Number n) Other) e h k r = absurd (omega arith)
      line_ahead due.Job (job Over (Name b)) e h k r = absurd (omega arith)
      line_ahead due.Job (job Over (Number m)) e h k r = absurd (omega arith)
      line_ahead due.Job (job Over Over) e h k r = absurd (omega arith)
      line_ahead due.Job (job Over Dash) e h k r = absurd (omega arith)
      line_ahead due.Job (job Over Other) e h k r = absurd (omega arith)
      line_ahead due.Job (job Dash u) e h k r = absurd (omega arith)
      line_ahead due.Job (job (Name b) u) e h k r = absurd (omega arith)
      line_ahead due.Job (job Other u) e h k r = absurd (omega arith)
      line_ahead due.Job close e h k r = list_end_ahead (written_close l e) k (later (after (at due.Job) close) tt r)
      line_ahead due.Row (row ts) e h k r =
          let (each, (over, (long, (above, more)))) = none_applied (row_tests a size ts) refl k in
          row_ahead (map (word_of a) ts)
          (written_row l ts e (record { each_word = each; none_over = over; none_above = above; are = refl }))
          (length-map ts (word_of a) ∙ equal (length ts) size long) h (leb left 1) refl
          (later (after (at due.Row) (row ts)) (left_after (leb left 1) refl h) r)
      line_ahead due.Close close e h k r = close_ahead (written_close l e) (later (after (at due.Close) close) tt r)
      line_ahead due.List (job t u) e h k r = absurd (omega arith)
      line_ahead due.List (row ts) e h k r = absurd (omega arith)
      line_ahead due.List close e h k r = absurd (omega arith)
      line_ahead due.List unknown e h k r = absurd (omega arith)
      line_ahead due.Job (list t) e h k r = absurd (omega arith)
      line_ahead due.Job (row ts) e h k r = absurd (omega arith)
      line_ahead due.Job unknown e h k r = absurd (omega arith)
      line_ahead due.Row (list t) e h k r = absurd (omega arith)
      line_ahead due.Row (job t u) e h k r = absurd (omega arith)
      line_ahead due.Row close e h k r = absurd (omega arith)
      line_ahead due.Row unknown e h k r = absurd (omega arith)
      line_ahead due.Close (list t) e h k r = absurd (omega arith)
      line_ahead due.Close (job t u) e h k r = absurd (omega arith)
      line_ahead due.Close (row ts) e h k r = absurd (omega arith)
      line_ahead due.Close unknown e h k r = absurd (omega arith)
      line_ahead due.Nothing (list t) e h k r = absurd (omega arith)
      line_ahead due.Nothing (job t u) e h k r = absurd (omega arith)
      line_ahead due.Nothing (row ts) e h k r = absurd (omega arith)
      line_ahead due.Nothing close e h k r = absurd (omega arith)
      line_ahead due.Nothing unknown e h k r = absurd (omega arith)

  end_ahead : (d : Due) (i order : ℕ) (a : Algebra) (size left : ℕ) (gs ss vs : List ℕ)
      → ended d i (progress d order a size left gs ss vs) ≡ accepted o bs ns ws → Ahead d [] order a size left gs ss vs
  end_ahead due.List i order a size left gs ss vs e = let z : ◌≡◌ {A = ℕ} 0 1 = cc in absurd (omega arith)
  end_ahead due.Job i order a size left gs ss vs e = let z : ◌≡◌ {A = ℕ} 0 1 = cc in absurd (omega arith)
  end_ahead due.Row i order a size left gs ss vs e = let z : ◌≡◌ {A = ℕ} 0 1 = cc in absurd (omega arith)
  end_ahead due.Close i order a size left gs ss vs e = let z : ◌≡◌ {A = ℕ} 0 1 = cc in absurd (omega arith)
  end_ahead due.Nothing i order a size left gs ss vs e =
      record { kept = none; order_is = cc; algebras_are = cc; sizes_are = cc; words_are = cc }

  lines_ahead : (ls : List (List ℕ)) (i : ℕ) (p : Progress) → LeftIn p.due p.left → Accepts i ls (go p)
      → Ahead p.due ls p.order p.algebra p.size p.left p.algebras p.sizes p.weights
  unfolding follow step
  lines_ahead [] i p h e = end_ahead p.due i p.order p.algebra p.size p.left p.algebras p.sizes p.weights e
  lines_ahead (l ∷ ls) i p h e =
      let (clear, rest) = go_on (suc i) ls (tests p (form_of (parts l))) (after p (form_of (parts l))) e in
      line_ahead l ls p.order p.algebra p.size p.left p.algebras p.sizes p.weights (suc i) (λ q g r. lines_ahead ls (suc i) q g r)
      p.due (form_of (parts l)) refl h clear rest

  pub whole_list : (ls : List (List ℕ)) → Accepts 0 ls (go start) → ListAhead ls [] [] []
  whole_list ls e = lines_ahead ls 0 start tt e
