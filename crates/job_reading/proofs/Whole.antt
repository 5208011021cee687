-- What has been read fits the buffers and the tests of a list, after every line.
use Prim.Native.Nat.{ℕ, zero, suc, ◌+◌, ◌*◌, ◌-◌, ◌<◌, ◌≤◌}
use native.Mathlib.Nat.{zero-mul, zero-add}
use native.Mathlib.Omega.{arith}
use mathlib.Core.Path.{◌≡◌, refl, sym, ap, ◌∙◌}
use mathlib.Core.List.{List, [], ◌∷◌, ◌++◌, map, append-nil, append_assoc}
use mathlib.Core.Bool.{Bool, true, false}
use lib.ListN.{length, length-append, length-map}
use lib.Dec.{ltb, leb}
use borrow.Author.Tests.{leb-true, leb-false, eqb-false}
use Rattle.semiring.specs.Algebra.{top_of}
use Rattle.semiring.specs.declared.Algebra.{Algebra}
use Rattle.semiring.specs.Named.{number_of}
use Rattle.memory.specs.Lists.{any}
use Rattle.refusals.specs.Tests.{first, outside}
use Rattle.semiring.specs.Words.{any_above}
use Rattle.refusals.proofs.First.{equal, inside, none_applied}
use Rattle.memory.proofs.Any.{both_false}
use Rattle.job_list.specs.Jobs.{jobs_of}
use Rattle.job_list.specs.Fits.{any_outside, ListAccepted}
use Rattle.job_list.proofs.Fits.{sizes_fit, fits_small, words_most}
use Rattle.job_form.specs.declared.tokens.Token.{Token}
use Rattle.text.specs.Pieces.{lines, parts}
use Rattle.job_form.specs.Tokens.{value_of}
use Rattle.job_form.specs.Forms.{Form, list, job, row, close, skipped, unknown, form_of}
use Rattle.job_reading.specs.declared.state.Due.{Due}
use Rattle.job_reading.specs.declared.state.Due.TheVariants as due
use Rattle.job_reading.specs.Steps.{Progress, start, for_due, list_tests, job_tests, row_tests, list_end_tests, tests, after, due_after_row, due_after_close, Step, go, stop, proceed, step}
use Rattle.job_form.specs.Words.{word_of}
use Rattle.job_reading.specs.Reading.{Reading, refused, accepted, ended, follow, unless, length_tests, reading_of}
use Rattle.job_reading.specs.claims.Whole.{Whole, WithinBuffers}
use Rattle.job_reading.proofs.JobsRead.{JobsRead, none, one_job_more, paired, all_words, numbered, own_words}

-- A job of which `left` rows are due, after jobs that have been read whole.
record JobOpen (p : Progress) : Type 0 where
  pub bs : List ℕ
  pub ns : List ℕ
  pub ws : List ℕ
  pub here : List ℕ
  pub before : JobsRead bs ns ws
  pub algebras_are : p.algebras ≡ bs ++ (number_of p.algebra ∷ [])
  pub sizes_are : p.sizes ≡ ns ++ (p.size ∷ [])
  pub weights_are : p.weights ≡ ws ++ here
  pub due_words : length here + p.left * p.size ≡ p.size * p.size
  pub below : any_above (top_of p.algebra) here ≡ false

-- What is due, and what has been read by then: no list, whole jobs, or a job with rows left.
abbrev Stage : Due → Progress → Type 0
Stage due.List p = (p.algebras ≡ []) × (p.sizes ≡ []) × (p.weights ≡ [])
Stage due.Job p = (1 ≤ p.order) × JobsRead p.algebras p.sizes p.weights
Stage due.Row p = (1 ≤ p.order) × (1 ≤ p.left) × JobOpen p
Stage due.Close p = (1 ≤ p.order) × (p.left ≡ 0) × JobOpen p
Stage due.Nothing p = (1 ≤ p.order) × JobsRead p.algebras p.sizes p.weights × (1 ≤ length p.sizes)

record Within (p : Progress) : Type 0 where
  pub orders : p.order ≤ 32
  pub jobs : length p.sizes ≤ 16
  pub sizes_inside : any_outside p.order p.sizes ≡ false
  pub stage : Stage p.due p

within-start : Within start
unfolding any
within-start = record {
  orders = omega arith;
  jobs = omega arith;
  sizes_inside = refl;
  stage = (refl, refl, refl);
}

any_append : (test : ℕ → Bool) (l m : List ℕ) → any test l ≡ false → any test m ≡ false → any test (l ++ m) ≡ false
unfolding any
any_append test [] m e f = f
any_append test (x ∷ l) m e f =
    let (g, h) = both_false (test x) (any test l) e in
    rw (g, any_append test l m h f)

-- the tests of a form that is due, where its number is 0, and what has been read by then
list_due : (d : Due) (p : Progress) (k : ℕ) → Stage d p → for_due d k 14 14 14 ≡ 0 → (k ≡ 0) × Stage due.List p
list_due due.List p k s e = (e, s)
list_due due.Job p k s e = absurd (omega arith)
list_due due.Row p k s e = absurd (omega arith)
list_due due.Close p k s e = absurd (omega arith)
list_due due.Nothing p k s e = absurd (omega arith)

job_due : (d : Due) (p : Progress) (k : ℕ) → Stage d p → for_due d 14 k 14 14 ≡ 0 → (k ≡ 0) × Stage due.Job p
job_due due.List p k s e = absurd (omega arith)
job_due due.Job p k s e = (e, s)
job_due due.Row p k s e = absurd (omega arith)
job_due due.Close p k s e = absurd (omega arith)
job_due due.Nothing p k s e = absurd (omega arith)

row_due : (d : Due) (p : Progress) (k : ℕ) → Stage d p → for_due d 14 14 k 14 ≡ 0 → (k ≡ 0) × Stage due.Row p
row_due due.List p k s e = absurd (omega arith)
row_due due.Job p k s e = absurd (omega arith)
row_due due.Row p k s e = (e, s)
row_due due.Close p k s e = absurd (omega arith)
row_due due.Nothing p k s e = absurd (omega arith)

order_range : (n : Token) → first 0 (list_tests n) ≡ 0 → (1 ≤ value_of n) × (value_of n ≤ 32)
order_range n e =
    let clear = none_applied (list_tests n) refl e in
    inside clear.1.1.0

job_most : (order jobs : ℕ) (n a : Token) → first 0 (job_tests order jobs n a) ≡ 0 → (outside 1 order (value_of n) ≡ false) × (jobs < 16)
job_most order jobs n a e =
    let clear = none_applied (job_tests order jobs n a) refl e in
    (clear.1.1.1.0, leb-false 16 jobs clear.1.1.1.1.0)

row_words : (a : Algebra) (size : ℕ) (ts : List Token) → first 0 (row_tests a size ts) ≡ 0
    → (length ts ≡ size) × (any_above (top_of a) (map (word_of a) ts) ≡ false)
row_words a size ts e =
    let clear = none_applied (row_tests a size ts) refl e in
    (equal (length ts) size clear.1.1.0, clear.1.1.1.0)

-- a job whose rows have all come
job_whole : (p : Progress) → p.left ≡ 0 → JobOpen p → JobsRead p.algebras p.sizes p.weights
job_whole p last o =
    let nothing : p.left * p.size ≡ 0 = rw last (zero-mul p.size) in
    rw (o.algebras_are, o.sizes_are, o.weights_are) (one_job_more p.algebra p.size o.here (omega (arith, o.due_words)) o.below o.before)

close_stage : (d : Due) (p : Progress) → Stage d p → for_due d 14 (first 0 (list_end_tests (length p.sizes))) 14 0 ≡ 0
    → Stage (due_after_close d) (after p close)
close_stage due.List p s e = absurd (omega arith)
close_stage due.Job p s e =
    (s.0, s.1, some (length p.sizes) (eqb-false (length p.sizes) 0 (none_applied (list_end_tests (length p.sizes)) refl e).0))
  where
    some : (n : ℕ) → (n ≡ 0 → ⊥) → 1 ≤ n
    some n h = omega arith
close_stage due.Row p s e = absurd (omega arith)
close_stage due.Close p s e = (s.0, job_whole p s.1 s.2)
close_stage due.Nothing p s e = absurd (omega arith)

row_stage : (p q : Progress) (b : Bool) → leb p.left 1 ≡ b → 1 ≤ p.order → q.order ≡ p.order → q.left ≡ p.left - 1 → JobOpen q
    → Stage (due_after_row p.left) q
row_stage p q true e h o l opened = rw e (omega arith, omega (arith, leb-true p.left 1 e), opened)
row_stage p q false e h o l opened = rw e (omega arith, omega (arith, leb-false p.left 1 e), opened)

job_opened : (p : Progress) (n a : Token) → JobsRead p.algebras p.sizes p.weights → JobOpen (after p (job n a))
unfolding any
job_opened p n a jobs = record {
  bs = p.algebras;
  ns = p.sizes;
  ws = p.weights;
  here = [];
  before = jobs;
  algebras_are = refl;
  sizes_are = refl;
  weights_are = sym (append-nil p.weights);
  due_words = zero-add (value_of n * value_of n);
  below = refl;
}

row_added : (p : Progress) (ts : List Token) → 1 ≤ p.left → length ts ≡ p.size → any_above (top_of p.algebra) (map (word_of p.algebra) ts) ≡ false
    → JobOpen p → JobOpen (after p (row ts))
row_added p ts some row_long row-Below o =
    let words : List ℕ = map (word_of p.algebra) ts in
    let long : length (o.here ++ words) ≡ length o.here + length ts =
    length-append o.here words ∙ ap (λ (m : ℕ). length o.here + m) (length-map ts (word_of p.algebra)) in
    let less : p.left ≡ p.left - 1 + 1 = omega arith in
    let one_less : p.left * p.size ≡ (p.left - 1 + 1) * p.size = ap (λ (m : ℕ). m * p.size) less in
    record {
      bs = o.bs;
      ns = o.ns;
      ws = o.ws;
      here = o.here ++ words;
      before = o.before;
      algebras_are = o.algebras_are;
      sizes_are = o.sizes_are;
      weights_are = ap (λ (l : List ℕ). l ++ words) o.weights_are ∙ append_assoc o.ws o.here words;
      due_words = omega (arith, o.due_words);
      below = any_append (ltb (top_of p.algebra)) o.here words o.below row-Below;
    }

within_after : (p : Progress) (f : Form) → Within p → tests p f ≡ 0 → Within (after p f)
unfolding any
within_after p (list n) w e =
    let (k, by_then) = list_due p.due p (first 0 (list_tests n)) w.stage e in
    let (algebras, sizes, weights) = by_then in
    let h : (1 ≤ value_of n) × (value_of n ≤ 32) = order_range n k in
    record {
      orders = h.1;
      jobs = w.jobs;
      sizes_inside = rw sizes;
      stage = (h.0, rw (algebras, sizes, weights) none);
    }
within_after p (job n a) w e =
    let (k, by_then) = job_due p.due p (first 0 (job_tests p.order (length p.sizes) n a)) w.stage e in
    let (least, jobs) = by_then in
    let (range, few) = job_most p.order (length p.sizes) n a k in
    let between : (1 ≤ value_of n) × (value_of n ≤ p.order) = inside range in
    let long : length (p.sizes ++ (value_of n ∷ [])) ≡ length p.sizes + 1 = length-append p.sizes (value_of n ∷ []) in
    record {
      orders = w.orders;
      jobs = omega arith;
      sizes_inside = any_append (outside 1 p.order) p.sizes (value_of n ∷ []) w.sizes_inside (rw range);
      stage = (least, between.0, job_opened p n a jobs);
    }
within_after p (row ts) w e =
    let (k, by_then) = row_due p.due p (first 0 (row_tests p.algebra p.size ts)) w.stage e in
    let (least, some, opened) = by_then in
    let (row_long, below) = row_words p.algebra p.size ts k in
    record {
      orders = w.orders;
      jobs = w.jobs;
      sizes_inside = w.sizes_inside;
      stage = row_stage p (after p (row ts)) (leb p.left 1) refl least refl refl (row_added p ts some row_long below opened);
    }
within_after p close w e = record {
  orders = w.orders;
  jobs = w.jobs;
  sizes_inside = w.sizes_inside;
  stage = close_stage p.due p w.stage e;
}
within_after p unknown w e = w
within_after p skipped w e = w

-- a step from what fits, if it goes on
WithinStep : Step → Type 0
WithinStep (go p) = Within p
WithinStep (stop k) = Unit {0}

within_step : (p : Progress) (f : Form) → Within p → WithinStep (step p f)
unfolding WithinStep step
within_step p f w = at (tests p f) refl
  where
    at : (k : ℕ) → tests p f ≡ k → WithinStep (proceed k (after p f))
    at zero e = within_after p f w e
    at (suc k) e = tt

Fitting : Reading → Type 0
Fitting (refused r) = Unit {0}
Fitting (accepted order algebras sizes weights) = ListAccepted (jobs_of algebras order sizes weights)

ended_fits : (d : Due) (line : ℕ) (p : Progress) → Within p → Stage d p → Fitting (ended d line p)
unfolding Fitting
ended_fits due.List line p w s = tt
ended_fits due.Job line p w s = tt
ended_fits due.Row line p w s = tt
ended_fits due.Close line p w s = tt
ended_fits due.Nothing line p w s = record {
  fits = record {
    ranged = record { least = s.0; most = w.orders; some = s.2; few = w.jobs };
    algebras_fit = paired s.1;
    sizes_fit = sizes_fit p.order p.sizes w.sizes_inside;
  };
  numbers = numbered s.1;
  weights_fit = all_words s.1;
  words = own_words s.1;
}

follow_fits : (line : ℕ) (ls : List (List ℕ)) (t : Step) → WithinStep t → Fitting (follow line ls t)
unfolding follow WithinStep Fitting
follow_fits line [] (go p) w = ended_fits p.due line p w w.stage
follow_fits line [] (stop k) w = tt
follow_fits line (l ∷ ls) (go p) w = follow_fits (suc line) ls (step p (form_of (parts l))) (within_step p (form_of (parts l)) w)
follow_fits line (l ∷ ls) (stop k) w = tt

unless_fits : (k : ℕ) (r : Reading) → Fitting r → Fitting (unless k r)
unfolding Fitting
unless_fits zero r h = h
unless_fits (suc k) r h = tt

pub whole : Whole
unfolding reading_of WithinStep Fitting
whole l m n text order algebras sizes weights e =
    rw e at
    (unless_fits
    (first 0 (length_tests l m n (length text)))
    (follow 0 (lines text) (go start))
    (follow_fits 0 (lines text) (go start) within-start))

pub within_buffers : WithinBuffers
within_buffers l m n text order algebras sizes weights e =
    let fit : ListAccepted (jobs_of algebras order sizes weights) = whole l m n text order algebras sizes weights e in
    let few : length sizes ≤ 16 = fit.fits.ranged.few in
    (omega (arith, fit.fits.algebras_fit), few, omega (arith, fit.weights_fit, words_most (fits_small fit.fits)))
