-- The row Text of the table of tests, read both ways.
use Prim.Native.Nat.{ℕ, zero, suc}
use mathlib.Core.Path.{◌≡◌, refl}
use mathlib.Core.List.{List, [], ◌∷◌}
use lib.ListN.{length}
use Rattle.semiring.specs.declared.Algebra.{Algebra}
use Rattle.refusals.specs.Tests.{first}
use Rattle.refusals.specs.Conditions.{Exactly, Returns}
use Rattle.refusals.proofs.Conditions.{applies, passes, row as decided, none as no_more, either, decides_differ, decides_above}
use Rattle.text.specs.Pieces.{lines, parts}
use Rattle.job_form.specs.declared.tokens.Token.{Token}
use Rattle.job_form.specs.declared.tokens.Token.TheVariants.{Number, Over, Dash, Name, Other}
use Rattle.job_form.specs.Forms.{Form, list, job, row, close, skipped, unknown, form_of}
use Rattle.job_form.proofs.Limits.{AllLimited, RowLimited, limited}
use Rattle.job_reading.specs.declared.state.Due.{Due}
use Rattle.job_reading.specs.declared.state.Due.TheVariants as due
use Rattle.job_reading.specs.Steps.{Progress, progress, start, list_tests, job_tests, row_tests, list_end_tests, tests, after, go, stop, proceed, step}
use Rattle.job_reading.specs.Reading.{Reading, refused, accepted, refusal, ended, follow, unless, length_tests, reading_of}
use Rattle.job_reading.specs.claims.Refusals.{length_conditions, line_conditions, Numeral, read, over, Apart, apart, AfterEnd, after_end, FormDue, list_begins}
use Rattle.job_reading.specs.claims.Refusals.{job_begins, job_ends, list_ends, over_order, over_size, ByLines, line_refused, line_passed, ends_early, ends, ByTable}
use Rattle.job_reading.specs.claims.Refusals.{before_lines, by_lines, BeforeLines, LineRefusals, TextRefusals}
use Rattle.job_reading.proofs.LineTests.{no_dash_lem, no_name, no_other, decides_row, decides_over, decides_length, decides_order, decides_size, decides_above_one}
use Rattle.job_reading.proofs.LineTests.{decides_empty, decides_count}

pub before_lines_exactly : BeforeLines
unfolding length_conditions
before_lines_exactly algebras sizes weights text =
    decided (either (decides_differ algebras 16) (either (decides_differ sizes 16) (decides_differ weights 16384)))
    (decided (decides_above 65536 (length text))
    no_more)

numeral_of_list : {n : Token} → FormDue due.List (list n) → Numeral n
numeral_of_list (list_begins h) = h

numeral_of_job : {n t : Token} → FormDue due.Job (job n t) → Numeral n
numeral_of_job (job_begins h) = h

-- one line, by what is due and its form
module _ (order : ℕ) (a : Algebra) (size left : ℕ) (algebras sizes weights : List ℕ) where
  abbrev at : Due → Progress
  at d = progress d order a size left algebras sizes weights

  abbrev Line : Due → Form → ℕ → Type 0
  Line d f number = Exactly (line_conditions (at d) f) number

  behind_end : {f : Form} → (Apart f → ⊥) → Line due.Nothing f 17
  unfolding line_conditions
  behind_end some = passes some (applies after_end)

  not_due : {d : Due} {f : Form} → (Apart f → ⊥) → (AfterEnd d → ⊥) → (FormDue d f → ⊥) → Line d f 14
  unfolding line_conditions
  not_due some more other = passes some (passes more (applies other))

  list_line : (n : Token) → Line due.List (list n) (first 0 (list_tests n))
  unfolding line_conditions
  list_line (Number n) =
      passes (elim [ ])
      (passes (elim [ ])
      (passes (λ other. other (list_begins read))
      (passes (elim [ ])
      (passes (elim [ ])
      (decided (decides_order n)
      (passes (elim [ ])
      (passes (elim [ ])
      (passes (elim [ ])
      no_more))))))))
  list_line Over = passes (elim [ ]) (passes (elim [ ]) (passes (λ other. other (list_begins over)) (applies over_order)))
  list_line Dash = not_due (elim [ ]) (elim [ ]) (λ f. no_dash_lem (numeral_of_list f))
  list_line (Name b) = not_due (elim [ ]) (elim [ ]) (λ f. no_name (numeral_of_list f))
  list_line Other = not_due (elim [ ]) (elim [ ]) (λ f. no_other (numeral_of_list f))

  job_line : (n t : Token) → Line due.Job (job n t) (first 0 (job_tests order (length sizes) n t))
  unfolding line_conditions
  job_line (Number n) (Name b) =
      passes (elim [ ])
      (passes (elim [ ])
      (passes (λ other. other (job_begins read))
      (passes (elim [ ])
      (passes (elim [ ])
      (passes (elim [ ])
      (decided (decides_size order n (Name b))
      (passes (elim [ ])
      (decided (decides_count (length sizes) due.Job (Number n) (Name b))
      no_more))))))))
  job_line Over (Name b) = passes (elim [ ]) (passes (elim [ ]) (passes (λ other. other (job_begins over)) (applies over_size)))
  job_line (Number n) (Number m) = not_due (elim [ ]) (elim [ ]) (elim [ ])
  job_line (Number n) Over = not_due (elim [ ]) (elim [ ]) (elim [ ])
  job_line (Number n) Dash = not_due (elim [ ]) (elim [ ]) (elim [ ])
  job_line (Number n) Other = not_due (elim [ ]) (elim [ ]) (elim [ ])
  job_line Over (Number m) = not_due (elim [ ]) (elim [ ]) (elim [ ])
  job_line Over Over = not_due (elim [ ]) (elim [ ]) (elim [ ])
  job_line Over Dash = not_due (elim [ ]) (elim [ ]) (elim [ ])
  job_line Over Other = not_due (elim [ ]) (elim [ ]) (elim [ ])
  job_line Dash t = not_due (elim [ ]) (elim [ ]) (λ f. no_dash_lem (numeral_of_job f))
  job_line (Name b) t = not_due (elim [ ]) (elim [ ]) (λ f. no_name (numeral_of_job f))
  job_line Other t = not_due (elim [ ]) (elim [ ]) (λ f. no_other (numeral_of_job f))

  row_line : (ts : List Token) → AllLimited ts → Line due.Row (row ts) (first 0 (row_tests a size ts))
  unfolding line_conditions
  row_line ts h =
      passes (elim [ ])
      (passes (elim [ ])
      (decided (decides_row ts)
      (decided (decides_over a ts h)
      (decided (decides_length size ts)
      (passes (elim [ ])
      (passes (elim [ ])
      (decided (decides_above_one a ts h)
      (passes (elim [ ])
      no_more))))))))

  list_end_line : Line due.Job close (first 0 (list_end_tests (length sizes)))
  unfolding line_conditions
  list_end_line =
      passes (elim [ ])
      (passes (elim [ ])
      (passes (λ other. other list_ends)
      (passes (elim [ ])
      (passes (elim [ ])
      (passes (elim [ ])
      (passes (elim [ ])
      (passes (elim [ ])
      (decided (decides_empty (length sizes))
      no_more))))))))

  job_end_line : Line due.Close close 0
  unfolding line_conditions
  job_end_line =
      passes (elim [ ])
      (passes (elim [ ])
      (passes (λ other. other job_ends)
      (passes (elim [ ])
      (passes (elim [ ])
      (passes (elim [ ])
      (passes (elim [ ])
      (passes (elim [ ])
      (passes (elim [ ])
      no_more))))))))

  skipped_line : (d : Due) → Line d skipped 0
  unfolding line_conditions
  skipped_line d = applies apart

  line_exactly : (d : Due) (f : Form) → RowLimited f → Line d f (tests (at d) f)
  line_exactly d skipped h = skipped_line d
  line_exactly due.List (list n) h = list_line n
  line_exactly due.Job (list n) h = not_due (elim [ ]) (elim [ ]) (elim [ ])
  line_exactly due.Row (list n) h = not_due (elim [ ]) (elim [ ]) (elim [ ])
  line_exactly due.Close (list n) h = not_due (elim [ ]) (elim [ ]) (elim [ ])
  line_exactly due.Nothing (list n) h = behind_end (elim [ ])
  line_exactly due.List (job n t) h = not_due (elim [ ]) (elim [ ]) (elim [ ])
  line_exactly due.Job (job n t) h = job_line n t
  line_exactly due.Row (job n t) h = not_due (elim [ ]) (elim [ ]) (elim [ ])
  line_exactly due.Close (job n t) h = not_due (elim [ ]) (elim [ ]) (elim [ ])
  line_exactly due.Nothing (job n t) h = behind_end (elim [ ])
  line_exactly due.List (row ts) h = not_due (elim [ ]) (elim [ ]) (elim [ ])
  line_exactly due.Job (row ts) h = not_due (elim [ ]) (elim [ ]) (elim [ ])
  line_exactly due.Row (row ts) h = row_line ts h
  line_exactly due.Close (row ts) h = not_due (elim [ ]) (elim [ ]) (elim [ ])
  line_exactly due.Nothing (row ts) h = behind_end (elim [ ])
  line_exactly due.List close h = not_due (elim [ ]) (elim [ ]) (elim [ ])
  line_exactly due.Job close h = list_end_line
  line_exactly due.Row close h = not_due (elim [ ]) (elim [ ]) (elim [ ])
  line_exactly due.Close close h = job_end_line
  line_exactly due.Nothing close h = behind_end (elim [ ])
  line_exactly due.List unknown h = not_due (elim [ ]) (elim [ ]) (elim [ ])
  line_exactly due.Job unknown h = not_due (elim [ ]) (elim [ ]) (elim [ ])
  line_exactly due.Row unknown h = not_due (elim [ ]) (elim [ ]) (elim [ ])
  line_exactly due.Close unknown h = not_due (elim [ ]) (elim [ ]) (elim [ ])
  line_exactly due.Nothing unknown h = behind_end (elim [ ])

pub line_refusals : LineRefusals
unfolding line_conditions
line_refusals p line =
    line_exactly p.order p.algebra p.size p.left p.algebras p.sizes p.weights p.due (form_of (parts line)) (limited (parts line))

-- after the last line
module _ (line : ℕ) (p : Progress) where
  early : (d : Due) → (AfterEnd d → ⊥) → ended d line p ≡ refused (refusal 17 line)
  early due.List h = refl
  early due.Job h = refl
  early due.Row h = refl
  early due.Close h = refl
  early due.Nothing h = absurd (h after_end)

  at-end : {d : Due} → AfterEnd d → ended d line p ≡ accepted p.order p.algebras p.sizes p.weights
  at-end after_end = refl

  end_given : (d : Due) → p.due ≡ d → ByLines line p [] (ended d line p)
  end_given due.List e = ends_early {p = p} (rw e (elim [ ]))
  end_given due.Job e = ends_early {p = p} (rw e (elim [ ]))
  end_given due.Row e = ends_early {p = p} (rw e (elim [ ]))
  end_given due.Close e = ends_early {p = p} (rw e (elim [ ]))
  end_given due.Nothing e = ends {p = p} (rw e after_end)

-- a line that is refused ends the reading
at_line : (line k : ℕ) (ls : List (List ℕ)) → follow line ls (stop k) ≡ refused (refusal k line)
unfolding follow
at_line line k [] = refl
at_line line k (l ∷ ls) = refl

lines_given : (line : ℕ) (p : Progress) (ls : List (List ℕ)) → ByLines line p ls (follow line ls (go p))
unfolding follow step
lines_given line p [] = end_given line p p.due refl
lines_given line p (l ∷ ls) = by (tests p f) (line_refusals p l).returned (lines_given (suc line) (after p f) ls)
  where
    f : Form
    f = form_of (parts l)

    by : (k : ℕ) → Returns (line_conditions p f) k → ByLines (suc line) (after p f) ls (follow (suc line) ls (go (after p f)))
        → ByLines line p (l ∷ ls) (follow (suc line) ls (proceed k (after p f)))
    by zero r rest = line_passed r rest
    by (suc k) r rest = rw (at_line (suc line) (suc k) ls) (line_refused r)

lines_only : {line : ℕ} {p : Progress} {ls : List (List ℕ)} {r : Reading} → ByLines line p ls r → follow line ls (go p) ≡ r
unfolding follow step
lines_only (line_refused {line = line} {k} {p} {l} {ls} r) = rw ((line_refusals p l).only (suc k) r) (at_line (suc line) (suc k) ls)
lines_only (line_passed {p = p} {l} r rest) = rw ((line_refusals p l).only 0 r) (lines_only rest)
lines_only (ends_early {line} {p} h) = early line p p.due h
lines_only (ends {line} {p} h) = at-end line p h

module _ (algebras sizes weights : ℕ) (text : List ℕ) where
  text_given : ByTable algebras sizes weights text (reading_of algebras sizes weights text)
  unfolding reading_of
  text_given = by (first 0 (length_tests algebras sizes weights (length text))) (before_lines_exactly algebras sizes weights text).returned
    where
      by : (k : ℕ) → Returns (length_conditions algebras sizes weights text) k
          → ByTable algebras sizes weights text (unless k (follow 0 (lines text) (go start)))
      by zero r = by_lines r (lines_given 0 start (lines text))
      by (suc k) r = before_lines r

  text_only : (r : Reading) → ByTable algebras sizes weights text r → reading_of algebras sizes weights text ≡ r
  unfolding reading_of
  text_only r (before_lines {k} h) = rw ((before_lines_exactly algebras sizes weights text).only (suc k) h)
  text_only r (by_lines h t) = rw ((before_lines_exactly algebras sizes weights text).only 0 h) (lines_only t)

pub text_refusals : TextRefusals
text_refusals algebras sizes weights text = record { given = text_given algebras sizes weights text; only = text_only algebras sizes weights text }
