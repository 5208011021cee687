-- A text is accepted exactly where it is written as the grammar says.
use Prim.Native.Nat.{ℕ, zero, suc, ◌≤◌}
use native.Mathlib.Omega.{arith}
use mathlib.Core.Path.{◌≡◌, refl, sym, subst}
use mathlib.Core.List.{List, [], ◌∷◌}
use lib.ListN.{length}
use borrow.Author.Tests.{ltb-false, le-ltb}
use Rattle.refusals.specs.Tests.{first}
use Rattle.refusals.proofs.First.{none_applied}
use Rattle.text.specs.Pieces.{lines}
use Rattle.text.proofs.Spelling.{lines_lined, lined_lines}
use Rattle.job_form.specs.claims.Written.{list, Written}
use Rattle.job_reading.specs.Steps.{start, go}
use Rattle.job_reading.specs.Reading.{Reading, accepted, follow, unless, length_tests, reading_of}
use Rattle.job_reading.proofs.Whole.{within_buffers}
use Rattle.job_grammar.specs.Texts.{InRange, Unskipped, JobsWritten, ListWritten, listed, ListText}
use Rattle.job_grammar.specs.claims.Accepted.{AcceptedExactlyClaim}
use Rattle.job_grammar.proofs.Ahead.{Tail, ListAhead, whole_list}
use Rattle.job_grammar.proofs.Leads.{with_skipped, listed_accepted}

module _ (text : List ℕ) (o : ℕ) (bs ns ws : List ℕ) where
  -- a list's line, and behind it all its jobs
  all_listed : {fs : List (List ℕ)} {line : List ℕ} → Written line (list o) → InRange 32 o → length ns ≤ 16 → Tail o bs ns ws fs o [] [] []
      → ListWritten (line ∷ fs) o bs ns ws
  all_listed {fs} {line} w range few t = by t.cs t.ms t.us t.algebras_are t.sizes_are t.words_are t.jobs
    where
      by : (cs ms us : List ℕ) → cs ≡ bs → ms ≡ ns → us ≡ ws → JobsWritten o t.forms cs ms us → ListWritten (line ∷ fs) o bs ns ws
      by cs ms us f g h jobs =
          subst (λ (x : List (List ℕ)). ListWritten (line ∷ x) o bs ns ws) (sym t.shape)
          (listed w range (subst (λ (x : List ℕ). JobsWritten o t.forms bs ns x) h
          (subst (λ (x : List ℕ). JobsWritten o t.forms bs x us) g (subst (λ (x : List ℕ). JobsWritten o t.forms x ms us) f jobs))) (t.some, few) t.closed)

  lines_listed : (ls : List (List ℕ)) → follow 0 ls (go start) ≡ accepted o bs ns ws → length ns ≤ 16
      → (fs : List (List ℕ)) × Unskipped ls fs × ListWritten fs o bs ns ws
  lines_listed ls e few =
      let h : ListAhead o bs ns ws ls [] [] [] = whole_list o bs ns ws ls e in
      (h.line ∷ h.fs, h.kept, all_listed h.written h.range few h.tail)

  passed : (k : ℕ) (r : Reading) → unless k r ≡ accepted o bs ns ws → (k ≡ 0) × (r ≡ accepted o bs ns ws)
  passed zero r e = (refl, e)
  passed (suc k) r e = let z : ◌≡◌ {A = ℕ} 0 1 = cc in absurd (omega arith)

  text_written : reading_of 16 16 16384 text ≡ accepted o bs ns ws → ListText text o bs ns ws
  unfolding reading_of
  text_written e =
      let (clear, is) = passed (first 0 (length_tests 16 16 16384 (length text))) (follow 0 (lines text) (go start)) e in
      let (lengths, (few, more)) = none_applied (length_tests 16 16 16384 (length text)) refl clear in
      let (fs, kept, are) = lines_listed (lines text) is (within_buffers 16 16 16384 text o bs ns ws e).1 in
      record { few = ltb-false 65536 (length text) few; lines = lines text; lined = lines_lined text; forms = fs; kept = kept; are = are }

  text_accepted : ListText text o bs ns ws → reading_of 16 16 16384 text ≡ accepted o bs ns ws
  unfolding reading_of
  text_accepted h =
      rw (le-ltb 65536 (length text) h.few, lined_lines h.lined)
      (with_skipped o bs ns ws h.kept 0 0 (go start) (listed_accepted h.are))

pub accepted_exactly : AcceptedExactlyClaim
accepted_exactly text o bs ns ws = record { written = text_written text o bs ns ws; accepts = text_accepted text o bs ns ws }
