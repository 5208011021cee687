-- A text reads alike with spaces added and skipped lines put into it.
use Prim.Native.Nat.{ℕ, zero, suc}
use Prim.Native.Char.{code}
use mathlib.Core.Path.{◌≡◌, refl, sym, ap, ◌∙◌}
use mathlib.Core.List.{List, [], ◌∷◌}
use mathlib.Core.Bool.{not, ◌||◌}
use lib.ListN.{length}
use lib.Dec.{eqb}
use borrow.Author.Tests.{le-ltb}
use Rattle.refusals.specs.Tests.{first}
use Rattle.text.specs.Pieces.{parts}
use Rattle.job_form.specs.Forms.{skipped, head_of, form_of}
use Rattle.text.proofs.Runs.{parts_none, parts_before, parts_behind, parts_between, parts_byte}
use Rattle.job_reading.specs.declared.state.Due.{Due}
use Rattle.job_reading.specs.declared.state.Due.TheVariants as due
use Rattle.job_reading.specs.Steps.{Progress, start, Step, go, stop, step}
use Rattle.job_reading.specs.Reading.{Reading, refused, refusal, ended, follow, unless, reading_of}
use Rattle.job_reading.specs.claims.Insensitive.{Spaced, same, before, behind, between, Skipped, blank, comment, space, Loosened, none, keep, skip, unnumbered, Insensitive}

pub follow_stop : (line k : ℕ) (ls : List (List ℕ)) → follow line ls (stop k) ≡ refused (refusal k line)
unfolding follow
follow_stop line k [] = refl
follow_stop line k (l ∷ ls) = refl

-- a line has the same parts
spaced : {l m : List ℕ} → Spaced l m → parts m ≡ parts l
spaced same = refl
spaced (before {m = m} s) = parts_before m ∙ spaced s
spaced (behind {m = m} s) = parts_behind m ∙ spaced s
spaced (between x y s) = parts_between x y ∙ spaced s

skipped_form : {m : List ℕ} → Skipped m → form_of (parts m) ≡ skipped
unfolding form_of head_of
skipped_form blank = ap form_of parts_none
skipped_form (comment {l = l}) = ap form_of (parts_byte (code ";") l refl)
skipped_form (space {l = l} s) = ap form_of (parts_before l) ∙ skipped_form s

ended_alike : (d : Due) (i j : ℕ) (p : Progress) → unnumbered (ended d j p) ≡ unnumbered (ended d i p)
ended_alike due.List i j p = refl
ended_alike due.Job i j p = refl
ended_alike due.Row i j p = refl
ended_alike due.Close i j p = refl
ended_alike due.Nothing i j p = refl

follow_alike : {ls ms : List (List ℕ)} → Loosened ls ms → (i j : ℕ) (t : Step) → unnumbered (follow j ms t) ≡ unnumbered (follow i ls t)
unfolding follow step
follow_alike none i j (go p) = ended_alike p.due i j p
follow_alike none i j (stop k) = refl
follow_alike (keep s r) i j (go p) =
    rw (spaced s) (follow_alike r (suc i) (suc j) _)
follow_alike (keep s r) i j (stop k) = refl
follow_alike (skip s r) i j (go p) = rw (skipped_form s) (follow_alike r i (suc j) (go p))
follow_alike (skip {ls = ls} s r) i j (stop k) = ap unnumbered (sym (follow_stop i k ls))

unless_alike : (k : ℕ) (r s : Reading) → unnumbered s ≡ unnumbered r → unnumbered (unless k s) ≡ unnumbered (unless k r)
unless_alike zero r s e = e
unless_alike (suc k) r s e = refl

pub insensitive : Insensitive
unfolding reading_of
insensitive algebras sizes weights text loosened h k r =
    rw (le-ltb 65536 (length text) h, le-ltb 65536 (length loosened) k)
    (unless_alike (first 0 ((not (eqb algebras 16) || (not (eqb sizes 16) || not (eqb weights 16384)), 18) ∷ [])) _ _ (follow_alike r 0 0 (go start)))
