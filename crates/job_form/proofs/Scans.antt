-- The walk over the words of a row: what holds after each.
use Prim.Native.Nat.{ℕ, ◌+◌, ◌-◌, ◌<◌, ◌≤◌}
use native.Mathlib.Omega.{arith}
use mathlib.Core.Path.{◌≡◌, refl, sym, ap, ◌∙◌}
use mathlib.Core.List.{List, [], ◌∷◌, ◌++◌, map, append_assoc, append-nil}
use lib.ListN.{length, set, length-set}
use Rattle.semiring.specs.declared.Algebra.{Algebra}
use Rattle.job_form.specs.declared.tokens.Token.{Token}
use Rattle.job_form.specs.Forms.{words}
use Rattle.text.specs.inner.Scan.{parts_from, NextPart}
use Rattle.text.specs.declared.parts.Part.{Part}
use Rattle.std.proofs.Common.{Option, Some, None}
use Rattle.job_form.specs.inner.Worded.{Worded}
use Rattle.text.proofs.Cuts.{parts_some, parts_none}
use Rattle.job_form.specs.declared.rows.Tally.{Tally}
use Rattle.job_form.specs.Words.{word_of}
use Rattle.job_form.specs.inner.Tallies.{no_tally, counted, tallied}
use Rattle.job_form.specs.inner.RowRead.{Held, RowRead}
use Rattle.job_form.proofs.Padded.{held_stored, held_dropped}

-- The buffer holds words which, with those of the tokens to come, are all that it is to hold.
abbrev Holding : Algebra → List Token → List Token → List ℕ → ℕ → List ℕ → Type 0
Holding a all ts ws place w = (us : List ℕ) × Held us place w × (us ++ map (word_of a) ts ≡ ws ++ map (word_of a) all)

-- The bytes from a part on.
abbrev pub ahead : ℕ → Option Part → ℕ
ahead n (Some p) = n - p.start
ahead n None = 0

-- `read_row`: the words of the parts before `next`, which is the first from `behind` on, are counted and stored
pub record Scanned (a : Algebra) (line : List ℕ) (from at₀ : ℕ) (w₀ w : List ℕ) (next : Option Part) (tally : Tally) (place : ℕ) : Type 0 where
  pub behind : ℕ
  pub part : NextPart behind line next
  pub counts : tallied a tally (words (parts_from behind line)) ≡ tallied a no_tally (words (parts_from from line))
  pub below : tally.count ≤ behind
  pub size : length w ≡ length w₀
  pub holds : (ws : List ℕ) → Held ws at₀ w₀ → Holding a (words (parts_from from line)) (words (parts_from behind line)) ws place w

pub scanned_none : {a : Algebra} {line : List ℕ} {from at₀ : ℕ} {w₀ : List ℕ} {next : Option Part} {tally : Tally} → NextPart from line next → tally ≡ no_tally
    → Scanned a line from at₀ w₀ w₀ next tally at₀
scanned_none {from = from} part e = record {
  behind = from;
  part = part;
  counts = rw e;
  below = rw e (omega arith);
  size = refl;
  holds = λ ws h. (ws, h, refl);
}

-- One word more at a place: it is stored, or has no room.
pub record Put (v : ℕ) (w : List ℕ) (place : ℕ) (w' : List ℕ) (place' : ℕ) : Type 0 where
  pub size : length w' ≡ length w
  pub more : (ws : List ℕ) → Held ws place w → Held (ws ++ (v ∷ [])) place' w'

pub stored : {v : ℕ} {w w' : List ℕ} {place place' : ℕ} → place < length w → w' ≡ set w place v → place' ≡ place + 1 → Put v w place w' place'
stored {v} {w} {place = place} h e f = record { size = ap length e ∙ length-set w place v; more = λ ws held. rw (e, f) (held_stored v h held) }

pub left_out : {v : ℕ} {w w' : List ℕ} {place place' : ℕ} → length w ≤ place → w' ≡ w → place' ≡ place → Put v w place w' place'
left_out {v} h e f = record { size = ap length e; more = λ ws held. rw (e, f) (held_dropped v h held) }

module _ {a : Algebra} {line : List ℕ} {from at₀ : ℕ} {w₀ w : List ℕ} {tally : Tally} {place : ℕ} where
  pub scanned_one : {t : Token} {p : Part} {next : Option Part} {place' : ℕ} {w' : List ℕ} {tally' : Tally} → Scanned a line from at₀ w₀ w (Some p) tally place
      → Worded p.start p.end line t next → Put (word_of a t) w place w' place' → tally' ≡ counted a tally t
      → Scanned a line from at₀ w₀ w' next tally' place'
  unfolding words tallied
  scanned_one {t} {p} {next} {place'} {w'} {tally'} c d put et = record {
    behind = p.end;
    part = d.next;
    counts = rw et (ap (tallied a tally) (sym split) ∙ c.counts);
    below = rw et (omega (arith, c.below, c.part.0.least, c.part.1));
    size = put.size ∙ c.size;
    holds = λ ws held. more ws (c.holds ws held);
  }
    where
      split : words (parts_from c.behind line) ≡ t ∷ words (parts_from p.end line)
      split = ap words (parts_some c.part.0 c.part.1) ∙ ap (λ (x : Token). x ∷ words (parts_from p.end line)) (sym d.word)

      more : (ws : List ℕ) → Holding a (words (parts_from from line)) (words (parts_from c.behind line)) ws place w
          → Holding a (words (parts_from from line)) (words (parts_from p.end line)) ws place' w'
      more ws g = (
        g.0 ++ (word_of a t ∷ []),
        put.more g.0 g.1,
        append_assoc g.0 (word_of a t ∷ []) (map (word_of a) (words (parts_from p.end line)))
            ∙ ap (λ (ts : List Token). g.0 ++ map (word_of a) ts) (sym split)
            ∙ g.2,
      )

  pub scanned_all : Scanned a line from at₀ w₀ w None tally place → RowRead a line from at₀ w₀ tally place w
  unfolding words tallied
  scanned_all c = record {
    counts = ap (λ (ps : List (List ℕ)). tallied a tally (words ps)) (sym no_more) ∙ c.counts;
    size = c.size;
    holds = λ ws held.
        let g : Holding a (words (parts_from from line)) (words (parts_from c.behind line)) ws place w = c.holds ws held in
        let e : ws ++ map (word_of a) (words (parts_from from line)) ≡ g.0
        = sym g.2 ∙ ap (λ (ps : List (List ℕ)). g.0 ++ map (word_of a) (words ps)) no_more ∙ append-nil g.0 in
        rw e g.1;
  }
    where
      no_more : parts_from c.behind line ≡ []
      no_more = parts_none c.part (omega arith)
