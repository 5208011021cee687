-- The words of a row, both ways: the tokens that the reader finds, and the bytes; the bracket right behind the last.
use Prim.Native.Nat.{ℕ, suc, ◌-◌}
use Prim.Native.Char.{code}
use native.Mathlib.Omega.{arith}
use mathlib.Core.Path.{◌≡◌, refl, sym, ap, ap₂, subst, ◌∙◌}
use mathlib.Core.List.{List, [], ◌∷◌, ◌++◌, map}
use mathlib.Core.Bool.{Bool, true, false, cond, true≢false}
use lib.ListN.{length, get_or, take}
use lib.Dec.{eqb, ltb}
use borrow.Author.Tests.{eq-eqb, eqb-true}
use Rattle.memory.specs.Lists.{any}
use Rattle.memory.proofs.Any.{both_false}
use Rattle.semiring.specs.declared.Algebra.{Algebra}
use Rattle.semiring.specs.Algebra.{top_of}
use Rattle.semiring.specs.Words.{any_above}
use Rattle.job_form.specs.declared.tokens.Token.{Token}
use Rattle.job_form.specs.declared.tokens.Token.TheVariants.{Other}
use Rattle.job_form.specs.Tokens.{token_of}
use Rattle.job_form.specs.Words.{word_of, over_in, no_word}
use Rattle.job_form.specs.Forms.{closing, words}
use Rattle.job_form.specs.claims.Written.{Words, last, word}
use Rattle.job_form.specs.claims.Exactly.{RowPasses, RowTokens, closed, unclosed, token}
use Rattle.job_form.proofs.Spelled.{token_spelled, Passes, word_of_lem, word_passes}

-- The part with the bracket.
one_less : (n : ℕ) → suc n - 1 ≡ n
one_less n = omega arith

closed_long : (p : List ℕ) → length (p ++ (code ")" ∷ [])) ≡ suc (length p)
closed_long [] = refl
closed_long (b ∷ p) = ap suc (closed_long p)

last_byte : (p : List ℕ) → get_or (p ++ (code ")" ∷ [])) (length (p ++ (code ")" ∷ [])) - 1) 0 ≡ code ")"
last_byte p = rw (ap (λ (n : ℕ). n - 1) (closed_long p), one_less (length p)) (at p)
  where
    at : (p : List ℕ) → get_or (p ++ (code ")" ∷ [])) (length p) 0 ≡ code ")"
    at [] = refl
    at (b ∷ p) = at p

closed_part : (p : List ℕ) → closing (p ++ (code ")" ∷ [])) ≡ token_of p
closed_part p = rw (last_byte p, ap (λ (n : ℕ). n - 1) (closed_long p), one_less (length p), before p)
  where
    before : (p : List ℕ) → take (length p) (p ++ (code ")" ∷ [])) ≡ p
    before [] = refl
    before (b ∷ p) = ap (λ (x : List ℕ). b ∷ x) (before p)

split_at : (b : ℕ) (p : List ℕ) → get_or (b ∷ p) (length p) 0 ≡ code ")" → b ∷ p ≡ take (length p) (b ∷ p) ++ (code ")" ∷ [])
split_at b [] e = ap (λ (x : ℕ). x ∷ []) e
split_at b (c ∷ p) e = ap (λ (x : List ℕ). b ∷ x) (split_at c p e)

split_last : (p : List ℕ) → get_or p (length p - 1) 0 ≡ code ")" → p ≡ take (length p - 1) p ++ (code ")" ∷ [])
split_last [] e = absurd (omega (arith, e))
split_last (b ∷ p) e = rw (one_less (length p)) (split_at b p (rw (one_less (length p)) at e))

-- The words of a row from the tests of its tokens.
module _ {a : Algebra} where
  row_first : {t : Token} {ts : List Token} → RowPasses a (t ∷ ts) (map (word_of a) (t ∷ ts)) → Passes a t (word_of a t)
  unfolding any
  row_first {t} {ts} h = record {
    a_word = (both_false (no_word t) (any no_word ts) h.each_word).0;
    not_over = (both_false (over_in a t) (any (over_in a) ts) h.none_over).0;
    not_above = (both_false (ltb (top_of a) (word_of a t)) (any_above (top_of a) (map (word_of a) ts)) h.none_above).0;
    is = refl;
  }

  row_later : {t : Token} {ts : List Token} → RowPasses a (t ∷ ts) (map (word_of a) (t ∷ ts)) → RowPasses a ts (map (word_of a) ts)
  unfolding any
  row_later {t} {ts} h = record {
    each_word = (both_false (no_word t) (any no_word ts) h.each_word).1;
    none_over = (both_false (over_in a t) (any (over_in a) ts) h.none_over).1;
    none_above = (both_false (ltb (top_of a) (word_of a t)) (any_above (top_of a) (map (word_of a) ts)) h.none_above).1;
    are = refl;
  }

  row_and : {t : Token} {ts : List Token} {w : ℕ} {ws : List ℕ} → Passes a t w → RowPasses a ts ws → RowPasses a (t ∷ ts) (w ∷ ws)
  unfolding any
  row_and h k = record {
    each_word = rw h.a_word k.each_word;
    none_over = rw h.not_over k.none_over;
    none_above = rw h.not_above k.none_above;
    are = ap₂ (λ (x : ℕ) (l : List ℕ). x ∷ l) h.is k.are;
  }

  pub no_tokens : RowPasses a [] []
  unfolding any
  no_tokens = record { each_word = refl; none_over = refl; none_above = refl; are = refl }

  closing_word : (p : List ℕ) → Passes a (closing p) (word_of a (closing p)) → Words a (p ∷ []) (word_of a (closing p) ∷ [])
  closing_word p h = by (eqb (get_or p (length p - 1) 0) (code ")")) refl h
    where
      by : (b : Bool) → eqb (get_or p (length p - 1) 0) (code ")") ≡ b
          → Passes a (cond b (token_of (take (length p - 1) p)) Other) (word_of a (cond b (token_of (take (length p - 1) p)) Other))
          → Words a (p ∷ []) (word_of a (cond b (token_of (take (length p - 1) p)) Other) ∷ [])
      by true e h =
          let whole : p ≡ take (length p - 1) p ++ (code ")" ∷ []) = split_last p (eqb-true (get_or p (length p - 1) 0) (code ")") e) in
          subst (λ (x : List ℕ). Words a (x ∷ []) (word_of a (token_of (take (length p - 1) p)) ∷ [])) (sym whole)
          (last (word_of_lem a (take (length p - 1) p) (token_of (take (length p - 1) p)) (token_spelled (take (length p - 1) p)) h))
      by false e h = absurd (true≢false h.a_word)

  pub row_words : (p : List ℕ) (ps : List (List ℕ)) → RowPasses a (words (p ∷ ps)) (map (word_of a) (words (p ∷ ps)))
      → Words a (p ∷ ps) (map (word_of a) (words (p ∷ ps)))
  unfolding words
  row_words p [] h = closing_word p (row_first h)
  row_words p (q ∷ ps) h = word (word_of_lem a p (token_of p) (token_spelled p) (row_first h)) (row_words q ps (row_later h))

  pub words_row : {ps : List (List ℕ)} {ws : List ℕ} → Words a ps ws → RowPasses a (words ps) ws
  unfolding words
  words_row (last {p} h) = row_and (rw (closed_part p) (word_passes h)) no_tokens
  words_row (word {p} {ps} h (last k)) = row_and (word_passes h) (words_row (last k))
  words_row (word {p} {ps} h (word k m)) = row_and (word_passes h) (words_row (word k m))

-- What the parts stand for, words or not.
closing_token : (p : List ℕ) → RowTokens (p ∷ []) (closing p ∷ [])
closing_token p = by (eqb (get_or p (length p - 1) 0) (code ")")) refl
  where
    by : (b : Bool) → eqb (get_or p (length p - 1) 0) (code ")") ≡ b → RowTokens (p ∷ []) (cond b (token_of (take (length p - 1) p)) Other ∷ [])
    by true e =
        let whole : p ≡ take (length p - 1) p ++ (code ")" ∷ []) = split_last p (eqb-true (get_or p (length p - 1) 0) (code ")") e) in
        subst (λ (x : List ℕ). RowTokens (x ∷ []) (token_of (take (length p - 1) p) ∷ [])) (sym whole) (closed (take (length p - 1) p))
    by false e = unclosed (λ q w.
        let is : get_or p (length p - 1) 0 ≡ code ")" = ap (λ (x : List ℕ). get_or x (length x - 1) 0) w ∙ last_byte q in
        true≢false (sym (eq-eqb (get_or p (length p - 1) 0) (code ")") is) ∙ e))

pub row_tokens : (p : List ℕ) (ps : List (List ℕ)) → RowTokens (p ∷ ps) (words (p ∷ ps))
unfolding words
row_tokens p [] = closing_token p
row_tokens p (q ∷ ps) = token (row_tokens q ps)

unclosed_part : (p : List ℕ) → ((q : List ℕ) → p ≡ q ++ (code ")" ∷ []) → ⊥) → closing p ≡ Other
unclosed_part p h = by (eqb (get_or p (length p - 1) 0) (code ")")) refl
  where
    by : (b : Bool) → eqb (get_or p (length p - 1) 0) (code ")") ≡ b → cond b (token_of (take (length p - 1) p)) Other ≡ Other
    by true e = absurd (h (take (length p - 1) p) (split_last p (eqb-true (get_or p (length p - 1) 0) (code ")") e)))
    by false e = refl

pub tokens_words : {ps : List (List ℕ)} {ts : List Token} → RowTokens ps ts → words ps ≡ ts
unfolding words
tokens_words (closed p) = ap (λ (t : Token). t ∷ []) (closed_part p)
tokens_words (unclosed {p} h) = ap (λ (t : Token). t ∷ []) (unclosed_part p h)
tokens_words (token {p} (closed q)) = ap (λ (us : List Token). token_of p ∷ us) (tokens_words (closed q))
tokens_words (token {p} (unclosed h)) = ap (λ (us : List Token). token_of p ∷ us) (tokens_words (unclosed h))
tokens_words (token {p} (token r)) = ap (λ (us : List Token). token_of p ∷ us) (tokens_words (token r))
