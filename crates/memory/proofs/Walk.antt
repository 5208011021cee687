-- Walks over a part of a memory: a word more, the same walk said otherwise, a word stored over it; and from the front: a part more,
-- the whole.
use Prim.Native.Nat.{ℕ, ◌+◌, ◌-◌, ◌<◌, ◌≤◌, zero-le}
use native.Mathlib.Omega.{arith}
use native.Mathlib.Decide.{dec_lt, ℕ_discrete}
use mathlib.Core.Path.{◌≡◌, refl, sym, ap, ◌∙◌}
use mathlib.Core.Logic.{◌≢◌}
use mathlib.Core.List.{List, ◌++◌}
use lib.ListN.{length, get_or, set, take, drop, length-set, length-take, length-drop, length-append, get_or-append}
use lib.Seq.{get_or-set_same, get_or-set_other, get_or-take, get_or-drop, get_or-append-add, length-take-le, ext_get_or}
use Rattle.memory.specs.Lists.{list_of, replaced}
use Rattle.memory.specs.Walked.{Spanned, Walked}
use Rattle.memory.proofs.ListOf.{is_list_of}
use Rattle.memory.proofs.Part.{replaced_length, replaced_before, replaced_inside, replaced_after}

module _ {old : List ℕ} {from : ℕ} where
  -- nothing is changed
  pub spanned_same : {to : ℕ} → Spanned (λ j word. word) old from to old
  spanned_same = record { size = refl; inside = λ j h k. refl; before = λ j h. refl; after = λ j h. refl }

  pub spanned_none : {f : ℕ → ℕ → ℕ} → Spanned f old from from old
  spanned_none = record { size = refl; inside = λ j h k. absurd (omega arith); before = λ j h. refl; after = λ j h. refl }

  pub spanned_to : {f : ℕ → ℕ → ℕ} {to to' : ℕ} {l : List ℕ} → Spanned f old from to l → to ≡ to' → Spanned f old from to' l
  spanned_to s e = rw (← e) s

  -- another name for what was done
  pub spanned_as : {f g : ℕ → ℕ → ℕ} {to : ℕ} {l : List ℕ} → Spanned g old from to l
      → ((j : ℕ) → from ≤ j → j < to → g j (get_or old j 0) ≡ f j (get_or old j 0))
      → Spanned f old from to l
  spanned_as s e = record { size = s.size; inside = λ j h k. s.inside j h k ∙ e j h k; before = s.before; after = s.after }

  -- a store over it
  pub spanned_over : {f g : ℕ → ℕ → ℕ} {to : ℕ} {l : List ℕ} (m v : ℕ) → Spanned g old from to l
      → from ≤ m → m < to → m < length old → v ≡ f m (get_or old m 0)
      → ((j : ℕ) → from ≤ j → j < to → j ≢ m → g j (get_or old j 0) ≡ f j (get_or old j 0))
      → Spanned f old from to (set l m v)
  spanned_over {f} {to} {l} m v s h h' b e other = record {
    size = length-set l m v ∙ s.size;
    inside = λ j u w. at j u w (ℕ_discrete j m);
    before = λ j u. get_or-set_other l m j v 0 (λ q. omega arith) ∙ s.before j u;
    after = λ j u. get_or-set_other l m j v 0 (λ q. omega arith) ∙ s.after j u;
  }
    where
      at : (j : ℕ) → from ≤ j → j < to → Dec (j ≡ m) → get_or (set l m v) j 0 ≡ f j (get_or old j 0)
      at j u w (yes q) = rw q (get_or-set_same l m v 0 (omega (arith, s.size)) ∙ e)
      at j u w (no q) = get_or-set_other l m j v 0 q ∙ s.inside j u w ∙ other j u w q

  -- the next word, given as the value of the word that still stands there
  pub spanned_one : {f : ℕ → ℕ → ℕ} {j : ℕ} {l : List ℕ} (v : ℕ) → Spanned f old from j l → from ≤ j → j < length old
      → v ≡ f j (get_or l j 0) → Spanned f old from (j + 1) (set l j v)
  spanned_one {f} {j} {l} v s h b e = record {
    size = length-set l j v ∙ s.size;
    inside = λ p u w. at p u w (ℕ_discrete p j);
    before = λ p u. get_or-set_other l j p v 0 (λ q. omega arith) ∙ s.before p u;
    after = λ p u. get_or-set_other l j p v 0 (λ q. omega arith) ∙ s.after p (omega arith);
  }
    where
      at : (p : ℕ) → from ≤ p → p < j + 1 → Dec (p ≡ j) → get_or (set l j v) p 0 ≡ f p (get_or old p 0)
      at p u w (yes q) = rw q (get_or-set_same l j v 0 (omega (arith, s.size)) ∙ e ∙ ap (f j) (s.after j (omega arith)))
      at p u w (no q) = get_or-set_other l j p v 0 q ∙ s.inside p u (omega arith)

-- From the front.
module _ {f : ℕ → ℕ → ℕ} {old : List ℕ} where
  pub walked_none : Walked f old 0 old
  walked_none = spanned_none

  pub walked_one : {m : ℕ} {l : List ℕ} (v : ℕ) → Walked f old m l → m < length old → v ≡ f m (get_or l m 0) → Walked f old (m + 1) (set l m v)
  walked_one v c h e = spanned_one v c zero-le h e

  pub walked_to : {l : List ℕ} {m m' : ℕ} → Walked f old m l → m ≡ m' → Walked f old m' l
  walked_to c e = spanned_to c e

  -- the next w words at once, lent and given back as `new`
  pub walked_part : {m : ℕ} {l : List ℕ} (w : ℕ) (new : List ℕ) → Walked f old m l → m + w ≤ length old → length new ≡ w
      → ((j : ℕ) → j < w → get_or new j 0 ≡ f (m + j) (get_or old (m + j) 0))
      → Walked f old (m + w) (replaced m w new l)
  walked_part {m} {l} w new c h same word = record {
    size = replaced_length m w l fits new same ∙ c.size;
    inside = λ p u k. at p k (dec_lt p m);
    before = λ p k. absurd (omega arith);
    after = λ p k. replaced_after m w l fits new same p k ∙ c.after p (omega arith);
  }
    where
      fits : m + w ≤ length l
      fits = omega (arith, c.size)

      at : (p : ℕ) → p < m + w → Dec (p < m) → get_or (replaced m w new l) p 0 ≡ f p (get_or old p 0)
      at p k (yes q) = replaced_before m w l fits new same p q ∙ c.inside p zero-le q
      at p k (no q) =
          let j : ℕ = p - m in
          let e : m + j ≡ p = omega arith in
          rw (← e) (replaced_inside m w l fits new same j (omega arith) ∙ word j (omega arith))

  -- what the walk has not reached is as it was
  pub walked_drop : {m : ℕ} {l : List ℕ} → Walked f old m l → drop m l ≡ drop m old
  walked_drop {m} {l} c =
      ext_get_or 0 (drop m l) (drop m old) (simp length-drop (omega (arith, c.size)))
      (λ p h. get_or-drop m l p 0 ∙ c.after (m + p) (omega arith) ∙ sym (get_or-drop m old p 0))

  pub walked_all : {l : List ℕ} {m : ℕ} → Walked f old m l → m ≡ length old → l ≡ list_of (length old) (λ p. f p (get_or old p 0))
  walked_all {l} c e = is_list_of (length old) (λ p. f p (get_or old p 0)) l c.size (λ p h. c.inside p zero-le (omega arith))

-- A walk has one outcome.
pub walked_same : {f : ℕ → ℕ → ℕ} {old l l' : List ℕ} {m : ℕ} → Walked f old m l → Walked f old m l' → l ≡ l'
walked_same {f} {old} {l} {l'} {m} c c' = ext_get_or 0 l l' (c.size ∙ sym c'.size) (λ p h. at p (dec_lt p m))
  where
    at : (p : ℕ) → Dec (p < m) → get_or l p 0 ≡ get_or l' p 0
    at p (yes k) = c.inside p zero-le k ∙ sym (c'.inside p zero-le k)
    at p (no k) = c.after p (omega arith) ∙ sym (c'.after p (omega arith))

-- A walk that takes its words from a list leaves the list's first m words, and after them the old ones.
pub walked_front : (from old : List ℕ) (m : ℕ) → m ≤ length from → m ≤ length old → Walked (λ p word. get_or from p 0) old m (take m from ++ drop m old)
walked_front from old m h h' = record {
  size = simp (length-append, length-take, length-drop) (omega arith);
  inside = λ p u k. get_or-append (take m from) (drop m old) 0 p (omega (arith, front)) ∙ get_or-take m from p 0 k;
  before = λ p k. absurd (omega arith);
  after = λ p k. at (p - m) p (omega arith);
}
  where
    front : length (take m from) ≡ m
    front = length-take-le m from h

    at : (j p : ℕ) → p ≡ m + j → get_or (take m from ++ drop m old) p 0 ≡ get_or old p 0
    at j p e =
        ap (λ (q : ℕ). get_or (take m from ++ drop m old) q 0) (e ∙ ap (λ (q : ℕ). q + j) (sym front))
        ∙ get_or-append-add (take m from) (drop m old) j 0
        ∙ get_or-drop m old j 0
        ∙ ap (λ (q : ℕ). get_or old q 0) (sym e)

-- A loop that walks word by word, where it has come to word m: the invariant of such loops, its begin, one turn and its end.
pub record Walking (f : ℕ → ℕ → ℕ) (old : List ℕ) (m : ℕ) (l : List ℕ) : Type 0 where
  pub count : m ≤ length old
  pub walked : Walked f old m l

module _ {f : ℕ → ℕ → ℕ} {old : List ℕ} where
  pub begins : Walking f old 0 old
  begins = record { count = zero-le; walked = walked_none }

  module _ {m : ℕ} {l : List ℕ} (c : Walking f old m l) where
    pub goes_on : {v : ℕ} → m < length l → v ≡ f m (get_or l m 0) → Walking f old (m + 1) (set l m v)
    goes_on {v} h e =
        let h' : m < length old = omega (arith, c.walked.size) in
        record { count = omega arith; walked = walked_one v c.walked h' e }

    pub ends : length l ≤ m → Walked f old (length old) l
    ends h = walked_to c.walked (omega (arith, c.count, c.walked.size))

-- A whole walk that copies leaves the list that was copied.
pub walked_copy : (from : List ℕ) {old l : List ℕ} → Walked (λ p word. get_or from p 0) old (length from) l → length old ≡ length from → l ≡ from
walked_copy from {old} {l} c e = ext_get_or 0 l from (c.size ∙ e) (λ p h. c.inside p zero-le (omega (arith, c.size)))
