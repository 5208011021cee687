-- The words of a table, and the word that an arc more changes.
use Prim.Native.Nat.{ℕ, zero, suc, ◌+◌, ◌*◌, ◌-◌, ◌/◌, ◌%◌, ◌<◌, ◌≤◌, min}
use native.Mathlib.Nat.{div-add-mod', div-lt_iff_lt-mul}
use native.Mathlib.Omega.{arith}
use native.Mathlib.Decide.{dec_lt, ℕ_discrete}
use mathlib.Core.Path.{◌≡◌, refl, sym, ap, ap₂, ◌∙◌}
use mathlib.Core.Logic.{◌≢◌}
use mathlib.Core.List.{List, [], ◌∷◌, ◌++◌}
use mathlib.Core.Bool.{Bool, true, false, cond, ◌&&◌}
use lib.ListN.{length, get_or, set, take, drop, replicate, length-set, length-append, length-drop, get_or-append, get_or-replicate, length-replicate}
use lib.Seq.{get_or-set_same, get_or-set_other, get_or-drop, length-take-le}
use Rattle.std.proofs.lemmas.List.{get_or-append_right}
use lib.Arith.{digits_div, digits_mod, digits_lt}
use lib.Dec.{eqb}
use borrow.Author.Tests.{lt-ltb, le-ltb, eq-eqb, ne_eqb, eqb-true}
use Rattle.memory.specs.Lists.{list_of}
use Rattle.memory.specs.Walked.{Walked}
use Rattle.memory.proofs.Any.{both_true}
use Rattle.memory.proofs.ListOf.{is_list_of}
use Rattle.semiring.specs.declared.Algebra.TheVariants.{Distance}
use Rattle.semiring.specs.Algebra.{none_word_of}
use Rattle.road_form.specs.declared.forms.Arc.{Arc}
use Rattle.road_table.specs.Table.{held, joins, lengths, least, entry, word_of}
use Rattle.road_table.specs.inner.Held.{Holds, Cleared, DiagonalCleared, Begun, Within, Joinable, Joined}

pub word_past : (n : ℕ) (arcs : List Arc) (q : ℕ) → n * n ≤ q → word_of n arcs q ≡ 0
unfolding word_of
word_past n arcs q h = rw (le-ltb q (n * n) h)

word_inside : (n : ℕ) (arcs : List Arc) (q : ℕ) → q < n * n → word_of n arcs q ≡ entry arcs (q / n + 1) (q % n + 1)
unfolding word_of
word_inside n arcs q h = rw (lt-ltb q (n * n) h)

some_points : (n q : ℕ) → q < n * n → 0 < n
some_points zero q h = absurd (omega arith)
some_points (suc n) q h = omega arith

pub cleared : (old : List ℕ) {l : List ℕ} → l ≡ replicate (length old) 0 → Cleared (length old) l
cleared old {l} e = record {
  size = ap length e ∙ length-replicate (length old) 0;
  zeros = record {
    word = λ q h.
        let k : q < length old = omega (arith, ap length e ∙ length-replicate (length old) 0) in
        ap (λ (x : List ℕ). get_or x q 0) e ∙ get_or-replicate (length old) q 0 0 k ∙ sym (word_past 0 [] q (omega arith));
  };
}

pub on_square : (n i : ℕ) → i < n → i * n + i < n * n
on_square n i h = digits_lt {q = i} {m = n} {r = i} {c = n} h h

-- all words of a buffer
pub all_held : {n m : ℕ} {arcs : List Arc} {l : List ℕ} → length l ≡ m → Holds n arcs l → l ≡ list_of m (word_of n arcs)
all_held {n} {m} {arcs} {l} e h = is_list_of m (word_of n arcs) l e (λ q k. h.word q (omega arith))

pub all_zero : {m : ℕ} {l : List ℕ} → Cleared m l → l ≡ list_of m (λ q. 0)
all_zero {m} {l} c = is_list_of m (λ q. 0) l c.size (λ q k. c.zeros.word q (omega (arith, c.size)) ∙ word_past 0 [] q (omega arith))

-- the front of a buffer after it was lent and filled with none
pub laid : {k : ℕ} {old part : List ℕ} → k ≤ length old → part ≡ replicate (length (take k old)) 65535
    → Walked (λ q word. none_word_of Distance) old k (part ++ drop k old)
laid {k} {old} {part} h e =
    let wide : length (take k old) ≡ k = length-take-le k old h in
    let n : length part ≡ k = ap length e ∙ length-replicate (length (take k old)) 65535 ∙ wide in
    record {
      size = simp (length-append, length-drop) (omega arith);
      inside = λ j a b.
          get_or-append part (drop k old) 0 j (omega arith)
          ∙ ap (λ (l : List ℕ). get_or l j 0) e
          ∙ get_or-replicate (length (take k old)) j 65535 0 (omega arith);
      before = λ j a. absurd (omega arith);
      after = λ j a.
          let q : k + (j - k) ≡ j = omega arith in
          get_or-append_right part (drop k old) k j 0 n a
          ∙ get_or-drop k old (j - k) 0
          ∙ ap (λ (i : ℕ). get_or old i 0) q;
    }

-- a table with no arc
module _ {n : ℕ} {old : List ℕ} where
  pub begun : {filled new : List ℕ} → Walked (λ q word. none_word_of Distance) old (n * n) filled → DiagonalCleared n n filled new → Begun n old new
  unfolding lengths least
  begun {filled} {new} w d = record {
    size = d.size ∙ w.size;
    holds = λ z. record { word = λ q h. at z q h (dec_lt q (n * n)) };
  }
    where
      off_square : (q k : ℕ) → n * n ≤ q → k < n → q ≢ k * n + k
      off_square q k h g e = omega (arith, on_square n k g)

      inside : (q : ℕ) → q < n * n → Dec (q / n ≡ q % n) → get_or new q 0 ≡ word_of n [] q
      inside q h (yes e) =
          let split : q / n * n + q / n ≡ q = ap (λ (x : ℕ). q / n * n + x) e ∙ div-add-mod' q n in
          ap (λ (x : ℕ). get_or new x 0) (sym split)
          ∙ d.on (q / n) ((div-lt_iff_lt-mul (some_points n q h)).1 h)
          ∙ sym (word_inside n [] q h ∙ rw (eq-eqb (q / n + 1) (q % n + 1) (ap (λ (x : ℕ). x + 1) e)))
      inside q h (no e) =
          d.off q (λ k g f. e (ap (λ (x : ℕ). x / n) f ∙ digits_div k {m = n} {r = k} g ∙ sym (ap (λ (x : ℕ). x % n) f ∙ digits_mod k {m = n} {r = k} g)))
          ∙ w.inside q (omega arith) h
          ∙ sym (word_inside n [] q h ∙ rw (ne_eqb (q / n + 1) (q % n + 1) (λ z. e (omega arith))))

      at : Holds 0 [] old → (q : ℕ) → q < length new → Dec (q < n * n) → get_or new q 0 ≡ word_of n [] q
      at z q h (yes k) = inside q k (ℕ_discrete (q / n) (q % n))
      at z q h (no k) =
          d.off q (λ i g. off_square q i (omega arith) g)
          ∙ w.after q (omega arith)
          ∙ z.word q (omega (arith, d.size, w.size))
          ∙ word_past 0 [] q (omega arith)
          ∙ sym (word_past n [] q (omega arith))

-- an arc more, for a pair that it joins and for any other
least_more : (i j : ℕ) (arcs : List Arc) (a : Arc)
    → least (lengths i j (arcs ++ (a ∷ []))) ≡ cond (joins i j a) (min (least (lengths i j arcs)) (held a.length)) (least (lengths i j arcs))
unfolding lengths least
least_more i j [] a = at (joins i j a)
  where
    at : (b : Bool) → least (cond b (held a.length ∷ []) []) ≡ cond b (min (none_word_of Distance) (held a.length)) (none_word_of Distance)
    at true = omega arith
    at false = refl
least_more i j (c ∷ arcs) a = with_first (joins i j c) (least_more i j arcs a)
  where
    rest : List Arc
    rest = arcs ++ (a ∷ [])

    one_more : ℕ → Bool → ℕ
    one_more w b = cond b (min w (held a.length)) w

    under : (w : ℕ) (b : Bool) → min (held c.length) (one_more w b) ≡ one_more (min (held c.length) w) b
    under w true = omega arith
    under w false = refl

    with_first : (b : Bool) → least (lengths i j rest) ≡ one_more (least (lengths i j arcs)) (joins i j a)
        → least (cond b (held c.length ∷ lengths i j rest) (lengths i j rest))
        ≡ one_more (least (cond b (held c.length ∷ lengths i j arcs) (lengths i j arcs))) (joins i j a)
    with_first true e = ap (min (held c.length)) e ∙ under (least (lengths i j arcs)) (joins i j a)
    with_first false e = e

entry_joined : (a : Arc) (arcs : List Arc) (i j : ℕ) → joins i j a ≡ true → entry (arcs ++ (a ∷ [])) i j ≡ min (entry arcs i j) (held a.length)
entry_joined a arcs i j e = rw (least_more i j arcs a, e) (diagonal (eqb i j))
  where
    diagonal : (b : Bool) → cond b 0 (min (least (lengths i j arcs)) (held a.length)) ≡ min (cond b 0 (least (lengths i j arcs))) (held a.length)
    diagonal true = omega arith
    diagonal false = refl

entry_other : (a : Arc) (arcs : List Arc) (i j : ℕ) → joins i j a ≡ false → entry (arcs ++ (a ∷ [])) i j ≡ entry arcs i j
entry_other a arcs i j e = rw (least_more i j arcs a, e)

pub joined_both : (a : Arc) (i j : ℕ) → joins i j a ≡ true → (a.from ≡ i) × (a.to ≡ j)
joined_both a i j e =
    let (f, g) = both_true (eqb a.from i) (eqb a.to j) e in
    (eqb-true a.from i f, eqb-true a.to j g)

-- the place of an arc in the table
abbrev place : ℕ → Arc → ℕ
place n a = (a.from - 1) * n + (a.to - 1)

module _ {n : ℕ} {a : Arc} (w : Within n a) where
  row_below : a.from - 1 < n
  row_below = omega (arith, w.from_least, w.from_most)

  column_below : a.to - 1 < n
  column_below = omega (arith, w.to_least, w.to_most)

  pub in-square : place n a < n * n
  in-square = digits_lt {q = a.from - 1} {m = n} {r = a.to - 1} {c = n} row_below column_below

  row_of : place n a / n + 1 ≡ a.from
  row_of = let e : place n a / n ≡ a.from - 1 = digits_div (a.from - 1) {m = n} {r = a.to - 1} column_below in omega (arith, w.from_least)

  column_of : place n a % n + 1 ≡ a.to
  column_of = let e : place n a % n ≡ a.to - 1 = digits_mod (a.from - 1) {m = n} {r = a.to - 1} column_below in omega (arith, w.to_least)

  pub word_at_lem : (arcs : List Arc) → word_of n arcs (place n a) ≡ entry arcs a.from a.to
  word_at_lem arcs = word_inside n arcs (place n a) in-square ∙ ap₂ (entry arcs) row_of column_of

  word_joined : (arcs : List Arc) → word_of n (arcs ++ (a ∷ [])) (place n a) ≡ min (word_of n arcs (place n a)) (held a.length)
  word_joined arcs =
      let q : ℕ = place n a in
      word_inside n (arcs ++ (a ∷ [])) q in-square
      ∙ entry_joined a arcs (q / n + 1) (q % n + 1)
      (ap₂ ◌&&◌ (eq-eqb a.from (q / n + 1) (sym row_of)) (eq-eqb a.to (q % n + 1) (sym column_of)))
      ∙ ap (λ (x : ℕ). min x (held a.length)) (sym (word_inside n arcs q in-square))

  word_other : (arcs : List Arc) (q : ℕ) → q ≢ place n a → Dec (q < n * n) → word_of n (arcs ++ (a ∷ [])) q ≡ word_of n arcs q
  word_other arcs q h (no k) = word_past n (arcs ++ (a ∷ [])) q (omega arith) ∙ sym (word_past n arcs q (omega arith))
  word_other arcs q h (yes k) =
      word_inside n (arcs ++ (a ∷ [])) q k
      ∙ entry_other a arcs (q / n + 1) (q % n + 1) (apart (joins (q / n + 1) (q % n + 1) a) refl)
      ∙ sym (word_inside n arcs q k)
    where
      same_place : (a.from ≡ q / n + 1) × (a.to ≡ q % n + 1) → q ≡ place n a
      same_place e =
          let r : a.from - 1 ≡ q / n = omega (arith, e.0) in
          let s : a.to - 1 ≡ q % n = omega (arith, e.1) in
          sym (ap₂ (λ (x y : ℕ). x * n + y) r s ∙ div-add-mod' q n)

      apart : (b : Bool) → joins (q / n + 1) (q % n + 1) a ≡ b → joins (q / n + 1) (q % n + 1) a ≡ false
      apart false e = e
      apart true e = absurd (h (same_place (joined_both a (q / n + 1) (q % n + 1) e)))

module _ {n : ℕ} {a : Arc} {old : List ℕ} (t : Joinable n a old) where
  pub place_inside : place n a < length old
  place_inside = omega (arith, in-square t.within, t.room.room)

  -- the table with an arc more
  pub joined : {v x : ℕ} → v ≡ min (get_or old (place n a) 0) x → x ≡ held a.length → Joined n a old (set old (place n a) v)
  joined {v} {x} e f = record {
    size = length-set old (place n a) v;
    holds = λ arcs h. record { word = λ q k. each arcs h q (rw (length-set old (place n a) v) at k) (ℕ_discrete q (place n a)) };
  }
    where
      each : (arcs : List Arc) → Holds n arcs old → (q : ℕ) → q < length old → Dec (q ≡ place n a)
          → get_or (set old (place n a) v) q 0 ≡ word_of n (arcs ++ (a ∷ [])) q
      each arcs h q k (yes g) =
          rw g
          (get_or-set_same old (place n a) v 0 place_inside
          ∙ e
          ∙ ap₂ min (h.word (place n a) place_inside) f
          ∙ sym (word_joined t.within arcs))
      each arcs h q k (no g) = get_or-set_other old (place n a) q v 0 g ∙ h.word q k ∙ sym (word_other t.within arcs q g (dec_lt q (n * n)))
