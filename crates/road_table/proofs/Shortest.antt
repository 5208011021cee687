-- Each word of the table is the shortest of its arcs.
use Prim.Native.Nat.{ℕ, ◌≤◌, min}
use native.Mathlib.Omega.{arith}
use native.Mathlib.Decide.{dec_le}
use mathlib.Core.Path.{◌≡◌, refl, sym, ap, ◌∙◌}
use mathlib.Core.List.Memᴰ
use mathlib.Core.List.{List, [], ◌∷◌}
use mathlib.Core.Bool.{Bool, true, false, true≢false}
use mathlib.Core.Logic.{◌⊎◌, inl, inr, ⊎_elim}
use borrow.Author.Tests.{eq-eqb, ne_eqb}
use Rattle.road_form.specs.declared.forms.Arc.{Arc}
use Rattle.road_table.specs.Table.{held, joins, lengths, least}
use Rattle.road_table.specs.claims.Shortest.{Joining, Shortest, EachShortest}
use Rattle.road_table.proofs.Words.{joined_both}

pub least_most : (ls : List ℕ) → least ls ≤ 65535
unfolding least
least_most [] = omega arith
least_most (l ∷ ls) = omega (arith, least_most ls)

module _ (i j : ℕ) where
  joins_true : (a : Arc) → a.from ≡ i → a.to ≡ j → joins i j a ≡ true
  joins_true a e f = rw (eq-eqb a.from i e, eq-eqb a.to j f)

  abbrev tail_of : (a : Arc) (arcs : List Arc) → Joining arcs i j → Joining (a ∷ arcs) i j
  tail_of a arcs g = record { arc = g.arc; there = Memᴰ.tail g.there; from_i = g.from_i; to_j = g.to_j }

  -- a joining arc of a ∷ arcs is a itself or one of arcs
  split : (a : Arc) (arcs : List Arc) (g : Joining (a ∷ arcs) i j) → (g.arc ≡ a) ⊎ ((h : Joining arcs i j) × (h.arc ≡ g.arc))
  split a arcs g =
      ⊎_elim (λ e. inl e)
      (λ m. inr (record { arc = g.arc; there = m; from_i = g.from_i; to_j = g.to_j }, refl))
      (Memᴰ.cases_cons g.there)

  shortest_nil : Shortest [] i j (least (lengths i j []))
  unfolding lengths least
  shortest_nil = record {
    no_shorter = λ g. absurd (Memᴰ.not-nil g.there);
    one_of_lem = inr (refl, λ g. Memᴰ.not-nil g.there);
    never_none = λ g. absurd (Memᴰ.not-nil g.there);
  }

  with_joined : (a : Arc) (arcs : List Arc) (w : ℕ) → a.from ≡ i → a.to ≡ j → w ≤ 65535 → Shortest arcs i j w → Shortest (a ∷ arcs) i j (min (held a.length) w)
  with_joined a arcs w e f room s = record {
    no_shorter = λ g.
        ⊎_elim (λ (q : g.arc ≡ a). let z : held g.arc.length ≡ held a.length = ap (λ (x : Arc). held x.length) q in omega arith)
        (λ (h : (h : Joining arcs i j) × (h.arc ≡ g.arc)).
        let z : held h.0.arc.length ≡ held g.arc.length = ap (λ (x : Arc). held x.length) h.1 in
        let k : w ≤ held h.0.arc.length = s.no_shorter h.0 in
        omega arith)
        (split a arcs g);
    one_of_lem = pick (dec_le (held a.length) w);
    never_none = λ g e. omega arith;
  }
    where
      here : Joining (a ∷ arcs) i j
      here = record { arc = a; there = Memᴰ.head refl; from_i = e; to_j = f }

      pick : Dec (held a.length ≤ w)
          → ((g : Joining (a ∷ arcs) i j) × (min (held a.length) w ≡ held g.arc.length)) ⊎ ((min (held a.length) w ≡ 65535) × (Joining (a ∷ arcs) i j → ⊥))
      pick (yes k) = inl (here, omega arith)
      pick (no k) =
          ⊎_elim (λ (h : (g : Joining arcs i j) × (w ≡ held g.arc.length)). inl (tail_of a arcs h.0, omega (arith, h.1)))
          (λ (h : (w ≡ 65535) × (Joining arcs i j → ⊥)). absurd (omega (arith, h.0)))
          s.one_of_lem

  with_other : (a : Arc) (arcs : List Arc) (w : ℕ) → (a.from ≡ i → a.to ≡ j → ⊥) → Shortest arcs i j w → Shortest (a ∷ arcs) i j w
  with_other a arcs w apart s = record {
    no_shorter = λ g. back g (split a arcs g);
    one_of_lem =
        ⊎_elim (λ (h : (g : Joining arcs i j) × (w ≡ held g.arc.length)). inl (tail_of a arcs h.0, h.1))
        (λ (h : (w ≡ 65535) × (Joining arcs i j → ⊥)). inr (h.0, λ g. none g h.1 (split a arcs g)))
        s.one_of_lem;
    never_none = λ g e. omega (arith, back g (split a arcs g), e);
  }
    where
      never : (g : Joining (a ∷ arcs) i j) → g.arc ≡ a → ⊥
      never g q = apart (sym (ap (λ (x : Arc). x.from) q) ∙ g.from_i) (sym (ap (λ (x : Arc). x.to) q) ∙ g.to_j)

      back : (g : Joining (a ∷ arcs) i j) → (g.arc ≡ a) ⊎ ((h : Joining arcs i j) × (h.arc ≡ g.arc)) → w ≤ held g.arc.length
      back g (inl q) = absurd (never g q)
      back g (inr h) = rw (ap (λ (x : Arc). held x.length) h.1) at (s.no_shorter h.0)

      none : (g : Joining (a ∷ arcs) i j) → (Joining arcs i j → ⊥) → (g.arc ≡ a) ⊎ ((h : Joining arcs i j) × (h.arc ≡ g.arc)) → ⊥
      none g k (inl q) = never g q
      none g k (inr h) = k h.0

  more : (a : Arc) (arcs : List Arc) → Shortest arcs i j (least (lengths i j arcs)) → (b : Bool) → joins i j a ≡ b
      → Shortest (a ∷ arcs) i j (least (lengths i j (a ∷ arcs)))
  unfolding lengths least
  more a arcs s true e =
      let both : (a.from ≡ i) × (a.to ≡ j) = joined_both a i j e in
      rw e (with_joined a arcs (least (lengths i j arcs)) both.0 both.1 (least_most (lengths i j arcs)) s)
  more a arcs s false e = rw e (with_other a arcs (least (lengths i j arcs)) (λ p q. true≢false (sym (joins_true a p q) ∙ e)) s)

  shortest_of : (arcs : List Arc) → Shortest arcs i j (least (lengths i j arcs))
  shortest_of [] = shortest_nil
  shortest_of (a ∷ arcs) = more a arcs (shortest_of arcs) (joins i j a) refl

pub each_shortest : EachShortest
each_shortest arcs i j h = rw (ne_eqb i j h) (shortest_of i j arcs)
