-- A way's repeats can be cut out, and its word gets no worse.
use Prim.Native.Nat.{ℕ}
use native.Mathlib.Decide.{ℕ_discrete}
use mathlib.Core.Path.{◌≡◌, refl}
use mathlib.Core.List.{List, [], ◌∷◌}
use Rattle.semiring.specs.declared.Algebra.{Algebra}
use Rattle.semiring.proofs.Order.{AsGood, good_refl, good_trans, product_good, behind_good}
use Rattle.closure.specs.Table.{Table}
use Rattle.closure.specs.Ways.{Way, stay, step, way_word, Visits, now, later, NoRepeat, end, more}
use Rattle.closure.proofs.Links.{Links}
use Rattle.closure.proofs.Ways.{step_word, way_word_lem}

pub visits_none : {p : ℕ} → Visits p [] → ⊥
visits_none = elim [ ]

visits_cons : {p q : ℕ} {l : List ℕ} → Visits p (q ∷ l) → (p ≡ q → ⊥) → (Visits p l → ⊥) → ⊥
visits_cons now f g = f refl
visits_cons (later v) f g = g v

visits? : (p : ℕ) (l : List ℕ) → Dec (Visits p l)
visits? p [] = no visits_none
visits? p (q ∷ l) =
    elim (ℕ_discrete p q) [
      | yes e ↦ yes (rw e now)
      | no f ↦ elim (visits? p l) [ yes v ↦ yes (later v) | no g ↦ no (λ v. visits_cons v f g) ]
    ]

module _ {a : Algebra} {t : Table} (links : Links a t) where
  -- The rest of a way is at least as good as the way.
  pub rest_good : {n k j : ℕ} {l : List ℕ} (i : ℕ) → Way n k j l → AsGood a (way_word a t l) (way_word a t (i ∷ l))
  rest_good {k} {l} i w = rw (step_word a t i w) (behind_good (links.word i k) (way_word_lem links l))

  -- The part of a way without repeats that begins at a point it visits.
  from_visit : {n k p j : ℕ} {l : List ℕ} → Way n k j l → NoRepeat l → Visits p l
      → (l' : List ℕ) × Way n p j l' × NoRepeat l' × AsGood a (way_word a t l') (way_word a t l)
  from_visit (stay {i} h) r now = (i ∷ [], stay h, r, good_refl (way_word_lem links (i ∷ [])))
  from_visit (stay h) r (later v) = absurd (visits_none v)
  from_visit (step {i} {l} h w) r now = (i ∷ l, step h w, r, good_refl (way_word_lem links (i ∷ l)))
  from_visit (step {i} h w) (more f r) (later v) =
      let (l', w', r', g) = from_visit w r v in
      (l', w', r', good_trans g (rest_good i w))

  -- Simplify what follows the first point; if that visits the first point, begin there, else put the point in front.
  pub simple : {n i j : ℕ} {l : List ℕ} → Way n i j l
      → (l' : List ℕ) × Way n i j l' × NoRepeat l' × AsGood a (way_word a t l') (way_word a t l)
  simple (stay {i} h) = (i ∷ [], stay h, more visits_none end, good_refl (way_word_lem links (i ∷ [])))
  simple (step {i} {k} h w) =
      let (l', w', r, g) = simple w in
      elim (visits? i l') [
        | yes v ↦
            let (l'', w'', r'', g'') = from_visit w' r v in
            (l'', w'', r'', good_trans g'' (good_trans g (rest_good i w)))
        | no f ↦ (
          i ∷ l',
          step h w',
          more f r,
          rw (step_word a t i w, step_word a t i w') (product_good (good_refl (links.word i k)) g),
        )
      ]
